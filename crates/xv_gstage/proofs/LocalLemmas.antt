-- Tables depend on the frames of their root and of their list alone.
use Rattle.std.proofs.Common.{◌≡◌, ◌↔◌, ℕ, ◌≤◌, Bool, true, false, List, length}
use Rattle.std.proofs.Common.{Some, refl, sym, ◌∙◌}
use Rattle.xv_pte.specs.declared.g_entry.Mapping.{Mapping}
use Rattle.xv_pte.specs.GStage.{IsTableOf, SameTables}
use Rattle.xv_pte.proofs.WalkLocal.{same_tables, same_back, table_after, table_before, walked_local}
use Rattle.xv_region.specs.declared.plan.Region.{Region}
use Rattle.xv_region.specs.Rules.{Accepted}
use Rattle.xv_gstage.specs.Blocks.{HangsAt}
use Rattle.xv_gstage.specs.Memory.{SameGround, SameWalks}
use Rattle.xv_gstage.specs.Own.{is_memory_page, own, pages_of, table_frames}
use Rattle.xv_gstage.specs.Tidy.{Tidy}
use Rattle.xv_gstage.proofs.Lists.{drop-contains, take-contains}
use Rattle.xv_gstage.proofs.OwnPages.{own-is, own-none, own-page}
use Rattle.xv_gstage.proofs.TreeLemmas.{hang-same}

ground-back : (old new : List ℕ) (root : ℕ) (frames : List ℕ) → SameGround old new root frames
    → SameGround new old root frames
ground-back old new root frames same = record {
  of_root = λ frame is. sym (same.of_root frame is);
  of_list = λ frame is. sym (same.of_list frame is);
}

module _ (old new : List ℕ) (root : ℕ) (regions : List Region) (frames : List ℕ) (used : ℕ)
    (same : SameGround old new root (table_frames regions frames))
    (tidy : Tidy old root regions frames used) where
  tables-same : SameTables old new root
  tables-same =
      same_tables old new root (record {
        root_frames = same.of_root;
        table_frames = λ table is.
            same.of_list table (take-contains used (table_frames regions frames) table
            ((tidy.tables table).0 is));
      })

  pub local-walks : SameWalks old new root
  local-walks gpa = walked_local old new root tables-same gpa

  pub local-tables : (table : ℕ) → IsTableOf new root table ↔ IsTableOf old root table
  local-tables table =
      (table_before old new root tables-same table, table_after old new root tables-same table)

  before : (table depth index : ℕ) → HangsAt new root table depth index
      → HangsAt old root table depth index
  before = hang-same new old root (same_back old new root tables-same)

  pub local-tidy : Tidy new root regions frames used
  local-tidy = record {
    room = tidy.room;
    tables = λ table. (
      λ is. (tidy.tables table).0 ((local-tables table).0 is),
      λ has. (local-tables table).1 ((tidy.tables table).1 has),
    );
    once = λ table depth index other place a b.
        tidy.once table depth index other place (before table depth index a)
        (before table other place b);
    touched = λ table depth index h. tidy.touched table depth index (before table depth index h);
    spare = λ table has.
        same.of_list table (drop-contains used (table_frames regions frames) table has)
        ∙ tidy.spare table has;
  }

pub tidy-both : (old new : List ℕ) (root : ℕ) (regions : List Region) (frames : List ℕ)
    (used : ℕ) → SameGround old new root (table_frames regions frames)
    → Tidy new root regions frames used ↔ Tidy old root regions frames used
tidy-both old new root regions frames used same = (
  λ tidy. local-tidy new old root regions frames used
      (ground-back old new root (table_frames regions frames) same) tidy,
  λ tidy. local-tidy old new root regions frames used same tidy,
)

pub owns : (regions : List Region) (frames : List ℕ) (page : ℕ) → Accepted regions
    → pages_of regions ≤ length frames
    → ((mapping : Mapping) × (own regions frames page ≡ Some mapping))
    ↔ (is_memory_page regions page ≡ true)
owns regions frames page accepted room = (
  λ some. by (is_memory_page regions page) refl some.0 some.1,
  λ memory. (
    (own-page regions accepted frames room page memory).mapping,
    own-is regions accepted frames room page memory,
  ),
)
  where
    by : (b : Bool) → is_memory_page regions page ≡ b → (mapping : Mapping)
        → own regions frames page ≡ Some mapping → is_memory_page regions page ≡ true
    by true e mapping is = e
    by false e mapping is = let none = own-none regions accepted frames page e in cc

pub ruleset owning = (owns)
