-- Tables in order: what fills need of the tables, and keep.
use Rattle.std.specs.Prelude.{◌≡◌, ◌↔◌, ℕ, ◌≤◌, List, length, take, drop}
use Rattle.std.specs.List.{Contains}
use Rattle.xv_pte.specs.GStage.{IsTableOf}
use Rattle.xv_region.specs.declared.plan.Region.{Region}
use Rattle.xv_gstage.specs.Blocks.{HangsAt, IsTouched}
use Rattle.xv_gstage.specs.Memory.{AreZero}
use Rattle.xv_gstage.specs.Own.{table_frames}

abbrev pub used_tables : List Region → List ℕ → ℕ → List ℕ
used_tables regions frames used = take used (table_frames regions frames)

abbrev pub spare_tables : List Region → List ℕ → ℕ → List ℕ
spare_tables regions frames used = drop used (table_frames regions frames)

-- the first `used` table frames are the tables of the root, and the others are free
pub record Tidy (bytes : List ℕ) (root : ℕ) (regions : List Region) (frames : List ℕ) (used : ℕ)
    : Type 0 where
  pub room : used ≤ length (table_frames regions frames)
  -- exactly they are the tables to which pointers of the root and of its tables lead
  pub tables : (table : ℕ)
      → IsTableOf bytes root table ↔ Contains (used_tables regions frames used) table
  -- each is named by one pointer alone
  pub once : (table depth index other place : ℕ) → HangsAt bytes root table depth index
      → HangsAt bytes root table other place → (depth ≡ other) × (index ≡ place)
  -- each pointer stands at a block that has memory
  pub touched : (table depth index : ℕ) → HangsAt bytes root table depth index
      → IsTouched regions depth index
  pub spare : AreZero bytes (spare_tables regions frames used)

-- some number of them are in use
abbrev pub IsTidy : List ℕ → ℕ → List Region → List ℕ → Type 0
IsTidy bytes root regions frames = (used : ℕ) × Tidy bytes root regions frames used
