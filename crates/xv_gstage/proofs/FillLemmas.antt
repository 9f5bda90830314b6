-- The steps of one fill.
use Rattle.std.proofs.Common.{◌≡◌, ℕ, ◌+◌, ◌*◌, ◌/◌, ◌%◌, ◌^◌, ◌<◌, ◌≤◌}
use Rattle.std.proofs.Common.{true, List, length, get_or, Some}
use Rattle.std.proofs.Common.{None, refl, sym, ap, ◌∙◌, subst, arith, inl, inr}
use Rattle.std.proofs.lemmas.Bool.Decides.{nat_tests}
use Rattle.xv_pte.specs.declared.g_entry.GEntry.TheVariants.{Pointer}
use Rattle.xv_pte.specs.declared.g_entry.Mapping.{Mapping}
use Rattle.xv_pte.specs.GStage.{led, pointer_word, leaf_word}
use Rattle.xv_region.specs.declared.plan.Region.{Region}
use Rattle.xv_region.specs.Cell.{bytes_at, holds, span_of}
use Rattle.xv_region.specs.Need.{is_mapped, touches}
use Rattle.xv_region.specs.Rules.{Accepted}
use Rattle.xv_base.specs.Range.{meets}
use Rattle.xv_region.proofs.RuleLemmas.{both}
use Rattle.xv_gstage.specs.declared.tables.Found.{Found}
use Rattle.xv_gstage.specs.Blocks.{IsBlock, IsTouched, block_count, entry_for}
use Rattle.xv_gstage.specs.Fill.{IsFill}
use Rattle.xv_gstage.specs.Memory.{HasFrames}
use Rattle.xv_gstage.specs.Own.{is_memory_page, maps_page, own, pages_of}
use Rattle.xv_gstage.specs.Own.{table_frames}
use Rattle.xv_gstage.specs.Tidy.{Tidy}
use Rattle.xv_gstage.specs.Write.{Hung, IsFound, IsHung, IsNoPointer, Stood, Wrote}
use Rattle.xv_gstage.proofs.CellsOf.{any-at, holds-parts, some-at, whole-at}
use Rattle.xv_gstage.proofs.Entries.{IsSlot, entry-slot, range_of}
use Rattle.xv_gstage.proofs.Lists.{drop-contains, pairs-drop, take-contains}
use Rattle.xv_gstage.proofs.OwnPages.{own-where}
use Rattle.xv_gstage.proofs.Room.{need-pages, table-left}
use Rattle.xv_gstage.proofs.Steps.{AreTables, hang-led, hang-pointer, hang-tidy, hung, known}
use Rattle.xv_gstage.proofs.Steps.{leaf-led, leaf-outside, leaf-tidy, leaf-unled, slot-inside}
use Rattle.xv_gstage.proofs.Steps.{step-outside}

-- ---- a page of memory is in touched blocks

touches_page : (size k page : ℕ) (r : Region) → is_mapped r.kind ≡ true → k * size ≤ 4096 * page
    → 4096 * page < k * size + size → r.base ≤ 4096 * page → 4096 * page < r.base + r.size
    → touches size k r ≡ true
touches_page size k page r mapped low high start end =
    let shared : meets (bytes_at (k * size) size) (span_of r) ≡ true = grind (arith, nat_tests) in
    rw (mapped, shared) refl

module _ (regions : List Region) (page : ℕ) (memory : is_memory_page regions page ≡ true) where
  found : (k : ℕ) × (r : Region) × (k < length regions) × (r ≡ get_or regions k r)
      × (maps_page page r ≡ true)
  unfolding is_memory_page
  found = some-at (maps_page page) regions memory

  parts : (is_mapped found.1.kind ≡ true) × (holds (bytes_at (4096 * page) 1) found.1 ≡ true)
  parts = both (is_mapped found.1.kind) (holds (bytes_at (4096 * page) 1) found.1) found.4

  bounds : (found.1.base ≤ 4096 * page) × (4096 * page < found.1.base + found.1.size)
  bounds = holds-parts (4096 * page) found.1 parts.1

  pub upper-touched : IsTouched regions 0 (page / 512 / 512)
  upper-touched =
      any-at (touches (2 ^ 30) (page / 512 / 512)) regions found.0 found.1 found.2 found.3
      (touches_page (2 ^ 30) (page / 512 / 512) page found.1 parts.0 (omega arith) (omega arith)
      bounds.0 bounds.1)

  pub lower-touched : IsTouched regions 1 (page / 512)
  lower-touched =
      any-at (touches (2 ^ 21) (page / 512)) regions found.0 found.1 found.2 found.3
      (touches_page (2 ^ 21) (page / 512) page found.1 parts.0 (omega arith) (omega arith)
      bounds.0 bounds.1)

  pub page-low : Accepted regions → page < 2 ^ 29
  page-low accepted =
      let end = (whole-at regions accepted found.0 found.1 found.2 found.3).end in
      let less = bounds.1 in
      omega arith

-- ---- the tables of the list

pub are-tables : (size root : ℕ) (regions : List Region) (frames : List ℕ)
    → HasFrames size root regions frames → size ≤ 2 ^ 44
    → AreTables size root (table_frames regions frames)
are-tables size root regions frames has small = record {
  once = pairs-drop frames has.once (pages_of regions);
  off = λ table in_it. has.off_root table (drop-contains (pages_of regions) frames table in_it);
  inside = λ table in_it.
      has.lie.inside table (drop-contains (pages_of regions) frames table in_it);
  small = λ table in_it.
      let low = has.lie.inside table (drop-contains (pages_of regions) frames table in_it) in
      omega arith;
}

module _ (root : ℕ) (regions : List Region) (frames : List ℕ) (accepted : Accepted regions)
    (old : List ℕ) (has : HasFrames (length old) root regions frames)
    (small : length old ≤ 2 ^ 44) where
  are : AreTables (length old) root (table_frames regions frames)
  are = are-tables (length old) root regions frames has small

  module _ (used : ℕ) (tidy : Tidy old root regions frames used) where
    -- a table at a block is one of those in use
    pub table-inside : (depth index table : ℕ) → IsBlock depth index
        → entry_for old root depth index ≡ Pointer table
        → (4096 * table + 4096 ≤ length old) × (table < 2 ^ 32)
    table-inside depth index table block e =
        let inside = are.inside table (take-contains used (table_frames regions frames) table
        (known root regions frames old are used tidy table depth index
        (record { block = block; pointer = e }))) in
        (inside, omega arith)

    module _ (D K slot : ℕ) (block : IsBlock D K) (at : IsSlot old root D K slot)
        (touched : IsTouched regions D K) where
      pub entry-inside : 8 * slot + 8 ≤ length old
      entry-inside =
          slot-inside root regions frames old are used tidy D K slot has.lie.root_inside
          (range_of D K block) at

      pub room-left : IsNoPointer old slot → used < length (table_frames regions frames)
      room-left free =
          table-left regions frames has.enough are.once old root used tidy.room
          (hung root regions frames old are used tidy)
          (λ table other depth index a b.
          let same : Pointer table ≡ Pointer other = sym a.pointer ∙ b.pointer in cc)
          tidy.touched D K block touched
          (λ table h. free table (sym (entry-slot old root D K slot at) ∙ h.pointer))

      pub hung-of : (new : List ℕ) (tables : List ℕ) (found : Found)
          → tables ≡ table_frames regions frames
          → IsFound old new slot tables used found → (page : ℕ) → page < 2 ^ 29
          → led old root page ≡ None → (D ≡ 1 → page / 512 ≡ K)
          → IsHung old new root regions frames D K found
      hung-of new tables found is (Stood e same count) page low unled here =
          let P : List ℕ → Type 0 = λ bytes. IsHung old bytes root regions frames D K found in
          subst P (sym same) (record {
            tidy = subst (Tidy old root regions frames) (sym count) tidy;
            pointer = entry-slot old root D K slot at ∙ e;
            walks = λ page. refl;
            outside = record { whole = refl; bytes = λ i off apart. refl };
          })
      hung-of new tables found is (Hung free next count wrote) page low unled here =
          let left = room-left free in
          let is_next : found.table ≡ get_or (table_frames regions frames) used 0 =
          next ∙ ap (λ (xs : List ℕ). get_or xs used 0) is in
          let W : ℕ → Type 0 = λ t. Wrote old new slot (pointer_word t) in
          let written = subst W is_next wrote in
          record {
            tidy = subst (Tidy new root regions frames) (sym count)
                (hang-tidy root regions frames old new are used tidy D K slot block at free left
                touched written);
            pointer =
                hang-pointer root regions frames old new are used tidy D K slot block at free left
                touched written
                ∙ ap Pointer (sym is_next);
            walks =
                hang-led root regions frames old new are used tidy D K slot block at free left
                touched written page low unled here;
            outside =
                step-outside root regions frames old new are used tidy D K slot
                (pointer_word (get_or (table_frames regions frames) used 0)) (range_of D K block)
                at written;
          }

    -- the leaf
    module _ (page : ℕ) (low : page < 2 ^ 29) (table : ℕ)
        (pointer : entry_for old root 1 (page / 512) ≡ Pointer table) where
      leaf_at : IsSlot old root 2 page (512 * table + page % 512)
      leaf_at = (table, pointer, refl)

      pub leaf-inside : 8 * (512 * table + page % 512) + 8 ≤ length old
      unfolding block_count
      leaf-inside =
          slot-inside root regions frames old are used tidy 2 page (512 * table + page % 512)
          has.lie.root_inside (record { above = omega arith; below = low }) leaf_at

      module _ (new : List ℕ) (mapping : Mapping)
          (own_is : own regions frames page ≡ Some mapping) (fits : mapping.frame < 2 ^ 44)
          (wrote : Wrote old new (512 * table + page % 512) (leaf_word mapping)) where
        pub leaf-fill : IsFill old new root regions frames page
        leaf-fill = record {
          filled =
              leaf-led root regions frames old new are used tidy page (512 * table + page % 512)
              mapping low fits leaf_at wrote ∙ sym own_is;
          others =
              leaf-unled root regions frames old new are used tidy page
              (512 * table + page % 512) mapping low fits leaf_at wrote;
          outside =
              leaf-outside root regions frames old new are used tidy page
              (512 * table + page % 512) mapping low fits leaf_at wrote;
        }

        pub leaf-tidy-after : Tidy new root regions frames used
        leaf-tidy-after =
            leaf-tidy root regions frames old new are used tidy page (512 * table + page % 512)
            mapping low fits leaf_at wrote

  -- an own frame lies in the memory
  pub own-fits : (page : ℕ) (mapping : Mapping) → own regions frames page ≡ Some mapping
      → 4096 * mapping.frame + 4096 ≤ length old
  own-fits page mapping e =
      let enough = has.enough in
      let less = need-pages regions in
      elim (own-where regions accepted frames (omega arith) page mapping e) [
        | inl in_it ↦
            has.lie.inside mapping.frame
            (take-contains (pages_of regions) frames mapping.frame in_it)
        | inr in_it ↦ has.reserved mapping.frame in_it
      ]

pub blocks-of : (page : ℕ) → page < 2 ^ 29
    → IsBlock 0 (page / 512 / 512) × IsBlock 1 (page / 512)
unfolding block_count
blocks-of page low = (
  record { above = omega arith; below = omega arith },
  record { above = omega arith; below = omega arith },
)
