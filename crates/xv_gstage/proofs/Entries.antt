-- What one entry that is written changes: its own, and no other that a walk reads.
use Rattle.std.proofs.Common.{◌≡◌, ◌≢◌, ℕ, zero, suc, ◌+◌, ◌*◌, ◌/◌, ◌%◌, ◌<◌, List, refl, sym}
use Rattle.std.proofs.Common.{ap, ◌∙◌, subst, arith, inl, inr, ◌⊎◌}
use Rattle.std.proofs.lemmas.Bool.{cases_eq}
use Rattle.xv_pte.specs.declared.g_entry.GEntry.{GEntry}
use Rattle.xv_pte.specs.declared.g_entry.GEntry.TheVariants.{Pointer, Page, Nothing}
use Rattle.xv_pte.specs.GStage.{entry_in, entry_of}
use Rattle.xv_gstage.specs.Blocks.{HangsAt, IsBlock, block_count, entry_below, entry_for}
use Rattle.xv_gstage.specs.Write.{Wrote}

-- a block or a page
pub record InRange (depth index : ℕ) : Type 0 where
  pub above : depth < 3
  pub below : index < block_count depth

pub parent : (depth index : ℕ) → InRange (suc depth) index → IsBlock depth (index / 512)
unfolding block_count
parent depth index r =
    let above = r.above in
    let below = r.below in
    record { above = omega arith; below = omega arith }

pub range_of : (depth index : ℕ) → IsBlock depth index → InRange depth index
range_of depth index b =
    let above = b.above in record { above = omega arith; below = b.below }

-- the slot of the entry for a block
abbrev pub IsSlot : List ℕ → (root depth index slot : ℕ) → Type 0
IsSlot bytes root zero index slot = slot ≡ 2048 * root + index
IsSlot bytes root (suc depth) index slot =
    (table : ℕ) × (entry_for bytes root depth (index / 512) ≡ Pointer table)
    × (slot ≡ 512 * table + index % 512)

pub entry-slot : (bytes : List ℕ) (root depth index slot : ℕ)
    → IsSlot bytes root depth index slot
    → entry_for bytes root depth index ≡ entry_in bytes slot
unfolding entry_for
entry-slot bytes root zero index slot is = ap (entry_in bytes) (sym is)
entry-slot bytes root (suc depth) index slot (table, e, is) =
    ap (λ up. entry_below bytes up (index % 512)) e ∙ ap (entry_in bytes) (sym is)

-- tables stand in no frame of the root, and each hangs at one block
pub record IsTree (bytes : List ℕ) (root : ℕ) : Type 0 where
  pub off : (table depth index : ℕ) → HangsAt bytes root table depth index → table / 4 ≢ root
  pub once : (table depth index other place : ℕ) → HangsAt bytes root table depth index
      → HangsAt bytes root table other place → (depth ≡ other) × (index ≡ place)

module _ (bytes : List ℕ) (root : ℕ) (tree : IsTree bytes root) where
  in_root : (index other place slot : ℕ) → InRange 0 index → InRange (suc other) place
      → IsSlot bytes root 0 index slot → IsSlot bytes root (suc other) place slot → ⊥
  unfolding block_count
  in_root index other place slot r s is (table, e, at) =
      let below = r.below in
      let out = tree.off table other (place / 512)
      (record { block = parent other place s; pointer = e }) in
      let here : table / 4 ≡ root = omega arith in
      out here

  -- one slot is the entry of one block
  pub slot-one : (depth index other place slot : ℕ) → InRange depth index → InRange other place
      → IsSlot bytes root depth index slot → IsSlot bytes root other place slot
      → (depth ≡ other) × (index ≡ place)
  slot-one zero index zero place slot r s is at = (refl, omega arith)
  slot-one zero index (suc other) place slot r s is at =
      absurd (in_root index other place slot r s is at)
  slot-one (suc depth) index zero place slot r s is at =
      absurd (in_root place depth index slot s r at is)
  slot-one (suc depth) index (suc other) place slot r s (table, e, is) (table', e', at) =
      let same : table' ≡ table = omega arith in
      let found = tree.once table depth (index / 512) other (place / 512)
      (record { block = parent depth index r; pointer = e })
      (record { block = parent other place s; pointer = e' ∙ ap Pointer same }) in
      let depths = found.0 in
      let indexes = found.1 in
      (omega arith, omega arith)

-- a write at the entry of block K of depth D, which changes nothing of what is below it
module _ (old new : List ℕ) (root : ℕ) (tree : IsTree old root) (D K slot value : ℕ)
    (range : InRange D K) (at : IsSlot old root D K slot) (wrote : Wrote old new slot value)
    (quiet : D < 2 → (i : ℕ) → i < 512
    → entry_below new (entry_of value) i ≡ entry_below old (entry_for old root D K) i) where
  other_slot : (depth index place : ℕ) → InRange depth index → IsSlot old root depth index place
      → ((depth ≡ D) × (index ≡ K) → ⊥) → entry_in new place ≡ entry_in old place
  other_slot depth index place r is differs =
      ap entry_of (wrote.words place (λ same.
      let here : IsSlot old root depth index slot = subst (IsSlot old root depth index) same is in
      differs (slot-one old root tree depth index D K slot r range here at)))

  below_same : (depth index : ℕ) → InRange (suc depth) index
      → ((suc depth ≡ D) × (index ≡ K) → ⊥) → (up : GEntry)
      → entry_for old root depth (index / 512) ≡ up
      → entry_below new up (index % 512) ≡ entry_below old up (index % 512)
  below_same depth index r differs (Pointer table) e =
      other_slot (suc depth) index (512 * table + index % 512) r (table, e, refl) differs
  below_same depth index r differs (Page mapping) e = refl
  below_same depth index r differs Nothing e = refl

  by_parent : (depth index : ℕ) → ((depth ≡ D) × (index ≡ K))
      ⊎ ((depth ≡ D) × (index ≡ K) → ⊥)
  by_parent depth index = elim (cases_eq depth D) [
    | inr ne ↦ inr (λ both. ne both.0)
    | inl e ↦ elim (cases_eq index K) [
      | inl f ↦ inl (e, f)
      | inr ne ↦ inr (λ both. ne both.1)
    ]
  ]

  unchanged-if : (depth index : ℕ) → InRange depth index
      → ((depth ≡ D) × (index ≡ K) → ⊥)
      → (D < depth → entry_for new root D K ≡ entry_of value)
      → entry_for new root depth index ≡ entry_for old root depth index
  unfolding entry_for
  unchanged-if zero index r differs here =
      other_slot 0 index (2048 * root + index) r refl differs
  unchanged-if (suc depth) index r differs here = elim (by_parent depth (index / 512)) [
    | inl same ↦
        let depths = same.0 in
        let above = r.above in
        let deep : D < 2 = omega arith in
        let less : D < suc depth = omega arith in
        let up_new : entry_for new root depth (index / 512) ≡ entry_of value =
        rw (same.0, same.1) (here less) in
        let up_old : entry_for old root depth (index / 512) ≡ entry_for old root D K =
        rw (same.0, same.1) refl in
        ap (λ up. entry_below new up (index % 512)) up_new
        ∙ quiet deep (index % 512) (omega arith)
        ∙ ap (λ up. entry_below old up (index % 512)) (sym up_old)
    | inr apart ↦
        let block = parent depth index r in
        ap (λ up. entry_below new up (index % 512))
        (unchanged-if depth (index / 512) (range_of depth (index / 512) block) apart
        (λ less. here (omega arith)))
        ∙ below_same depth index r differs (entry_for old root depth (index / 512)) refl
  ]

  slot_new : (depth : ℕ) → depth ≡ D → IsSlot old root depth K slot
      → IsSlot new root depth K slot
  slot_new zero e is = is
  slot_new (suc depth) e (table, up, is) =
      let r : InRange (suc depth) K = subst (λ d. InRange d K) (sym e) range in
      let block = parent depth K r in (
        table,
        unchanged-if depth (K / 512) (range_of depth (K / 512) block)
            (λ both. let same = both.0 in absurd (omega arith))
            (λ less. absurd (omega arith))
            ∙ up,
        is,
      )

  pub written : entry_for new root D K ≡ entry_of value
  written =
      entry-slot new root D K slot (slot_new D refl at) ∙ ap entry_of wrote.here

  pub unchanged : (depth index : ℕ) → InRange depth index → ((depth ≡ D) × (index ≡ K) → ⊥)
      → entry_for new root depth index ≡ entry_for old root depth index
  unchanged depth index r differs = unchanged-if depth index r differs (λ less. written)
