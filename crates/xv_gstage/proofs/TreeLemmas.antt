-- The tables of a root hang at blocks, and a page is led by the entries of its block and its own.
use Rattle.std.proofs.Common.{◌≡◌, ℕ, zero, suc, ◌+◌, ◌*◌, ◌/◌, ◌%◌, ◌^◌, ◌<◌, ◌≤◌, nat_lt}
use Rattle.std.proofs.Common.{true, false, cond, List, Option, Some, None, refl, sym, ap, ◌∙◌}
use Rattle.std.proofs.Common.{arith, inl, inr}
use Rattle.std.proofs.lemmas.Bool.{cases_lt}
use Rattle.std.proofs.lemmas.Bool.Decides.{nat_tests}
use Rattle.xv_pte.specs.declared.g_entry.GEntry.{GEntry}
use Rattle.xv_pte.specs.declared.g_entry.GEntry.TheVariants.{Pointer, Page, Nothing}
use Rattle.xv_pte.specs.declared.g_entry.Mapping.{Mapping}
use Rattle.xv_pte.specs.GStage.{IsTableOf, Last, Middle, SameTables, at_last, at_middle, at_root}
use Rattle.xv_pte.specs.GStage.{entry_in, entry_of, in_block, led}
use Rattle.xv_gstage.specs.Blocks.{HangsAt, IsBlock, block_count, entry_below, entry_for}

module _ (bytes : List ℕ) (root : ℕ) where
  at_root_is : (index : ℕ) → entry_for bytes root 0 index ≡ entry_in bytes (2048 * root + index)
  unfolding entry_for
  at_root_is index = refl

  at_middle_is : (index : ℕ) → entry_for bytes root 1 index
      ≡ entry_below bytes (entry_in bytes (2048 * root + index / 512)) (index % 512)
  unfolding entry_for
  at_middle_is index = refl

  deep : (depth : ℕ) → suc (suc depth) < 2 → ⊥
  deep depth lt = omega arith

  from_middle : (index table : ℕ) → index < 1048576 → (up : GEntry)
      → entry_in bytes (2048 * root + index / 512) ≡ up
      → entry_below bytes up (index % 512) ≡ Pointer table → IsTableOf bytes root table
  from_middle index table lt (Pointer middle) e f =
      Last (index / 512) middle (index % 512) table (omega arith) e (omega arith) f
  from_middle index table lt (Page mapping) e f = cc
  from_middle index table lt Nothing e f = cc

  pub table-of_hang : (table depth index : ℕ) → HangsAt bytes root table depth index
      → IsTableOf bytes root table
  unfolding block_count
  table-of_hang table zero index h =
      Middle index table h.block.below (sym (at_root_is index) ∙ h.pointer)
  table-of_hang table (suc zero) index h =
      from_middle index table h.block.below (entry_in bytes (2048 * root + index / 512)) refl
      (sym (at_middle_is index) ∙ h.pointer)
  table-of_hang table (suc (suc depth)) index h = absurd (deep depth h.block.above)

  pub hang-of_table : (table : ℕ) → IsTableOf bytes root table
      → (depth : ℕ) × (index : ℕ) × HangsAt bytes root table depth index
  unfolding block_count
  hang-of_table n (Middle i table lt e) = (
    0,
    i,
    record {
      block = record { above = omega arith; below = lt };
      pointer = at_root_is i ∙ e;
    },
  )
  hang-of_table n (Last i middle j table lt e lj f) =
      let high : (512 * i + j) / 512 ≡ i = omega arith in
      let low : (512 * i + j) % 512 ≡ j = omega arith in
      let up : entry_in bytes (2048 * root + (512 * i + j) / 512) ≡ Pointer middle =
      ap (λ k. entry_in bytes (2048 * root + k)) high ∙ e in (
        1,
        512 * i + j,
        record {
          block = record { above = omega arith; below = omega arith };
          pointer =
              at_middle_is (512 * i + j)
              ∙ ap (λ e. entry_below bytes e ((512 * i + j) % 512)) up
              ∙ ap (λ k. entry_in bytes (512 * middle + k)) low
              ∙ f;
        },
      )

-- ---- where a page is led

abbrev pub lead : ℕ → (middle last : GEntry) → Option Mapping
lead page (Pointer table) last = at_last last
lead page (Page mapping) last = in_block page mapping
lead page Nothing last = None

module _ (bytes : List ℕ) (root page : ℕ) where
  middle_leads : (e : GEntry)
      → at_middle bytes page e ≡ lead page e (entry_below bytes e (page % 512))
  middle_leads (Pointer table) = refl
  middle_leads (Page mapping) = refl
  middle_leads Nothing = refl

  root_leads : (up : GEntry) → at_root bytes page up
      ≡ lead page (entry_below bytes up (page / 512 % 512))
      (entry_below bytes (entry_below bytes up (page / 512 % 512)) (page % 512))
  root_leads (Pointer table) = middle_leads (entry_in bytes (512 * table + page / 512 % 512))
  root_leads (Page mapping) = refl
  root_leads Nothing = refl

  pub led-entries : page < 2 ^ 29 → led bytes root page
      ≡ lead page (entry_for bytes root 1 (page / 512)) (entry_for bytes root 2 page)
  unfolding led entry_for
  led-entries lt =
      let test : nat_lt page (2 ^ 29) ≡ true = grind (arith, nat_tests) in
      let place : page / 2 ^ 18 ≡ page / 512 / 512 = omega arith in
      ap (λ b. cond b (at_root bytes page (entry_in bytes (2048 * root + page / 2 ^ 18))) None) test
      ∙ ap (λ k. at_root bytes page (entry_in bytes (2048 * root + k))) place
      ∙ root_leads (entry_in bytes (2048 * root + page / 512 / 512))

  pub led-high : 2 ^ 29 ≤ page → led bytes root page ≡ None
  unfolding led
  led-high le =
      let test : nat_lt page (2 ^ 29) ≡ false = grind (arith, nat_tests) in
      ap (λ b. cond b (at_root bytes page (entry_in bytes (2048 * root + page / 2 ^ 18))) None) test

pub led-low : (bytes : List ℕ) (root page : ℕ) (to : Mapping) → led bytes root page ≡ Some to
    → page < 2 ^ 29
led-low bytes root page to e = elim (cases_lt page (2 ^ 29)) [
  | inl lt ↦ lt
  | inr le ↦ let none = led-high bytes root page le in cc
]

-- ---- memories that agree on the tables of a root

module _ (old new : List ℕ) (root : ℕ) (same : SameTables old new root) where
  entry-same : (depth index : ℕ) → IsBlock depth index
      → entry_for new root depth index ≡ entry_for old root depth index
  unfolding block_count
  entry-same zero index block =
      at_root_is new root index
      ∙ ap entry_of (same.root_same index block.below)
      ∙ sym (at_root_is old root index)
  entry-same (suc zero) index block =
      let below = block.below in
      at_middle_is new root index
      ∙ ap (λ e. entry_below new e (index % 512))
      (ap entry_of (same.root_same (index / 512) (omega arith)))
      ∙ below_same (entry_in old (2048 * root + index / 512)) refl
      ∙ sym (at_middle_is old root index)
    where
      below_same : (up : GEntry) → entry_in old (2048 * root + index / 512) ≡ up
          → entry_below new (entry_in old (2048 * root + index / 512)) (index % 512)
          ≡ entry_below old (entry_in old (2048 * root + index / 512)) (index % 512)
      below_same (Pointer table) e =
          let less = block.below in
          let words = same.tables_same table
          (Middle (index / 512) table (omega arith) e) (index % 512) (omega arith) in
          ap (λ u. entry_below new u (index % 512)) e
          ∙ ap entry_of words
          ∙ ap (λ u. entry_below old u (index % 512)) (sym e)
      below_same (Page mapping) e =
          ap (λ u. entry_below new u (index % 512)) e
          ∙ ap (λ u. entry_below old u (index % 512)) (sym e)
      below_same Nothing e =
          ap (λ u. entry_below new u (index % 512)) e
          ∙ ap (λ u. entry_below old u (index % 512)) (sym e)
  entry-same (suc (suc depth)) index block =
      let above = block.above in absurd (omega arith)

  pub hang-same : (table depth index : ℕ) → HangsAt old root table depth index
      → HangsAt new root table depth index
  hang-same table depth index h =
      record { block = h.block; pointer = entry-same depth index h.block ∙ h.pointer }
