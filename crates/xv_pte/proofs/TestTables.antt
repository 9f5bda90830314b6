-- Memories for tests, whose pointers all name frames of the memory.
use Rattle.std.proofs.Common.{◌≡◌, ℕ, ◌+◌, ◌*◌, ◌^◌, ◌<◌, ◌≤◌, List, length, replicate, refl}
use Rattle.std.proofs.Common.{sym, ap, ◌∙◌, ◌⊎◌, inl, inr, arith}
use Rattle.std.proofs.lemmas.Bool.{cases_lt}
use Rattle.xv_mem.specs.Bytes.{put_word}
use Rattle.xv_mem.proofs.Words.{word_at-put_word, word_at-put_word_apart, word_at-replicate}
use Rattle.xv_mem.proofs.Words.{length-put_word}
use Rattle.xv_pte.specs.declared.g_entry.GEntry.TheVariants.{Pointer, Nothing}
use Rattle.xv_pte.specs.GStage.{entry_of, word_in, entry_in, IsTableOf, Middle, Last, HasTables}
use Rattle.xv_pte.specs.Targets.{HasTargets}

entry_of_zero : entry_of 0 ≡ Nothing
unfolding entry_of
entry_of_zero = refl

pub zeros_targets : (n : ℕ) → HasTargets (replicate n 0)
unfolding word_in
zeros_targets n = record {
  target = λ slot table e.
      let none = ap entry_of (word_at-replicate 8 n (8 * slot)) ∙ entry_of_zero in cc;
}

module _ (bytes : List ℕ) (slot value : ℕ) (inside : 8 * slot + 8 ≤ length bytes)
    (fits : value < 2 ^ 64) (known : (table : ℕ) → entry_of value ≡ Pointer table
    → 4096 * table + 4096 ≤ length bytes) (has : HasTargets bytes) where
  new : List ℕ
  new = put_word 8 bytes (8 * slot) value

  same_length : length new ≡ length bytes
  unfolding new
  same_length = length-put_word 8 bytes (8 * slot) value inside

  away : (at : ℕ) → (8 * at + 8 ≤ 8 * slot) ⊎ (8 * slot + 8 ≤ 8 * at)
      → entry_in new at ≡ entry_in bytes at
  unfolding word_in new
  away at out = ap entry_of (word_at-put_word_apart 8 8 bytes (8 * slot) value (8 * at) inside out)

  here : entry_in new slot ≡ entry_of value
  unfolding word_in new
  here = ap entry_of (word_at-put_word 8 bytes (8 * slot) value inside fits)

  target_of : (at table : ℕ) → entry_in new at ≡ Pointer table
      → 4096 * table + 4096 ≤ length bytes
  target_of at table e =
      elim (cases_lt at slot) [
        | inl before ↦ has.target at table (sym (away at (inl (omega arith))) ∙ e)
        | inr le ↦ elim (cases_lt slot at) [
          | inl after ↦ has.target at table (sym (away at (inr (omega arith))) ∙ e)
          | inr ge ↦
              let one : slot ≡ at = omega arith in
              known table (sym here ∙ ap (entry_in new) one ∙ e)
        ]
      ]

  pub put_targets : HasTargets (put_word 8 bytes (8 * slot) value)
  unfolding new
  put_targets = record {
    target = λ at table e. let le = target_of at table e in rw same_length le;
  }

pub has_tables_of_targets : (bytes : List ℕ) (root : ℕ) → 16384 * root + 16384 ≤ length bytes
    → HasTargets bytes → HasTables bytes root
has_tables_of_targets bytes root inside has = record {
  root_inside = inside;
  tables_inside = λ table is. table_inside table is;
}
  where
    table_inside : (table : ℕ) → IsTableOf bytes root table → 4096 * table + 4096 ≤ length bytes
    table_inside n (Middle i table lt e) = has.target (2048 * root + i) table e
    table_inside n (Last i middle j table lt e lj f) = has.target (512 * middle + j) table f
