-- A word that is put is an entry written.
use Rattle.std.proofs.Common.{◌≢◌, ℕ, ◌+◌, ◌*◌, ◌/◌, ◌^◌, ◌<◌, ◌≤◌, List, length}
use Rattle.std.proofs.Common.{arith, inl, inr, ◌⊎◌}
use Rattle.std.proofs.lemmas.Bool.{cases_lt}
use Rattle.xv_mem.specs.Bytes.{put_word}
use Rattle.xv_mem.proofs.Words.{word_at-put_word, word_at-put_word_apart, length-put_word}
use Rattle.xv_mem.proofs.Words.{get_or-put_word_apart}
use Rattle.xv_pte.specs.GStage.{word_in}
use Rattle.xv_gstage.specs.Write.{Wrote}

apart : (a b : ℕ) → a ≢ b → (8 * a + 8 ≤ 8 * b) ⊎ (8 * b + 8 ≤ 8 * a)
apart a b ne = elim (cases_lt a b) [ inl lt ↦ inl (omega arith) | inr le ↦ inr (omega arith) ]

out : (i slot : ℕ) → i / 4096 ≢ slot / 512 → (i < 8 * slot) ⊎ (8 * slot + 8 ≤ i)
out i slot ne = elim (cases_lt i (8 * slot)) [ inl lt ↦ inl lt | inr le ↦ inr (omega arith) ]

pub wrote : (bytes : List ℕ) (slot value : ℕ) → 8 * slot + 8 ≤ length bytes → value < 2 ^ 64
    → Wrote bytes (put_word 8 bytes (8 * slot) value) slot value
unfolding word_in
wrote bytes slot value inside fits = record {
  whole = length-put_word 8 bytes (8 * slot) value inside;
  here = word_at-put_word 8 bytes (8 * slot) value inside fits;
  words = λ other ne.
      word_at-put_word_apart 8 8 bytes (8 * slot) value (8 * other) inside (apart other slot ne);
  bytes = λ i ne. get_or-put_word_apart 8 bytes (8 * slot) value i 0 inside (out i slot ne);
}
