-- A root of zeros leads nowhere, and has no tables.
use Rattle.std.proofs.Common.{◌≡◌, ℕ, ◌+◌, ◌*◌, ◌/◌, ◌%◌, ◌^◌, ◌<◌, nat_lt, Bool, true, false, cond}
use Rattle.std.proofs.Common.{List, replicate, Option, None, refl, sym, ap, ◌∙◌, arith}
use Rattle.std.proofs.lemmas.Bool.{ltb-true}
use Rattle.xv_mem.specs.Bytes.{word_at}
use Rattle.xv_mem.proofs.Words.{word_at-range, word_at-replicate}
use Rattle.xv_pte.specs.declared.g_entry.GEntry.TheVariants.{Nothing}
use Rattle.xv_pte.specs.GStage.{entry_of, word_in, entry_in, root_slot, at_root, led, leaf_at}
use Rattle.xv_pte.specs.GStage.{walked, IsTableOf, Middle, Last, frame_bytes}

entry_of_zero : entry_of 0 ≡ Nothing
unfolding entry_of
entry_of_zero = refl

none_either_way : {A : Type 0} (test : Bool) (x : Option A) → (test ≡ true → x ≡ None)
    → cond test x None ≡ None
none_either_way true x none = none refl
none_either_way false x none = refl

module _ (bytes : List ℕ) (root : ℕ) (zeros : (i : ℕ) → i < 2048
    → word_in bytes (2048 * root + i) ≡ 0) where
  no_entry : (i : ℕ) → i < 2048 → entry_in bytes (2048 * root + i) ≡ Nothing
  no_entry i lt = ap entry_of (zeros i lt) ∙ entry_of_zero

  pub led_nowhere : (page : ℕ) → led bytes root page ≡ None
  unfolding led
  led_nowhere page =
      none_either_way (nat_lt page (2 ^ 29))
      (at_root bytes page (entry_in bytes (root_slot root page))) (λ lt.
      let low = ltb-true page (2 ^ 29) lt in
      ap (at_root bytes page) (no_entry (page / 2 ^ 18) (omega (arith, low))))

  pub walked_nowhere : (gpa : ℕ) → walked bytes root gpa ≡ None
  walked_nowhere gpa = ap (leaf_at gpa) (led_nowhere (gpa / 4096))

  pub no_table : (table : ℕ) → IsTableOf bytes root table → ⊥
  no_table n (Middle i table lt e) = let none = no_entry i lt in cc
  no_table n (Last i middle j table lt e lj f) = let none = no_entry i lt in cc

-- a frame of zeros has words of zeros
pub zero_words : (bytes : List ℕ) (frame : ℕ) → frame_bytes bytes frame ≡ replicate 4096 0
    → (i : ℕ) → i < 512 → word_in bytes (512 * frame + i) ≡ 0
unfolding word_in
zero_words bytes frame e i lt =
    let place : 8 * (512 * frame + i) ≡ 4096 * frame + 8 * i = omega arith in
    ap (word_at 8 bytes) place
    ∙ sym (word_at-range 8 bytes (4096 * frame) 4096 (8 * i) (omega arith))
    ∙ ap (λ (xs : List ℕ). word_at 8 xs (8 * i)) e
    ∙ word_at-replicate 8 4096 (8 * i)

-- four frames of zeros are a root of zeros
pub zero_root : (bytes : List ℕ) (root : ℕ) → ((frame : ℕ) → frame / 4 ≡ root
    → frame_bytes bytes frame ≡ replicate 4096 0)
    → (i : ℕ) → i < 2048 → word_in bytes (2048 * root + i) ≡ 0
zero_root bytes root zeros i lt =
    let place : 2048 * root + i ≡ 512 * (4 * root + i / 512) + i % 512 = omega arith in
    ap (word_in bytes) place
    ∙ zero_words bytes (4 * root + i / 512) (zeros (4 * root + i / 512) (omega arith)) (i % 512)
    (omega arith)
