-- The machine's readings of a register are the definitions'.
use Rattle.std.proofs.Common.{◌≡◌, ℕ, suc, ◌+◌, ◌-◌, ◌%◌, ◌^◌, ◌<◌, ◌≤◌, cond, sym, ap, ◌∙◌, arith}
use Rattle.std.proofs.Common.{inl, inr, nat_lt, ℤ, pos, negsuc, ◌-ℤ◌, ◌*ℤ◌, to_z, of_z}
use Rattle.std.specs.Int.{w64, w128}
use Rattle.std.specs.Int.{cast_signed, cast_unsigned}
use Rattle.std.specs.Int.RustNames.{FitsSigned, unsigned_abs}
use lib.Signed.{mag, shr_z}
use Rattle.std.proofs.lemmas.Int.{ints, to_z-of_z, fits_signed_mul}
use Rattle.std.proofs.lemmas.Bool.{lt-ltb, le-ltb, cases_lt}
use Rattle.xv_isa.specs.Operands.{sign_extended}
use Rattle.xv_isa.specs.Results.{residue, signed_at, word_extended, difference_of, high_half}

-- a reading below and from the sign bit on, at h = 2^(w - 1) and m = 2^w
below : (h m n : ℕ) → n < h → cond (nat_lt n h) (pos n) (pos n -ℤ pos m) ≡ pos n
below h m n p = ap (λ b. cond b (pos n) (pos n -ℤ pos m)) (lt-ltb n h p)

above : (h m n : ℕ) → h ≤ n → n < m
    → cond (nat_lt n h) (pos n) (pos n -ℤ pos m) ≡ negsuc (m - suc n)
above h m n p q =
    let e : pos n -ℤ pos m ≡ negsuc (m - suc n) = omega (arith, ints) in
    ap (λ b. cond b (pos n) (pos n -ℤ pos m)) (le-ltb n h p) ∙ e

pub word_of_low : (n low : ℕ) → low ≡ n % 2 ^ 32 → low < 2 ^ 31 → low ≡ word_extended n
word_of_low n low e p =
    let f : low ≡ low % 2 ^ 64 = omega arith in
    f ∙ sym (ap (residue 64) (below (2 ^ 31) (2 ^ 32) low p))
    ∙ ap (λ x. residue 64 (sign_extended 32 x)) e

pub word_of_high : (n low : ℕ) → low ≡ n % 2 ^ 32 → 2 ^ 31 ≤ low
    → low + (2 ^ 64 - 2 ^ 32) ≡ word_extended n
word_of_high n low e p =
    let q : low < 2 ^ 32 = omega arith in
    let f : low + (2 ^ 64 - 2 ^ 32) ≡ 2 ^ 64 - suc ((2 ^ 32 - suc low) % 2 ^ 64) = omega arith in
    f ∙ sym (ap (residue 64) (above (2 ^ 31) (2 ^ 32) low p q))
    ∙ ap (λ x. residue 64 (sign_extended 32 x)) e

pub word_of_wrapped : (n m : ℕ) → m ≡ n % 2 ^ 64 → word_extended m ≡ word_extended n
word_of_wrapped n m e =
    let f : m % 2 ^ 32 ≡ n % 2 ^ 32 = omega arith in
    ap (λ x. residue 64 (sign_extended 32 x)) f

pub signed_is : (n : ℕ) → n < 2 ^ 64 → cast_signed w64 n ≡ signed_at 64 n
signed_is n p =
    let e : n ≡ n % 2 ^ 64 = omega arith in
    elim (cases_lt n (2 ^ 63)) [
      | inl q ↦ ap (λ b. cond b (pos n) (negsuc (2 ^ 64 - suc n))) (lt-ltb n (2 ^ 63) q)
          ∙ sym (below (2 ^ 63) (2 ^ 64) n q) ∙ ap (sign_extended 64) e
      | inr q ↦ ap (λ b. cond b (pos n) (negsuc (2 ^ 64 - suc n))) (le-ltb n (2 ^ 63) q)
          ∙ sym (above (2 ^ 63) (2 ^ 64) n q p) ∙ ap (sign_extended 64) e
    ]

pub residue_is : (z : ℤ) → FitsSigned w64 z → cast_unsigned w64 z ≡ residue 64 z
residue_is (pos n) f = let h : n < 2 ^ 63 = f.sfits in omega arith
residue_is (negsuc n) f = let h : n < 2 ^ 63 = f.sfits in omega arith

pub difference_is : (a b : ℕ) → a < 2 ^ 64 → b < 2 ^ 64
    → (a + (2 ^ 64 - b)) % 2 ^ 64 ≡ difference_of a b
difference_is a b p q =
    elim (cases_lt a b) [
      | inl h ↦ (let e : pos a -ℤ pos b ≡ negsuc (b - suc a) = omega (arith, ints) in
          let f : (a + (2 ^ 64 - b)) % 2 ^ 64 ≡ 2 ^ 64 - suc ((b - suc a) % 2 ^ 64) = omega arith in
          f ∙ sym (ap (residue 64) e))
      | inr h ↦ (let e : pos a -ℤ pos b ≡ pos (a - b) = omega (arith, ints) in
          let f : (a + (2 ^ 64 - b)) % 2 ^ 64 ≡ (a - b) % 2 ^ 64 = omega arith in
          f ∙ sym (ap (residue 64) e))
    ]

-- ---- the high half of a signed product, as 128 bits compute it

abbrev at64 : ℤ → ℤ
at64 z = to_z w64 (of_z w64 z)

abbrev at128 : ℤ → ℤ
at128 z = to_z w128 (of_z w128 z)

abs_small : (z : ℤ) → FitsSigned w64 z → unsigned_abs z ≤ 2 ^ 63
abs_small (pos n) f = let h : n < 2 ^ 63 = f.sfits in omega arith
abs_small (negsuc n) f = let h : n < 2 ^ 63 = f.sfits in omega arith

widens : (z : ℤ) → FitsSigned w64 z → FitsSigned w128 z
widens z f = let h : mag z < 2 ^ 63 = f.sfits in record { sfits = omega arith }

half_fits : (z : ℤ) → FitsSigned w128 z → FitsSigned w64 (shr_z z (2 ^ 64))
half_fits (pos n) f = let h : n < 2 ^ 127 = f.sfits in record { sfits = omega arith }
half_fits (negsuc n) f = let h : n < 2 ^ 127 = f.sfits in record { sfits = omega arith }

widened : (z : ℤ) → FitsSigned w64 z → at128 (at64 z) ≡ z
widened z f = ap at128 (to_z-of_z w64 z f) ∙ to_z-of_z w128 z (widens z f)

pub high_is : (x y : ℤ) → FitsSigned w64 x → FitsSigned w64 y
    → residue 64 (at64 (at128 (shr_z (at128 (at128 (at64 x) *ℤ at128 (at64 y))) (2 ^ 64))))
    ≡ high_half (x *ℤ y)
high_is x y f g =
    let fits : FitsSigned w128 (x *ℤ y) =
    fits_signed_mul w128 x y (2 ^ 63) (2 ^ 63) (abs_small x f) (abs_small y g) (omega arith) in
    let half = half_fits (x *ℤ y) fits in
    let factors : at128 (at64 x) *ℤ at128 (at64 y) ≡ x *ℤ y =
    ap (λ z. z *ℤ at128 (at64 y)) (widened x f) ∙ ap (λ z. x *ℤ z) (widened y g) in
    ap (λ z. residue 64 (at64 (at128 (shr_z (at128 z) (2 ^ 64))))) factors
    ∙ ap (λ z. residue 64 (at64 (at128 (shr_z z (2 ^ 64))))) (to_z-of_z w128 (x *ℤ y) fits)
    ∙ ap (λ z. residue 64 (at64 z))
    (to_z-of_z w128 (shr_z (x *ℤ y) (2 ^ 64)) (widens (shr_z (x *ℤ y) (2 ^ 64)) half))
    ∙ ap (residue 64) (to_z-of_z w64 (shr_z (x *ℤ y) (2 ^ 64)) half)
