-- The bits of a number of which some were set or cleared.
use Rattle.std.proofs.Common.{◌≡◌, ◌≢◌, ℕ, ◌-◌, ◌^◌, ◌<◌, Bool, true, false, refl, arith}
use Rattle.std.specs.Int.{bit_at, w64}
use Rattle.std.proofs.lemmas.Bool.Decides.{nat_tests}
use Rattle.std.proofs.Math.Pow.{pow-lt}
use Rattle.std.proofs.lemmas.Nat.Bits.{bit_at_and, bit_at_or, bit_at_not, bit_at-lt}
use Rattle.std.proofs.lemmas.Nat.Bits.{bit_at-pow_same, bit_at-pow_other}
use Rattle.xv_base.specs.Bits.{has_bit, with_bit}
use Rattle.xv_hcsr.specs.Lines.{with_lines}

-- the bits of all but one of 64
bit_at-without : (j k : ℕ) → j < 64 → k < 64 → bit_at (2 ^ 64 - 1 - 2 ^ j) k ≡ 1 - bit_at (2 ^ j) k
bit_at-without j k inside below = bit_at_not w64 (2 ^ j) k (pow-lt inside) below

-- the one bit is as given
pub has_bit-same : (k : ℕ) (value : Bool) (number : ℕ) → k < 64
    → has_bit k (with_bit k value number) ≡ value
has_bit-same k true number below =
    let joined = bit_at_or number (2 ^ k) k in
    let here = bit_at-pow_same k in
    let small = bit_at-lt number k in
    grind (arith, nat_tests)
has_bit-same k false number below =
    let met = bit_at_and number (2 ^ 64 - 1 - 2 ^ k) k in
    let here = bit_at-pow_same k in
    let without = bit_at-without k k below below in
    grind (arith, nat_tests)

-- the other bits stay
bit_at-other : (j k : ℕ) (value : Bool) (number : ℕ) → j < 64 → k < 64 → k ≢ j
    → bit_at (with_bit j value number) k ≡ bit_at number k
bit_at-other j k true number inside below apart =
    let joined = bit_at_or number (2 ^ j) k in
    let there = bit_at-pow_other j k apart in
    omega arith
bit_at-other j k false number inside below apart =
    let met = bit_at_and number (2 ^ 64 - 1 - 2 ^ j) k in
    let there = bit_at-pow_other j k apart in
    let small = bit_at-lt number k in
    let without = bit_at-without j k inside below in
    omega arith

module _ (software timer external : Bool) (hvip : ℕ) where
  pub with_lines-software : has_bit 2 (with_lines software timer external hvip) ≡ software
  with_lines-software =
      rw (
        bit_at-other 10 2 external (with_bit 6 timer (with_bit 2 software hvip)) (omega arith)
            (omega arith) (omega arith),
        bit_at-other 6 2 timer (with_bit 2 software hvip) (omega arith) (omega arith) (omega arith),
      )
      (has_bit-same 2 software hvip (omega arith))

  pub with_lines-timer : has_bit 6 (with_lines software timer external hvip) ≡ timer
  with_lines-timer =
      rw (bit_at-other 10 6 external (with_bit 6 timer (with_bit 2 software hvip)) (omega arith)
      (omega arith) (omega arith))
      (has_bit-same 6 timer (with_bit 2 software hvip) (omega arith))

  pub with_lines-external : has_bit 10 (with_lines software timer external hvip) ≡ external
  with_lines-external =
      has_bit-same 10 external (with_bit 6 timer (with_bit 2 software hvip)) (omega arith)

  pub with_lines-others : (k : ℕ) → k < 64 → k ≢ 2 → k ≢ 6 → k ≢ 10
      → has_bit k (with_lines software timer external hvip) ≡ has_bit k hvip
  with_lines-others k below not_software not_timer not_external =
      rw (
        bit_at-other 10 k external (with_bit 6 timer (with_bit 2 software hvip)) (omega arith)
            below not_external,
        bit_at-other 6 k timer (with_bit 2 software hvip) (omega arith) below not_timer,
        bit_at-other 2 k software hvip (omega arith) below not_software,
      )
      refl

pub ruleset lines = (with_lines-software, with_lines-timer, with_lines-external, with_lines-others)
