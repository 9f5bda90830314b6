-- A number of 64 bits has no bit past its last.
use Rattle.std.proofs.Common.{◌≡◌, ℕ, ◌^◌, ◌<◌, ◌≤◌, false, refl}
use Rattle.std.proofs.lemmas.Nat.Bits.{bit_at_above}
use Rattle.xv_base.specs.Bits.{has_bit}

pub has_bit-past : (number bit : ℕ) → number < 2 ^ 64 → 64 ≤ bit → has_bit bit number ≡ false
has_bit-past number bit small past = rw (bit_at_above number 64 bit small past) refl
