-- A bit as a set of flags tests it: the number has it where `and` with its power gives the power.
use Rattle.std.proofs.Common.{◌≡◌, ℕ, zero, suc, ◌*◌, ◌^◌, ◌<◌, ◌==◌, arith}
use Rattle.std.specs.Int.RustNames.{bit_and}
use Rattle.std.specs.Int.{bit_at}
use Rattle.std.proofs.lemmas.Nat.{pow_pos}
use Rattle.std.proofs.lemmas.Nat.Bits.{and_pow, bit_at-lt}
use Rattle.std.proofs.lemmas.Bool.Decides.{nat_tests}
use Rattle.xv_base.specs.Bits.{has_bit}

contains_power : (bit power : ℕ) → bit < 2 → 0 < power → (bit * power == power) ≡ (bit == 1)
contains_power zero power small some = grind (arith, nat_tests)
contains_power (suc zero) power small some = grind (arith, nat_tests)
contains_power (suc (suc bit)) power small some = absurd (omega arith)

pub contains-bit : (number k : ℕ) → (bit_and number (2 ^ k) == 2 ^ k) ≡ has_bit k number
contains-bit number k =
    rw and_pow (contains_power (bit_at number k) (2 ^ k) (bit_at-lt number k) (pow_pos k))
