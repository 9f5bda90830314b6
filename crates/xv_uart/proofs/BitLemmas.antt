-- The bits of a register of eight, as the flags' test sees them.
use Rattle.std.proofs.Common.{◌≡◌, ℕ, ◌==◌}
use Rattle.std.specs.Int.RustNames.{bit_and}
use Rattle.xv_base.specs.Bits.{has_bit}
use Rattle.xv_base.proofs.BitLemmas.{contains-bit}

pub contains-0 : (number : ℕ) → (bit_and number 1 == 1) ≡ has_bit 0 number
contains-0 number = contains-bit number 0

pub contains-1 : (number : ℕ) → (bit_and number 2 == 2) ≡ has_bit 1 number
contains-1 number = contains-bit number 1

pub contains-2 : (number : ℕ) → (bit_and number 4 == 4) ≡ has_bit 2 number
contains-2 number = contains-bit number 2

pub contains-3 : (number : ℕ) → (bit_and number 8 == 8) ≡ has_bit 3 number
contains-3 number = contains-bit number 3

pub contains-4 : (number : ℕ) → (bit_and number 16 == 16) ≡ has_bit 4 number
contains-4 number = contains-bit number 4

pub contains-7 : (number : ℕ) → (bit_and number 128 == 128) ≡ has_bit 7 number
contains-7 number = contains-bit number 7

pub ruleset contained = (contains-0, contains-1, contains-2, contains-3, contains-4, contains-7)
