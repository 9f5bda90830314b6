-- The bits of sstatus, sip and sie as the flags' test sees them.
use Rattle.std.proofs.Common.{◌≡◌, ℕ, ◌==◌}
use Rattle.std.specs.Int.RustNames.{bit_and}
use Rattle.xv_base.specs.Bits.{has_bit}
use Rattle.xv_base.proofs.BitLemmas.{contains-bit}

pub contains-1 : (number : ℕ) → (bit_and number 2 == 2) ≡ has_bit 1 number
contains-1 number = contains-bit number 1

pub contains-5 : (number : ℕ) → (bit_and number 32 == 32) ≡ has_bit 5 number
contains-5 number = contains-bit number 5

pub contains-8 : (number : ℕ) → (bit_and number 256 == 256) ≡ has_bit 8 number
contains-8 number = contains-bit number 8

pub contains-9 : (number : ℕ) → (bit_and number 512 == 512) ≡ has_bit 9 number
contains-9 number = contains-bit number 9

pub ruleset contained = (contains-1, contains-5, contains-8, contains-9)
