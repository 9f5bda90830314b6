-- Which traps enter the guest (Privileged Architecture 20211203, section 8.2.2).
use Rattle.std.specs.Prelude.{ℕ, ◌-◌, ◌%◌, ◌^◌, Bool, nat_le, if◌then◌else◌}
use Rattle.xv_base.specs.Bits.{has_bit}
use Rattle.xv_hcsr.specs.declared.HCsrs.{HCsrs}

-- a cause of 2^63 and more is an interrupt, whose number its other bits are. The bit of that number
-- in hideleg, or of the cause in hedeleg, says whether the trap enters the guest
unfoldable pub is_delegated : HCsrs → ℕ → Bool
is_delegated h cause =
    if nat_le (2 ^ 63) cause then has_bit (cause % 2 ^ 63) h.hideleg else has_bit cause h.hedeleg

-- the number under which an interrupt of VS shows to the guest: 2 as 1, 6 as 5, 10 as 9
abbrev pub shown_number : ℕ → ℕ
shown_number number = number - 1
