-- The time that a guest sees (Privileged Architecture 20211203, section 8.2.7).
use Rattle.std.specs.Prelude.{ℕ, ◌+◌, ◌-◌, ◌%◌, ◌^◌}
use Rattle.xv_hcsr.specs.declared.HCsrs.{HCsrs}

-- the host's clock and htimedelta, modulo 2^64
abbrev pub guest_time : ℕ → HCsrs → ℕ
guest_time clock h = (clock + h.htimedelta) % 2 ^ 64

-- the htimedelta with which time begins at the clock of the birth
abbrev pub delta_of : ℕ → ℕ
delta_of birth = (2 ^ 64 - birth) % 2 ^ 64
