-- The time that a guest sees since its birth.
use Rattle.std.proofs.Common.{◌≡◌, ℕ, ◌-◌, ◌^◌, ◌<◌, ◌≤◌, arith}
use Rattle.xv_hcsr.specs.declared.HCsrs.{HCsrs}
use Rattle.xv_hcsr.specs.Time.{guest_time, delta_of}

pub guest_time-born : (clock birth : ℕ) (h : HCsrs) → birth ≤ clock → clock < 2 ^ 64
    → h.htimedelta ≡ delta_of birth → guest_time clock h ≡ clock - birth
guest_time-born clock birth h since below delta = rw delta (omega arith)
