-- The machine.
use Rattle.std.specs.Prelude.{ℕ, ◌≡◌, ◌-◌, ◌*◌, ◌^◌, []}
use Rattle.xv_base.specs.declared.keys.Span.{Span}
use Rattle.xv_hart.specs.declared.machine.Machine.{Machine}
use Rattle.xv_hart.specs.Hart.{zero_hart, room_of, trail_room}

-- no memory, a hart of zeros that has taken no step, an empty trail, and an area of length 0
pub record IsBare (m : Machine) : Type 0 where
  pub memory : m.mem ≡ []
  pub hart : m.hart ≡ zero_hart
  pub area : m.area ≡ record { start = 0; len = 0 }

-- the machine was fitted: its hart has room for a trail
abbrev pub IsFit : Machine → Type 0
IsFit m = room_of m.hart ≡ trail_room

-- the last MiBs of memory
abbrev pub area_of : (mib reserved_mib : ℕ) → Span
area_of mib reserved_mib =
    record { start = (mib - reserved_mib) * 2 ^ 20; len = reserved_mib * 2 ^ 20 }
