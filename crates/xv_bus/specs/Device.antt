-- What an access makes of a device.
use Rattle.std.specs.Prelude.{ℕ, List}
use Rattle.xv_bus.specs.declared.access.Outcome.{Outcome}
use Rattle.xv_bus.specs.Memory.{Flat}

-- the device, the bytes of each memory region of the guest, and what the access comes to
pub record Accessed (D : Type 0) : Type 0 where
  pub device : D
  pub cells : List (List ℕ)
  pub outcome : Outcome

-- the same of a device that reaches no memory
pub record Answer (D : Type 0) : Type 0 where
  pub device : D
  pub outcome : Outcome

module _ {D : Type 0} where
  abbrev pub answer : D → Outcome → Answer D
  answer device outcome = record { device = device; outcome = outcome }

  abbrev pub over : Flat → Answer D → Accessed D
  over flat given = record { device = given.device; cells = flat.cells; outcome = given.outcome }
