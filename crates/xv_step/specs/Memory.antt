-- An access to memory: its alignment, its translation, its place.
use Rattle.std.specs.Prelude.{ℕ, ◌%◌, ◌==◌, if◌then◌else◌, Option, Some, None}
use Rattle.xv_pte.specs.declared.access.Kind3.TheVariants as kinds
use Rattle.xv_pte.specs.declared.access.Kind3.{Kind3}
use Rattle.xv_pte.specs.Sv39.{Verdict, Address, PageFault, NoEntry, verdict}
use Rattle.xv_step.specs.Bus.{Bus, Spot, reader}
use Rattle.xv_step.specs.State.{State, view}
use Rattle.xv_step.specs.Outcome.{Ask, TableEntry, Outcome, Raised, Left, misaligned, page_fault}

-- where bytes stand that may be written. A store that finds none lacks its target
abbrev pub writable_spot : {P : Type 0} → Option (Spot P) → Option (Spot P)
writable_spot None = None
writable_spot (Some spot) = if spot.writable then Some spot else None

abbrev pub usable_spot : {P : Type 0} → Kind3 → Option (Spot P) → Option (Spot P)
usable_spot kinds.Fetch spot = spot
usable_spot kinds.Load spot = spot
usable_spot kinds.Store spot = writable_spot spot

-- lacks is the ask where the target has no place, and done what is done at its place
module _ {M P : Type 0} (bus : Bus M P) (s : State M P) (access : Kind3) (width va : ℕ) (lacks : ℕ
    → Ask) (done : P → Outcome M P) where
  abbrev pub at_spot : ℕ → Option (Spot P) → Outcome M P
  at_spot gpa None = Left (lacks gpa)
  at_spot gpa (Some spot) = done spot.place

  abbrev pub by_verdict : Verdict → Outcome M P
  by_verdict (Address gpa) = at_spot gpa (usable_spot access (bus.find width gpa))
  by_verdict PageFault = Raised (page_fault access) va
  by_verdict (NoEntry gpa) = Left (TableEntry access va gpa)

  -- translation, and then the place
  abbrev pub translated : Outcome M P
  translated = by_verdict (verdict (reader bus s.memory) (view s) va access)

  -- alignment comes before translation
  abbrev pub accessed : Outcome M P
  accessed = if va % width == 0 then translated else Raised (misaligned access) va
