use Rattle.xv_guest.specs.Guest.{held_of}
use Rattle.xv_guest.specs.Held.{IsHeld}
use Rattle.xv_guest.proofs.tests.run.Given as goal

abbrev pub invariant-loop-step : goal.invariant-loop-step
invariant-loop-step g l = IsHeld l.mem (held_of l.guest)
