use Rattle.std.proofs.Common.{◌≡◌}
use Rattle.xv_plic.proofs.tests.run.Given as goal

abbrev pub invariant-loop-step : goal.invariant-loop-step
invariant-loop-step g l = l.plic.contexts ≡ l.initial.plic.contexts
