use Rattle.xv_plic.proofs.ClaimLemmas.{IsBest}
use Rattle.xv_plic.proofs.registers.Registers.first.Given as goal

abbrev pub invariant-loop-id : goal.invariant-loop-id
invariant-loop-id l = IsBest l.self l.context l.id l.best
