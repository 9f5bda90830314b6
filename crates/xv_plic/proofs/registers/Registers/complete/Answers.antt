use Rattle.xv_plic.proofs.HoldsLemmas.{cleared-clear, in_service-holds}
use Rattle.xv_plic.proofs.registers.Registers.complete.Goals as goal

pub invariant_of-self : goal.invariant_of-self
invariant_of-self c =
    in_service-holds _ _ c.self.invariant
    (rw c.with_bit-self-inside.ensures
    (cleared-clear c.args.id c.self.inside.in_service c.self.invariant.in_service))
