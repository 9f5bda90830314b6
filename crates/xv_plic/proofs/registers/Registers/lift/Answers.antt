use Rattle.xv_plic.proofs.HoldsLemmas.{pending-holds, lifted-clear}
use Rattle.xv_plic.proofs.registers.Registers.lift.Goals as goal

pub invariant_of-self : goal.invariant_of-self
invariant_of-self c =
    pending-holds _ _ c.self.invariant
    (lifted-clear c.self.inside.pending c.args.sources c.self.inside.in_service
    c.self.invariant.pending c.requires)
