use Rattle.xv_bus.specs.Plic.{new_plic}
use Rattle.xv_plic.proofs.HoldsLemmas.{new_plic-holds}
use Rattle.xv_plic.proofs.registers.Registers.new.Goals as goal

pub invariant_of-result : goal.invariant_of-result
unfolding new_plic
invariant_of-result c = new_plic-holds c.args.contexts c.requires
