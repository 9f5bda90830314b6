use Rattle.xv_plic.proofs.HoldsLemmas.{claimed-holds}
use Rattle.xv_plic.proofs.registers.Registers.claim.Goals as goal

pub invariant_of-self : goal.invariant_of-self
invariant_of-self c =
    rw (c.with_bit-self-inside.ensures, c.with_bit-self-inside-in-Some.ensures)
    (claimed-holds _ c.in-Some.id c.self.invariant c.in-Some.ensures.source.0)
