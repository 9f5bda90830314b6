use Rattle.xv_host.proofs.TableLemmas.{take_table, take_values}
use Rattle.xv_host.proofs.table.Table.take.Goals as goal

pub invariant_of-self : goal.invariant_of-self
invariant_of-self g c =
    take_table c.self.inside.values c.remove.new.self c.self.inside.places c.key.inside.0
    c.in-Some.at c.self.invariant c.key.invariant c.in-Some.is c.remove.ensures.updates
    c.remove.ensures.len c.remove.ensures.capacity

pub returns-clause-taken : goal.returns-clause-taken
returns-clause-taken g c = rw (← c.self.view_is, ← c.key.view_is)
    (take_values c.self.inside.values c.remove.new.self c.self.inside.places c.key.inside.0
    c.in-Some.at c.self.invariant c.key.invariant c.in-Some.is c.remove.ensures.updates
    c.remove.ensures.len c.remove.ensures.capacity)
