use Rattle.std.proofs.Common.{ap, ◌∙◌}
use Rattle.xv_guest.specs.OwnMemory.{behind}
use Rattle.xv_guest.proofs.OwnMemoryLemmas.{behind_stays}
use Rattle.xv_guest.proofs.WithinLemmas.{memory_held}
use Rattle.xv_guest.proofs.own_memory.OwnMemoryGuestMem.store.Goals as goal

pub invariant_of-self : goal.invariant_of-self
invariant_of-self c =
    memory_held c.self.inside.held c.self.inside.mem c.write.new.mem
    c.write.ensures.within c.self.invariant

pub returns-clause-rest : goal.returns-clause-rest
returns-clause-rest c =
    behind_stays c.self.inside.held c.self.inside.mem c.write.new.mem c.write.ensures.within
    ∙ ap behind c.self.view_is
