use Rattle.xv_guest.proofs.MemoryLemmas.{memory_same}
use Rattle.xv_guest.proofs.OrderLemmas.{held_same}
use Rattle.xv_guest.proofs.law.guests_are_local.Goals as goal

pub returns-clause-memory : goal.returns-clause-memory
returns-clause-memory c old new g same = memory_same old new g same

pub returns-clause-held : goal.returns-clause-held
returns-clause-held c old new g same whole held = held_same old new g same whole held
