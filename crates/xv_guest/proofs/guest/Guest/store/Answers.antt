use Rattle.std.proofs.Common.{subst}
use Rattle.xv_guest.specs.Guest.{held_of}
use Rattle.xv_guest.specs.Held.{Held, WithinMemory}
use Rattle.xv_guest.proofs.WithinLemmas.{memory_held, memory_within}
use Rattle.xv_guest.proofs.guest.Guest.store.Goals as goal

within : (c : goal.After-store)
    → WithinMemory (held_of c.args.self.now) c.args.mem.now c.store.new.mem
within c =
    subst (λ (g : Held). WithinMemory g c.args.mem.now c.store.new.mem) c.held.ensures
    c.store.ensures.within

pub returns-clause-held : goal.returns-clause-held
returns-clause-held c =
    memory_held (held_of c.args.self.now) c.args.mem.now c.store.new.mem (within c)
    c.requires.held

pub returns-clause-within : goal.returns-clause-within
returns-clause-within c =
    memory_within (held_of c.args.self.now) c.args.mem.now c.store.new.mem (within c)
