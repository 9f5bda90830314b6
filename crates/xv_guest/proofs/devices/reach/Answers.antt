use Rattle.std.proofs.Common.{◌≡◌, List, ℕ, ap, ◌∙◌, sym, subst}
use Rattle.xv_guest.specs.Held.{WithinMemory}
use Rattle.xv_guest.specs.OwnMemory.{behind}
use Rattle.xv_guest.proofs.OwnMemoryLemmas.{behind_within, own_at}
use Rattle.xv_guest.proofs.WithinLemmas.{memory_held, memory_within}
use Rattle.xv_guest.proofs.devices.reach.Goals as goal

within : (c : goal.Joined-mem-into_mem) → WithinMemory c.args.held c.args.mem.now c.into_mem.result
within c =
    let first : c.new-own.result ≡ own_at c.args.held c.args.mem.now =
    c.new-own.ensures ∙ ap (own_at c.args.held) c.replace.ensures.value in
    subst (λ (bytes : List ℕ). WithinMemory c.args.held c.args.mem.now bytes)
    (sym c.into_mem.ensures.bytes)
    (behind_within (own_at c.args.held c.args.mem.now) c.access-outcome.new.mem
    (c.access-outcome.ensures.rest ∙ ap behind first))

pub returns-clause-held : goal.returns-clause-held
returns-clause-held c =
    memory_held c.args.held c.args.mem.now c.into_mem.result (within c) c.requires.held

pub returns-clause-memory : goal.returns-clause-memory
returns-clause-memory c = within c

pub returns-clause-within : goal.returns-clause-within
returns-clause-within c =
    memory_within c.args.held c.args.mem.now c.into_mem.result (within c)
