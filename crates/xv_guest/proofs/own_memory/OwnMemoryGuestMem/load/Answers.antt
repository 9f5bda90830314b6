use Rattle.std.proofs.Common.{ap, length, sym, ◌∙◌}
use Rattle.std.specs.Option.{is_some, unwrap_or}
use Rattle.xv_bus.specs.Memory.{bytes_at}
use Rattle.xv_lone.specs.Memory.{peeked}
use Rattle.xv_guest.specs.Held.{memory_of}
use Rattle.xv_guest.specs.OwnMemory.{OwnMemory, bare_plan, flat_memory}
use Rattle.xv_guest.proofs.OwnMemoryLemmas.{load_bytes, load_is, load_there}
use Rattle.xv_guest.proofs.own_memory.OwnMemoryGuestMem.load.Goals as goal

pub returns-clause-there : goal.returns-clause-there
returns-clause-there c =
    let plan = bare_plan c.self.inside.held in
    let memory = memory_of c.self.inside.mem c.self.inside.held in
    let len = length c.args.buf.now in
    load_there c.peek.result (peeked plan memory c.args.gpa len) c.args.buf.now
    c.peek.new.buf c.peek.ensures.bytes c.peek.ensures.outside
    ∙ ap is_some (sym (load_is plan memory c.args.gpa len))
    ∙ ap (λ (own : OwnMemory). is_some (bytes_at (flat_memory own) c.args.gpa len)) c.self.view_is

pub returns-clause-bytes : goal.returns-clause-bytes
returns-clause-bytes c =
    let plan = bare_plan c.self.inside.held in
    let memory = memory_of c.self.inside.mem c.self.inside.held in
    let len = length c.args.buf.now in
    load_bytes c.peek.result (peeked plan memory c.args.gpa len) c.args.buf.now
    c.peek.new.buf c.peek.ensures.bytes c.peek.ensures.outside c.peek.ensures.untouched
    ∙ ap (λ o. unwrap_or o c.args.buf.now) (sym (load_is plan memory c.args.gpa len))
    ∙ ap (λ (own : OwnMemory).
    unwrap_or (bytes_at (flat_memory own) c.args.gpa len) c.args.buf.now) c.self.view_is
