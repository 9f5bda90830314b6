use Rattle.std.proofs.Common.{◌∙◌, subst, sym, ap}
use Rattle.xv_hart.specs.Hart.{regs_of}
use Rattle.xv_lone.specs.Step as lone
use Rattle.xv_lone.specs.declared.vcpu.HartState.TheVariants.{Started}
use Rattle.std.proofs.Common.{refl}
use Rattle.xv_hart.specs.Stage.{HasStage}
use Rattle.xv_guest.specs.Guest.{held_of, root_or_none}
use Rattle.xv_host.specs.OnHart.{view_of, on_hart_of, with_lines_of}
use Rattle.xv_host.proofs.SimulationLemmas.{with_lines, done_is, trap_is, on_after, on_again}
use Rattle.xv_host.proofs.SimulationLemmas.{memory_after, trap_tells}
use Rattle.xv_host.proofs.StageLemmas.{good_both, has_stage}
use Rattle.xv_host.proofs.monitor.lone_step.Goals as goal

pub step-requires-clause-formed : goal.step-requires-clause-formed
step-requires-clause-formed g c =
    let guest = c.args.guest.now in
    let h = c.args.vcpu in
    let v = c.args.view.now in
    let before = regs_of c.args.machine.now.hart in
    let lines = c.set_lines.ensures.regs ∙ ap (λ l. with_lines_of l before) c.lines.ensures in
    (with_lines guest h c.args.time v before (regs_of c.set_lines.new.hart) lines c.requires.on
    c.requires.formed).formed

pub returns-in_default-clause-stepped : goal.returns-in_default-clause-stepped
returns-in_default-clause-stepped g c =
    let guest = c.args.guest.now in
    let h = c.args.vcpu in
    let v = c.args.view.now in
    let t = c.args.time in
    let bytes = c.args.machine.now.mem in
    let regs = c.set_lines.ensures.regs in
    let r = regs_of c.set_lines.new.hart in
    let lines = regs
    ∙ ap (λ l. with_lines_of l (regs_of c.args.machine.now.hart)) c.lines.ensures in
    let ready = with_lines guest h t v (regs_of c.args.machine.now.hart) r lines c.requires.on
    c.requires.formed in
    done_is guest h t v bytes c.requires.may r ready.on ready.lines ready.formed
    (regs_of c.step.new.self) c.step.new.mem c.step.result c.step.ensures.step c.in_default.not-Trap
    ∙ ap (λ x. lone.stepped guest.plan h t (on_hart_of guest h v x bytes Started)
    (view_of v x Started)) regs

pub returns-in_default-clause-on : goal.returns-in_default-clause-on
returns-in_default-clause-on g c =
    let guest = c.args.guest.now in
    let h = c.args.vcpu in
    let v = c.args.view.now in
    let t = c.args.time in
    let bytes = c.args.machine.now.mem in
    let regs = c.set_lines.ensures.regs in
    let r = regs_of c.set_lines.new.hart in
    let lines = regs
    ∙ ap (λ l. with_lines_of l (regs_of c.args.machine.now.hart)) c.lines.ensures in
    let ready = with_lines guest h t v (regs_of c.args.machine.now.hart) r lines c.requires.on
    c.requires.formed in
    on_after guest h t v bytes c.requires.may r ready.on ready.lines ready.formed
    (regs_of c.step.new.self) c.step.new.mem c.step.result c.step.ensures.step

pub returns-in_default-clause-good : goal.returns-in_default-clause-good
returns-in_default-clause-good g c =
    let guest = c.args.guest.now in
    let h = c.args.vcpu in
    let v = c.args.view.now in
    let t = c.args.time in
    let bytes = c.args.machine.now.mem in
    let regs = c.set_lines.ensures.regs in
    let r = regs_of c.set_lines.new.hart in
    let lines = regs
    ∙ ap (λ l. with_lines_of l (regs_of c.args.machine.now.hart)) c.lines.ensures in
    let ready = with_lines guest h t v (regs_of c.args.machine.now.hart) r lines c.requires.on
    c.requires.formed in
    memory_after guest h t v bytes c.requires.may r ready.on ready.lines ready.formed
    (regs_of c.step.new.self) c.step.new.mem c.step.result c.step.ensures.step

pub answer_trap-requires-clause-memory : goal.answer_trap-requires-clause-memory
answer_trap-requires-clause-memory g c =
    let guest = c.args.guest.now in
    let h = c.args.vcpu in
    let v = c.args.view.now in
    let t = c.args.time in
    let bytes = c.args.machine.now.mem in
    let now = c.step.new.mem in
    let regs = c.set_lines.ensures.regs in
    let r = regs_of c.set_lines.new.hart in
    let lines = regs
    ∙ ap (λ l. with_lines_of l (regs_of c.args.machine.now.hart)) c.lines.ensures in
    let ready = with_lines guest h t v (regs_of c.args.machine.now.hart) r lines c.requires.on
    c.requires.formed in
    let after = on_after guest h t v bytes c.requires.may r ready.on ready.lines ready.formed
    (regs_of c.step.new.self) now c.step.result c.step.ensures.step in
    let good = memory_after guest h t v bytes c.requires.may r ready.on ready.lines ready.formed
    (regs_of c.step.new.self) now c.step.result c.step.ensures.step in
    subst (HasStage now) (ap root_or_none c.requires.may.root ∙ sym after.root)
    (has_stage (held_of guest) now good.held guest.plan refl c.requires.may.accepted)

pub answer_trap-requires-clause-held : goal.answer_trap-requires-clause-held
answer_trap-requires-clause-held g c =
    let guest = c.args.guest.now in
    let h = c.args.vcpu in
    let v = c.args.view.now in
    let t = c.args.time in
    let bytes = c.args.machine.now.mem in
    let now = c.step.new.mem in
    let regs = c.set_lines.ensures.regs in
    let r = regs_of c.set_lines.new.hart in
    let lines = regs
    ∙ ap (λ l. with_lines_of l (regs_of c.args.machine.now.hart)) c.lines.ensures in
    let ready = with_lines guest h t v (regs_of c.args.machine.now.hart) r lines c.requires.on
    c.requires.formed in
    (memory_after guest h t v bytes c.requires.may r ready.on ready.lines ready.formed
    (regs_of c.step.new.self) now c.step.result c.step.ensures.step).held

pub answer_trap-requires-clause-tells : goal.answer_trap-requires-clause-tells
answer_trap-requires-clause-tells g c =
    let guest = c.args.guest.now in
    let h = c.args.vcpu in
    let v = c.args.view.now in
    let t = c.args.time in
    let bytes = c.args.machine.now.mem in
    let now = c.step.new.mem in
    let regs = c.set_lines.ensures.regs in
    let r = regs_of c.set_lines.new.hart in
    let lines = regs
    ∙ ap (λ l. with_lines_of l (regs_of c.args.machine.now.hart)) c.lines.ensures in
    let ready = with_lines guest h t v (regs_of c.args.machine.now.hart) r lines c.requires.on
    c.requires.formed in
    trap_tells guest h t v bytes c.requires.may r ready.on ready.lines ready.formed
    (regs_of c.step.new.self) now c.step.result c.step.ensures.step c.in-Trap.trap c.in-Trap.is

pub returns-clause-stepped : goal.returns-clause-stepped
returns-clause-stepped g c =
    let guest = c.args.guest.now in
    let h = c.args.vcpu in
    let v = c.args.view.now in
    let t = c.args.time in
    let bytes = c.args.machine.now.mem in
    let now = c.step.new.mem in
    let regs = c.set_lines.ensures.regs in
    let r = regs_of c.set_lines.new.hart in
    let lines = regs
    ∙ ap (λ l. with_lines_of l (regs_of c.args.machine.now.hart)) c.lines.ensures in
    let ready = with_lines guest h t v (regs_of c.args.machine.now.hart) r lines c.requires.on
    c.requires.formed in
    c.answer_trap.ensures.monitored
    ∙ (trap_is guest h t v bytes c.requires.may r ready.on ready.lines ready.formed
    (regs_of c.step.new.self) now c.step.result c.step.ensures.step c.in-Trap.trap c.in-Trap.is
    ∙ ap (λ x. lone.stepped guest.plan h t (on_hart_of guest h v x bytes Started)
    (view_of v x Started)) regs)

pub returns-clause-on : goal.returns-clause-on
returns-clause-on g c =
    let guest = c.args.guest.now in
    let h = c.args.vcpu in
    let v = c.args.view.now in
    let t = c.args.time in
    let bytes = c.args.machine.now.mem in
    let now = c.step.new.mem in
    let regs = c.set_lines.ensures.regs in
    let r = regs_of c.set_lines.new.hart in
    let lines = regs
    ∙ ap (λ l. with_lines_of l (regs_of c.args.machine.now.hart)) c.lines.ensures in
    let ready = with_lines guest h t v (regs_of c.args.machine.now.hart) r lines c.requires.on
    c.requires.formed in
    let after = on_after guest h t v bytes c.requires.may r ready.on ready.lines ready.formed
    (regs_of c.step.new.self) now c.step.result c.step.ensures.step in
    on_again guest t (regs_of c.step.new.self) (regs_of c.answer_trap.new.machine.hart) after
    c.answer_trap.ensures.time c.answer_trap.ensures.h c.answer_trap.ensures.held

pub returns-clause-good : goal.returns-clause-good
returns-clause-good g c =
    let guest = c.args.guest.now in
    let h = c.args.vcpu in
    let v = c.args.view.now in
    let t = c.args.time in
    let bytes = c.args.machine.now.mem in
    let now = c.step.new.mem in
    let regs = c.set_lines.ensures.regs in
    let r = regs_of c.set_lines.new.hart in
    let lines = regs
    ∙ ap (λ l. with_lines_of l (regs_of c.args.machine.now.hart)) c.lines.ensures in
    let ready = with_lines guest h t v (regs_of c.args.machine.now.hart) r lines c.requires.on
    c.requires.formed in
    good_both (held_of guest) bytes now c.answer_trap.new.machine.mem
    (memory_after guest h t v bytes c.requires.may r ready.on ready.lines ready.formed
    (regs_of c.step.new.self) now c.step.result c.step.ensures.step)
    c.answer_trap.ensures.good

pub step-requires-clause-memory : goal.step-requires-clause-memory
step-requires-clause-memory g c =
    let guest = c.args.guest.now in
    let h = c.args.vcpu in
    let v = c.args.view.now in
    let before = regs_of c.args.machine.now.hart in
    let lines = c.set_lines.ensures.regs ∙ ap (λ l. with_lines_of l before) c.lines.ensures in
    let ready = with_lines guest h c.args.time v before (regs_of c.set_lines.new.hart) lines
    c.requires.on c.requires.formed in
    subst (HasStage c.args.machine.now.mem)
    (ap root_or_none c.requires.may.root ∙ sym ready.on.root)
    (has_stage (held_of guest) c.args.machine.now.mem c.requires.may.held guest.plan refl
    c.requires.may.accepted)
