use Rattle.std.proofs.Common.{◌∙◌, sym, ap}
use Rattle.xv_pte.specs.Sv39.{verdict}
use Rattle.xv_pte.proofs.Lacking.{verdict_offset}
use Rattle.xv_hcsr.specs.Stage.{root_of}
use Rattle.xv_step.specs.Bus.{reader}
use Rattle.xv_step.specs.State.{view}
use Rattle.xv_hart.specs.Memory.{bus_of}
use Rattle.xv_hart.specs.Action.{bytes_of}
use Rattle.xv_hart.specs.Step.{came, state_of, fault_trap}
use Rattle.xv_hart.proofs.AccessLemmas.{led_aligned, led_inside, led_not_unled, left_nowhere}
use Rattle.xv_hart.proofs.regs.Regs.reach.Goals as goal

pub returns-in-Some-clause-aligned : goal.returns-in-Some-clause-aligned
returns-in-Some-clause-aligned g c =
    let r = c.args.self.now in
    let bytes = c.args.mem.now in
    let read = reader (bus_of r bytes) bytes in
    let v = view (state_of r bytes) in
    led_aligned bytes (root_of r.h) c.args.width c.args.va c.in-Ok.gpa c.in-Some.at
    c.in-Some.ensures.led
    (verdict_offset read v c.args.va c.args.kind c.in-Ok.gpa
    (sym {b = verdict read v c.args.va c.args.kind} c.in-Ok.ensures.verdict)) c.requires.aligned

pub returns-in-Some-clause-inside : goal.returns-in-Some-clause-inside
returns-in-Some-clause-inside g c =
    let r = c.args.self.now in
    led_inside c.args.mem.now (root_of r.h) c.args.width c.args.va c.in-Ok.gpa c.in-Some.at
    c.in-Some.ensures.led c.requires.memory (returns-in-Some-clause-aligned g c)

pub returns-in-Some-clause-led : goal.returns-in-Some-clause-led
returns-in-Some-clause-led g c =
    led_not_unled c.args.mem.now (root_of c.args.self.now.h) c.args.width c.args.va c.in-Ok.gpa
    c.in-Some.at c.in-Some.ensures.led

pub returns-in-None-clause-stops : goal.returns-in-None-clause-stops
returns-in-None-clause-stops g c lacks done left =
    let r = c.args.self.now in
    let bytes = c.args.mem.now in
    let v = verdict (reader (bus_of r bytes) bytes) (view (state_of r bytes)) c.args.va
    c.args.kind in
    ap (λ e. came e r bytes) c.guest_fault.ensures
    ∙ left_nowhere r bytes c.args.kind (bytes_of c.args.width) c.args.va c.in-Ok.gpa lacks done
    (fault_trap r.user c.args.kind c.args.va c.in-Ok.gpa 0)
    (sym {b = v} c.in-Ok.ensures.verdict) c.in-None.ensures.place (left c.in-Ok.gpa)
