use Rattle.std.proofs.Common.{◌∙◌, None, Some, sym, ap}
use Rattle.xv_pte.specs.Sv39.{verdict}
use Rattle.xv_pte.specs.declared.access.Kind3.TheVariants as kinds
use Rattle.xv_pte.proofs.Lacking.{verdict_offset}
use Rattle.xv_hcsr.specs.Stage.{root_of}
use Rattle.xv_step.specs.Bus.{reader}
use Rattle.xv_step.specs.State.{view}
use Rattle.xv_hart.specs.declared.action.Width.TheVariants.{W4}
use Rattle.xv_hart.specs.Memory.{bus_of}
use Rattle.xv_hart.specs.Step.{state_of}
use Rattle.xv_hart.proofs.AccessLemmas.{led_aligned, led_inside, fetched_at, fetched_nothing}
use Rattle.xv_hart.proofs.regs.Regs.fetch.Goals as goal

pub read32-requires-clause-aligned : goal.read32-requires-clause-aligned
read32-requires-clause-aligned g c =
    let r = c.args.self.now in
    let bytes = c.args.mem.now in
    let read = reader (bus_of r bytes) bytes in
    let v = view (state_of r bytes) in
    led_aligned bytes (root_of r.h) W4 r.pc c.in-Ok.gpa c.in_ok-at.at c.in_ok-at.ensures.led
    (verdict_offset read v r.pc kinds.Fetch c.in-Ok.gpa
    (sym {b = verdict read v r.pc kinds.Fetch} c.in-Ok.ensures.verdict)) c.requires.formed.pc

pub read32-requires-clause-inside : goal.read32-requires-clause-inside
read32-requires-clause-inside g c =
    let r = c.args.self.now in
    led_inside c.args.mem.now (root_of r.h) W4 r.pc c.in-Ok.gpa c.in_ok-at.at
    c.in_ok-at.ensures.led c.requires.memory (read32-requires-clause-aligned g c)

pub returns-in-Err-clause-word : goal.returns-in-Err-clause-word
returns-in-Err-clause-word g c =
    fetched_nothing c.args.self.now c.args.mem.now c.in-Err.field-0 c.in-Err.ensures.verdict

pub returns-in_err-at-clause-word : goal.returns-in_err-at-clause-word
returns-in_err-at-clause-word g c =
    c.from_residual.ensures
    ∙ fetched_at c.args.self.now c.args.mem.now c.in-Ok.gpa None c.in-Ok.ensures.verdict
    c.in_err-at.ensures.place

pub returns-clause-word : goal.returns-clause-word
returns-clause-word g c =
    ap Some c.read32.ensures.value
    ∙ fetched_at c.args.self.now c.args.mem.now c.in-Ok.gpa (Some c.in_ok-at.at)
    c.in-Ok.ensures.verdict c.in_ok-at.ensures.place
