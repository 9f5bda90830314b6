use Rattle.std.proofs.Common.{◌∙◌, None, Some, sym, ap, refl}
use Rattle.xv_isa.specs.Operands.{decode_of}
use Rattle.xv_csr.specs.Pending.{chosen_interrupt}
use Rattle.xv_pte.specs.declared.access.Kind3.TheVariants as kinds
use Rattle.xv_step.specs.Outcome.{Target}
use Rattle.xv_step.specs.Step.{executed, at_word}
use Rattle.xv_hart.specs.Memory.{bus_of}
use Rattle.xv_hart.specs.Step.{exit_of, state_of, inputs_of}
use Rattle.xv_hart.proofs.StepLemmas.{came_interrupted, fetch_of, step_is}
use Rattle.xv_hart.proofs.regs.Regs.step.Goals as goal

pub returns-in-Some-clause-step : goal.returns-in-Some-clause-step
returns-in-Some-clause-step g c =
    let r = c.args.self.now in
    let bytes = c.args.mem.now in
    came_interrupted r bytes c.enter.result c.enter.new.self c.in-Some.cause c.enter.ensures.done
    c.enter.ensures.regs
    ∙ sym (step_is r bytes (Some c.in-Some.cause)
    (ap (chosen_interrupt r.csrs r.user) (sym c.lines.ensures)
    ∙ (sym c.chosen.ensures ∙ c.in-Some.is)))

pub returns-in-Err-clause-step : goal.returns-in-Err-clause-step
returns-in-Err-clause-step g c =
    let r = c.args.self.now in
    let bytes = c.args.mem.now in
    ◌∙◌ {b = fetch_of r bytes}
    (c.in-Err.ensures.stops (Target kinds.Fetch r.pc)
    (at_word (bus_of r bytes) (inputs_of r) (state_of r bytes)) (λ gpa. refl))
    (sym (step_is r bytes None (ap (chosen_interrupt r.csrs r.user) (sym c.lines.ensures)
    ∙ (sym c.chosen.ensures ∙ c.in_default.is))))

pub returns-clause-step : goal.returns-clause-step
returns-clause-step g c =
    let r = c.args.self.now in
    let bytes = c.args.mem.now in
    let bus = bus_of r bytes in
    ◌∙◌ {b = fetch_of r bytes}
    (◌∙◌ {b = exit_of r bytes (at_word bus (inputs_of r) (state_of r bytes) c.in-Ok.at)}
    (◌∙◌ {b = exit_of r bytes
    (executed bus (inputs_of r) (state_of r bytes) c.read32-word.result
    (decode_of c.read32-word.result))}
    (c.execute.ensures.came ∙ ap (λ now. exit_of now bytes
    (executed (bus_of now bytes) (inputs_of now) (state_of now bytes) c.read32-word.result
    (decode_of c.read32-word.result))) c.in-Ok.ensures.stays)
    (ap (λ word. exit_of r bytes
    (executed bus (inputs_of r) (state_of r bytes) word (decode_of word)))
    c.read32-word.ensures.value))
    (sym (ap (exit_of r bytes)
    (c.in-Ok.ensures.reaches (Target kinds.Fetch r.pc)
    (at_word bus (inputs_of r) (state_of r bytes))))))
    (sym (step_is r bytes None (ap (chosen_interrupt r.csrs r.user) (sym c.lines.ensures)
    ∙ (sym c.chosen.ensures ∙ c.in_default.is))))
