use Rattle.std.proofs.Common.{◌∙◌, Option, sym, ap}
use Rattle.xv_bus.specs.declared.access.Outcome.TheVariants as outcomes
use Rattle.xv_emul.specs.Emulation.{after_load}
use Rattle.xv_isa.specs.Effects as effects
use Rattle.xv_lone.specs.declared.vcpu.GuestState.TheVariants as states
use Rattle.xv_lone.specs.declared.vcpu.HartState.{HartState}
use Rattle.xv_firmware.specs.declared.calls.Progress.TheVariants as progress
use Rattle.xv_host.specs.OnHart.{after_of}
use Rattle.xv_host.proofs.EmulateLemmas.{device_is, halt_back, refused_back, value_back}
use Rattle.xv_host.proofs.emulate.answer_access.Goals as goal

pub returns-in-Value-clause-reached : goal.returns-in-Value-clause-reached
returns-in-Value-clause-reached c plain of_insn bus cause va =
    let g = c.args.guest.now in
    let there = c.access.new.self in
    let h = c.args.vcpu in
    let v = c.args.view.now in
    let r = c.args.regs.now in
    let e = c.args.emulated.now in
    let retired = c.retire.ensures.retired
    ∙ ap (λ (o : Option effects.Access). record r {
      x = after_load o c.in-Value.value r.x;
      pc = e.next;
    }) of_insn in
    value_back g there h v r c.args.mem.now c.access.new.mem e.region e.offset e.access
    c.access.ensures.guest c.access.ensures.machine plain e.next c.in-Value.value
    c.retire.new.regs retired
    ∙ device_is g there h v r c.args.mem.now c.access.new.mem e.region e.offset e.access
    c.access.ensures.guest c.access.ensures.machine plain e.next
    (outcomes.Value c.in-Value.value) bus (sym c.in-Value.is ∙ c.access.ensures.outcome)

pub returns-in-Done-clause-reached : goal.returns-in-Done-clause-reached
returns-in-Done-clause-reached c plain of_insn bus cause va =
    let g = c.args.guest.now in
    let there = c.access.new.self in
    let h = c.args.vcpu in
    let v = c.args.view.now in
    let r = c.args.regs.now in
    let e = c.args.emulated.now in
    let retired = c.retire-in-Done.ensures.retired
    ∙ ap (λ (o : Option effects.Access). record r { x = after_load o 0 r.x; pc = e.next })
    of_insn in
    value_back g there h v r c.args.mem.now c.access.new.mem e.region e.offset e.access
    c.access.ensures.guest c.access.ensures.machine plain e.next 0 c.retire-in-Done.new.regs
    retired
    ∙ device_is g there h v r c.args.mem.now c.access.new.mem e.region e.offset e.access
    c.access.ensures.guest c.access.ensures.machine plain e.next outcomes.Done bus
    (sym c.in-Done.is ∙ c.access.ensures.outcome)

pub returns-in-Refused-clause-reached : goal.returns-in-Refused-clause-reached
returns-in-Refused-clause-reached c plain of_insn bus cause va =
    let g = c.args.guest.now in
    let there = c.access.new.self in
    let h = c.args.vcpu in
    let v = c.args.view.now in
    let r = c.args.regs.now in
    let e = c.args.emulated.now in
    ap (λ (state : HartState). after_of there h v c.fault.new.regs c.access.new.mem
    (progress.Goes state)) c.fault.ensures.started
    ∙ refused_back g there h v r c.args.mem.now c.access.new.mem e.region e.offset e.access
    c.access.ensures.guest c.access.ensures.machine plain e.next c.args.cause c.args.va
    c.fault.new.regs cause va c.fault.ensures.regs
    ∙ device_is g there h v r c.args.mem.now c.access.new.mem e.region e.offset e.access
    c.access.ensures.guest c.access.ensures.machine plain e.next outcomes.Refused bus
    (sym c.in-Refused.is ∙ c.access.ensures.outcome)

pub returns-in-Halt-clause-reached : goal.returns-in-Halt-clause-reached
returns-in-Halt-clause-reached c plain of_insn bus cause va =
    let g = c.args.guest.now in
    let there = c.access.new.self in
    let h = c.args.vcpu in
    let v = c.args.view.now in
    let r = c.args.regs.now in
    let e = c.args.emulated.now in
    let retired = c.retire-in-Halt.ensures.retired
    ∙ ap (λ (o : Option effects.Access). record r { x = after_load o 0 r.x; pc = e.next })
    of_insn in
    let last = c.put.ensures
    ∙ ap (λ birth. record there {
      state = states.Halted c.in-Halt.ending;
      birth = birth;
    }) c.birth-birth.ensures in
    halt_back g there h v r c.args.mem.now c.access.new.mem e.region e.offset e.access
    c.access.ensures.guest c.access.ensures.machine plain e.next c.in-Halt.ending
    c.retire-in-Halt.new.regs c.put.new.self retired last
    ∙ device_is g there h v r c.args.mem.now c.access.new.mem e.region e.offset e.access
    c.access.ensures.guest c.access.ensures.machine plain e.next
    (outcomes.Halt c.in-Halt.ending) bus (sym c.in-Halt.is ∙ c.access.ensures.outcome)
