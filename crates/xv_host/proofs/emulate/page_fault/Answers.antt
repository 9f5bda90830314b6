use Rattle.std.proofs.Common.{◌∙◌, ℕ, subst, sym, ap, arith}
use Rattle.xv_csr.specs.Fields.{IsInstructionAddress}
use Rattle.xv_isa.specs.Length.{next_pc}
use Rattle.xv_step.specs.Outcome.{access_fault}
use Rattle.xv_hart.specs.Step.{after_trap}
use Rattle.xv_lone.specs.Step.{by_device}
use Rattle.xv_lone.specs.declared.vcpu.HartState.{HartState}
use Rattle.xv_lone.specs.declared.vcpu.HartState.TheVariants.{Started}
use Rattle.xv_firmware.specs.declared.calls.Progress.TheVariants.{Goes}
use Rattle.xv_host.specs.Monitor.{access_by, device_access, kind_of_cause, word_of}
use Rattle.xv_host.specs.OnHart.{after_of, on_hart_of, view_of}
use Rattle.xv_host.proofs.EmulateLemmas.{by_access, by_none, devices_length, emulated_region, told}
use Rattle.xv_host.proofs.ViewLemmas.{fault_back}
use Rattle.xv_host.proofs.emulate.page_fault.Goals as goal

pub answer_access-requires-clause-region : goal.answer_access-requires-clause-region
answer_access-requires-clause-region g c =
    let guest = c.args.guest.now in
    let is = c.in-Some.ensures.some guest.plan (sym c.map.ensures) in
    let within = emulated_region guest.plan c.args.regs.now c.args.mem.now c.args.trap.now
    c.in-Some.emulated is in
    let length = devices_length guest.plan guest.devices c.plan-plan.ensures.devices in
    omega arith

pub answer_access-requires-clause-fits : goal.answer_access-requires-clause-fits
answer_access-requires-clause-fits g c =
    (c.in-Some.ensures.some c.args.guest.now.plan (sym c.map.ensures)).fits

pub answer_access-requires-clause-range : goal.answer_access-requires-clause-range
answer_access-requires-clause-range g c =
    (c.in-Some.ensures.some c.args.guest.now.plan (sym c.map.ensures)).range

pub answer_access-requires-clause-next : goal.answer_access-requires-clause-next
answer_access-requires-clause-next g c =
    let is = c.in-Some.ensures.some c.args.guest.now.plan (sym c.map.ensures) in
    let pc = c.requires.formed.pc in
    let next : IsInstructionAddress (next_pc c.args.regs.now.pc 0) = omega arith in
    subst IsInstructionAddress (sym is.next) next

pub answer_access-requires-clause-load : goal.answer_access-requires-clause-load
answer_access-requires-clause-load g c =
    (c.in-Some.ensures.some c.args.guest.now.plan (sym c.map.ensures)).load

pub returns-in-Some-clause-faulted : goal.returns-in-Some-clause-faulted
returns-in-Some-clause-faulted g c t =
    let guest = c.args.guest.now in
    let h = c.args.vcpu in
    let r = c.args.regs.now in
    let bytes = c.args.mem.now in
    let trap = c.args.trap.now in
    let e = c.in-Some.emulated in
    let v = view_of c.args.view.now r Started in
    let m = on_hart_of guest h c.args.view.now r bytes Started in
    let is = c.in-Some.ensures.some guest.plan (sym c.map.ensures) in
    let about = told is.plain (access_by (word_of r bytes) r.x) trap is.word c.requires.tells
    (record {
      no_call = c.requires.no_call;
      no_wait = c.requires.no_wait;
      no_fetch = c.requires.no_fetch;
      target = is.target;
    }) in
    c.answer_access.ensures.reached is.plain is.of_insn is.bus
    (ap access_fault (sym about.kind) ∙ sym c.access_fault_of-cause.ensures) (sym about.address)
    ∙ ap (λ (n : ℕ). by_device guest.plan h v is.plain n m e.region e.offset) is.next
    ∙ sym (by_access guest.plan h t m v (word_of r bytes) trap
    (device_access guest.plan (word_of r bytes) r.x trap)
    (record { access = is.plain; region = e.region; offset = e.offset }) is.is)

pub returns-in-None-clause-faulted : goal.returns-in-None-clause-faulted
returns-in-None-clause-faulted g c t =
    let guest = c.args.guest.now in
    let h = c.args.vcpu in
    let v = c.args.view.now in
    let r = c.args.regs.now in
    let bytes = c.args.mem.now in
    let trap = c.args.trap.now in
    ap (λ (state : HartState). after_of guest h v c.fault.new.regs bytes (Goes state))
    c.fault.ensures.started
    ∙ fault_back guest h v bytes r c.fault.new.regs (access_fault (kind_of_cause trap.cause))
    trap.tval
    (c.fault.ensures.regs
    ∙ ap (λ (cause : ℕ). after_trap cause trap.tval r) c.access_fault_of-cause.ensures)
    ∙ sym (by_none guest.plan h t (on_hart_of guest h v r bytes Started) (view_of v r Started)
    (word_of r bytes) trap (device_access guest.plan (word_of r bytes) r.x trap)
    (c.find_access.ensures.none guest.plan (sym c.map.ensures) c.in-None.is))
