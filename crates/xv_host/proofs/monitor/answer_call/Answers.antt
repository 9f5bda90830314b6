use Rattle.std.proofs.Common.{◌≡◌, ◌∙◌, Option, slice_get, refl, sym, ap, subst}
use Rattle.xv_hart.specs.Step.{held_of}
use Rattle.xv_hart.specs.declared.regs.Held.{Held}
use Rattle.xv_hart.specs.declared.regs.Regs.{Regs}
use Rattle.xv_isa.specs.Length.{next_pc}
use Rattle.xv_lone.specs.Step.{calls}
use Rattle.xv_lone.specs.declared.vcpu.HartState.TheVariants.{Started}
use Rattle.xv_lone.specs.declared.vcpu.VcpuView.{VcpuView}
use Rattle.xv_step.specs.State.{held_as}
use Rattle.xv_firmware.specs.Calls.{after_guest, ecall_word}
use Rattle.xv_guest.specs.Guest.{Guest, held_of as holdings_of, lone_of}
use Rattle.xv_guest.specs.Held.{Held as Holdings}
use Rattle.xv_host.specs.OnHart.{view_of, with_view}
use Rattle.xv_host.specs.Spots.{place_of}
use Rattle.xv_host.proofs.ViewLemmas.{after_is, slice_get-set}
use Rattle.xv_host.proofs.monitor.answer_call.Goals as goal

pub returns-clause-calls : goal.returns-clause-calls
returns-clause-calls c t bytes =
    let g = c.args.guest.now in
    let h = c.args.vcpu in
    let r = c.args.regs.now in
    let v = view_of c.args.view.now r Started in
    let put = with_view g h v in
    let called = c.set_view.new.self in
    let last = c.call-progress.new.guest in
    let progress = c.call-progress.result in
    let u = c.view.result in
    let after = c.load.new.regs in
    let held = held_as (place_of (holdings_of g)) (held_of r.held) in
    let called_is : called ≡ put =
    c.set_view.ensures ∙ ap (λ (w : VcpuView). with_view g h w) c.shown_view.ensures in
    let holdings : holdings_of last ≡ holdings_of g =
    ap holdings_of c.call-progress.ensures.leaves ∙ ap holdings_of called_is in
    let regs = c.load.ensures.regs in
    let shows : after ≡ record after { x = u.x; pc = u.pc; user = u.user; csrs = u.csrs } =
    subst (λ (m : Regs). m ≡ record m { x = u.x; pc = u.pc; user = u.user; csrs = u.csrs })
    (sym regs) refl in
    let at = ap (λ (x : Guest). slice_get x.vcpus h) called_is
    ∙ slice_get-set g.vcpus h v c.requires.number in
    after_is last h u after bytes c.view.ensures.view shows progress
    (c.call-progress.ensures.state u c.view.ensures.view)
    ∙ ap (λ (x : Option Held). after_guest last (held_as (place_of (holdings_of last)) (held_of x))
    bytes progress) (ap (λ (m : Regs). m.held) regs)
    ∙ ap (λ (x : Holdings). after_guest last (held_as (place_of x) (held_of r.held)) bytes progress)
    holdings
    ∙ c.call-progress.ensures.called t bytes held v at
    ∙ ap (λ (x : Guest). calls x.plan h t (record { machine = lone_of x bytes; held = held }) v
    (next_pc r.pc ecall_word)) called_is
