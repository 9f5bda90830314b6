use Rattle.std.proofs.Common.{◌≡◌, ◌∙◌, ℕ, sym, ap}
use Rattle.xv_isa.specs.Length.{next_pc}
use Rattle.xv_lone.specs.Calls as lone
use Rattle.xv_lone.specs.Calls.{call_in, replied}
use Rattle.xv_lone.specs.Machine.{Machine}
use Rattle.xv_lone.specs.Step.{by_reply}
use Rattle.xv_lone.specs.declared.vcpu.VcpuView.{VcpuView}
use Rattle.xv_region.specs.Plan.{Plan}
use Rattle.xv_sbi.specs.declared.call.Call.{Call}
use Rattle.xv_guest.specs.Guest.{Guest, lone_of}
use Rattle.xv_firmware.specs.Calls.{ecall_word, reply_of}
use Rattle.xv_firmware.proofs.CallLemmas.{caller_is, reply_back, same_rest}
use Rattle.xv_firmware.proofs.calls.call.Goals as goal

pub returns-clause-called : goal.returns-clause-called
returns-clause-called c t bytes held v at =
    let called = c.args.guest.now in
    let h = c.args.vcpu in
    let now = c.reply_to-reply.new.guest in
    let reply = c.reply_to-reply.result in
    let changes = c.reply_to-reply.ensures.changes in
    let n = next_pc v.pc ecall_word in
    let view : c.view-view.result ≡ v = let there = c.view-view.ensures.view in cc in
    let plan : now.plan ≡ called.plan = ap (λ (g : Guest). g.plan) (same_rest called now reply
    changes) in
    let run = λ (m : Machine) (plan : Plan) (next : ℕ) (reply : lone.Reply).
    by_reply plan h t (record { machine = m; held = held }) v next reply in
    c.carry_out.ensures.out t bytes held v (caller_is h v called now reply changes at)
    ∙ ap (λ (p : Plan). run (lone_of now bytes) p c.next_pc.result
    (reply_of reply (lone_of now bytes))) plan
    ∙ ap (λ (k : ℕ). run (lone_of now bytes) called.plan k (reply_of reply (lone_of now bytes)))
    (c.next_pc.ensures ∙ ap (λ (w : VcpuView). next_pc w.pc ecall_word) view)
    ∙ reply_back called.plan h t n held v called now bytes reply changes
    ∙ ap (run (lone_of called bytes) called.plan n) (sym (c.reply_to-reply.ensures.replied bytes))
    ∙ ap (λ (x : Call). run (lone_of called bytes) called.plan n
    (replied called.plan h (lone_of called bytes) x))
    (c.call_in.ensures ∙ ap (λ (w : VcpuView). call_in w.x) view)
