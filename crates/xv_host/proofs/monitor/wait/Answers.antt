use Rattle.std.proofs.Common.{◌∙◌, ap}
use Rattle.xv_csr.specs.Pending.{pending}
use Rattle.xv_lone.specs.Step.{after_wait}
use Rattle.xv_lone.specs.declared.vcpu.HartState.TheVariants.{Started, Waiting}
use Rattle.xv_host.proofs.ViewLemmas.{goes_on_some, wait_back, waits_on_none}
use Rattle.xv_host.proofs.monitor.wait.Goals as goal

pub returns-then-pending-eq0-clause-waits : goal.returns-then-pending-eq0-clause-waits
returns-then-pending-eq0-clause-waits c bytes =
    wait_back c.args.guest.now c.args.vcpu c.args.view.now bytes c.args.time c.next_pc-regs.result
    c.args.word c.args.regs.now Waiting c.next_pc-regs.ensures
    (waits_on_none c.pending.result c.if-pending-eq0.true
    ∙ ap after_wait (c.pending.ensures
    ∙ ap (pending c.args.regs.now.csrs) c.lines.ensures))

pub returns-else-pending-eq0-clause-waits : goal.returns-else-pending-eq0-clause-waits
returns-else-pending-eq0-clause-waits c bytes =
    wait_back c.args.guest.now c.args.vcpu c.args.view.now bytes c.args.time c.next_pc-regs.result
    c.args.word c.args.regs.now Started c.next_pc-regs.ensures
    (goes_on_some c.pending.result c.if-pending-eq0.false
    ∙ ap after_wait (c.pending.ensures
    ∙ ap (pending c.args.regs.now.csrs) c.lines.ensures))
