use Rattle.std.proofs.Common.{◌∙◌, sym}
use Rattle.xv_lone.specs.declared.vcpu.HartState.TheVariants.{Started}
use Rattle.xv_host.specs.Monitor.{word_of}
use Rattle.xv_host.specs.OnHart.{view_of, on_hart_of}
use Rattle.xv_host.proofs.MonitorLemmas.{monitored_call}
use Rattle.xv_host.proofs.monitor.answer.Goals as goal

pub returns-in-10-clause-monitored : goal.returns-in-10-clause-monitored
returns-in-10-clause-monitored g c =
    let guest = c.args.guest.now in
    let h = c.args.vcpu in
    let v = c.args.view.now in
    let r = c.args.regs.now in
    let bytes = c.args.mem.now in
    c.answer_call.ensures.calls c.args.time bytes
    ∙ sym (monitored_call guest.plan h c.args.time (on_hart_of guest h v r bytes Started)
    (view_of v r Started) (word_of r bytes) c.args.trap.now c.in-10.is)
