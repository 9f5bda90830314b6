use Rattle.std.proofs.Common.{◌==◌, sym, ap}
use Rattle.xv_step.specs.Bus.{reader}
use Rattle.xv_step.specs.State.{view}
use Rattle.xv_hart.specs.Memory.{bus_of}
use Rattle.xv_hart.specs.Step.{state_of}
use Rattle.xv_sv39.proofs.VerdictLemmas.{bare_verdict}
use Rattle.xv_hart.proofs.regs.Regs.translate.Goals as goal

pub returns-then-self-eq0-clause-verdict : goal.returns-then-self-eq0-clause-verdict
returns-then-self-eq0-clause-verdict g c =
    let r = c.args.self.now in
    let bytes = c.args.mem.now in
    sym (bare_verdict (reader (bus_of r bytes) bytes) (view (state_of r bytes)) c.args.va
    c.args.kind
    (ap (λ n. n == 0) c.if-self-eq0.true))
