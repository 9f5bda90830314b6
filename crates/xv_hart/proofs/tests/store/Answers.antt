use Rattle.std.proofs.Common.{subst, sym, arith}
use Rattle.xv_pte.specs.GStage.{entry_of}
use Rattle.xv_hart.specs.Closed.{IsClosed, NamesInside}
use Rattle.xv_hart.proofs.ClosedLemmas.{stored_closed}
use Rattle.xv_hart.proofs.tests.store.Goals as goal

pub returns-clause-closed : goal.returns-clause-closed
returns-clause-closed g c =
    let bytes = c.args.memory.now in
    subst IsClosed (sym c.write64.ensures.bytes)
    (stored_closed bytes c.args.slot c.args.word (omega arith) (omega arith)
    (subst (λ n. NamesInside n (entry_of c.args.word)) c.frames-frames.ensures.whole
    (c.leads_out.ensures c.if-leads_out.false)) c.requires)
