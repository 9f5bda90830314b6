use Rattle.std.proofs.Common.{◌*◌, subst, sym}
use Rattle.xv_hart.specs.Closed.{IsClosed}
use Rattle.xv_hart.proofs.ClosedLemmas.{zeros_closed}
use Rattle.xv_hart.proofs.tests.fitted.Goals as goal

pub returns-clause-closed : goal.returns-clause-closed
returns-clause-closed c =
    subst IsClosed (sym c.in_ok-fit.ensures.memory) (zeros_closed (4096 * (256 * c.args.mib)))
