use Rattle.xv_csr.specs.Trap.{return_csrs}
use Rattle.xv_csr.proofs.KeptLemmas.{return_csrs-kept}
use Rattle.xv_trap.proofs.leave.Goals as goal

pub returns-clause-keeps : goal.returns-clause-keeps
unfolding return_csrs
returns-clause-keeps c =
    λ kept. rw c.return_status-csrs.ensures (return_csrs-kept c.args.csrs.now kept)
