use Rattle.xv_csr.specs.Trap.{trap_csrs}
use Rattle.xv_csr.proofs.KeptLemmas.{trap_csrs-kept}
use Rattle.xv_trap.proofs.enter.Goals as goal

pub returns-clause-keeps : goal.returns-clause-keeps
unfolding trap_csrs
returns-clause-keeps c =
    λ kept aligned. rw c.trap_status-csrs.ensures
    (trap_csrs-kept c.args.csrs.now c.args.user c.args.cause c.args.tval c.args.pc kept aligned)
