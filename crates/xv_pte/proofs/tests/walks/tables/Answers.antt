use Rattle.std.proofs.Common.{◌*◌}
use Rattle.std.proofs.lemmas.List.{length-replicate}
use Rattle.xv_pte.proofs.TestTables.{zeros_targets}
use Rattle.xv_pte.proofs.tests.walks.tables.Goals as goal

pub loop-slot-init : goal.loop-slot-init
loop-slot-init g c =
    rw c.in_ok-memory.ensures
    (zeros_targets (4096 * c.args.frames), length-replicate (4096 * c.args.frames) 0)
