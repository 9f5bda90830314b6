use Rattle.std.proofs.Common.{◌≡◌, ◌*◌, length}
use Rattle.xv_pte.specs.Targets.{HasTargets}
use Rattle.xv_pte.proofs.tests.walks.tables.Given as goal

abbrev pub invariant-loop-slot : goal.invariant-loop-slot
invariant-loop-slot g l = HasTargets l.memory × (length l.memory ≡ 4096 * l.frames)
