use Rattle.std.proofs.Common.{◌≡◌, length}
use Rattle.xv_hart.specs.Closed.{IsClosed}
use Rattle.xv_hart.proofs.tests.store_all.Given as goal

abbrev pub invariant-loop-slot : goal.invariant-loop-slot
invariant-loop-slot g l = record {
  closed : IsClosed l.memory;
  len : length l.memory ≡ length l.fn.memory;
}
