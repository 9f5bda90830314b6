use Rattle.std.proofs.Common.{◌≡◌, length}
use Rattle.xv_pool.proofs.tests.as_many_ranges_as_there_are_regions.Given as goal

abbrev pub invariant-loop-place : goal.invariant-loop-place
invariant-loop-place g l = (length l.pool.held ≡ l.place) × (l.pool.area ≡ l.initial.pool.area)
