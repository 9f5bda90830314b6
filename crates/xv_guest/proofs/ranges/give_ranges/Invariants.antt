use Rattle.std.proofs.Common.{◌≡◌, ℕ, ◌+◌, take, sum_by}
use Rattle.xv_base.specs.declared.keys.Span.{Span}
use Rattle.xv_guest.specs.Frames.{reserved_ranges}
use Rattle.xv_guest.proofs.ranges.give_ranges.Given as goal

abbrev pub invariant-loop-region : goal.invariant-loop-region
invariant-loop-region l = record {
  sums : (weight : Span → ℕ)
      → sum_by weight (reserved_ranges (take l.region-index l.regions)) + sum_by weight l.pool.held
      ≡ sum_by weight l.fn.pool.held;
  others : l.pool ≡ record l.fn.pool { held = l.pool.held };
}
