use Rattle.std.proofs.Common.{◌≡◌, ℕ, ◌+◌, take, sum_by}
use Rattle.xv_guest.proofs.give.give_frames.Given as goal

abbrev pub invariant-loop-frame : goal.invariant-loop-frame
invariant-loop-frame l = record {
  sums : (weight : ℕ → ℕ)
      → sum_by weight l.pool.free
      ≡ sum_by weight (take l.frame-index l.frames) + sum_by weight l.fn.pool.free;
  others : l.pool ≡ record l.fn.pool { free = l.pool.free };
}
