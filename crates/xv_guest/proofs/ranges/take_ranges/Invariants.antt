use Rattle.std.proofs.Common.{◌≡◌, ◌++◌, take}
use Rattle.xv_guest.specs.Frames.{reserved_ranges}
use Rattle.xv_guest.proofs.ranges.take_ranges.Given as goal

abbrev pub invariant-loop-region : goal.invariant-loop-region
invariant-loop-region l =
    l.pool ≡ record l.fn.pool {
      held = l.fn.pool.held ++ reserved_ranges (take l.region-index l.regions);
    }
