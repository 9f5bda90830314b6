use Rattle.std.proofs.Common.{◌≡◌, take}
use Rattle.xv_guest.specs.Frames.{reserved_ranges}
use Rattle.xv_guest.proofs.ranges.reserved_ranges.Given as goal

abbrev pub invariant-loop-region : goal.invariant-loop-region
invariant-loop-region l =
    l.ranges.items ≡ reserved_ranges (take l.region-index l.regions)
