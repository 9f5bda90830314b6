use Rattle.std.proofs.Common.{◌≡◌, ◌/◌, ◌^◌, take}
use Rattle.xv_region.specs.Need.{blocks_touched}
use Rattle.xv_region.proofs.need.blocks_touched.Given as goal

abbrev pub invariant-loop-number : goal.invariant-loop-number
invariant-loop-number l =
    l.total ≡ blocks_touched l.size (2 ^ 41 / l.size) (take l.number l.regions)
