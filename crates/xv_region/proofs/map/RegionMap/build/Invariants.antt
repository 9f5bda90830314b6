use Rattle.std.proofs.Common.{◌≡◌, drop}
use Rattle.xv_region.specs.Rules.{fault_from, first_fault}
use Rattle.xv_region.proofs.map.RegionMap.build.Given as goal

abbrev pub invariant-loop-number : goal.invariant-loop-number
invariant-loop-number l =
    fault_from l.area l.regions l.number (drop l.number l.regions) ≡ first_fault l.area l.regions
