use Rattle.std.proofs.Common.{◌≡◌, drop, map}
use Rattle.xv_tree.specs.Regions.{first_known}
use Rattle.xv_tree.proofs.sort.first_known.Given as goal

abbrev pub invariant-loop-name : goal.invariant-loop-name
invariant-loop-name l =
    first_known (map (λ name. name.now) (drop l.name-index l.names))
    ≡ first_known (map (λ name. name.now) l.names)
