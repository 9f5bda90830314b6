use Rattle.std.proofs.Common.{◌≡◌, drop}
use Rattle.xv_tree.specs.Children.{children, children_from}
use Rattle.xv_tree.specs.Fault.{in_turn}
use Rattle.xv_tree.specs.Regions.{nothing_kept, with_node}
use Rattle.xv_tree.specs.Seen.{seen}
use Rattle.xv_tree.proofs.regions.regions_of.Given as goal

abbrev pub invariant-loop-number : goal.invariant-loop-number
invariant-loop-number l =
    in_turn with_node (seen l.kept) (children_from l.parent l.number (drop l.number l.nodes))
    ≡ in_turn with_node nothing_kept (children l.parent l.nodes)
