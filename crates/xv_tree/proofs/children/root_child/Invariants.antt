use Rattle.std.proofs.Common.{◌≡◌, drop}
use Rattle.std.specs.List.{find}
use Rattle.xv_tree.specs.Children.{children_from, is_named, root_child}
use Rattle.xv_tree.proofs.children.root_child.Given as goal

abbrev pub invariant-loop-number : goal.invariant-loop-number
invariant-loop-number l =
    find (is_named l.name) (children_from 0 l.number (drop l.number l.nodes))
    ≡ root_child l.name l.nodes
