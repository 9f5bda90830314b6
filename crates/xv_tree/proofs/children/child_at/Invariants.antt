use Rattle.std.proofs.Common.{◌≡◌, drop, slice_get}
use Rattle.xv_tree.specs.Children.{children, children_from}
use Rattle.xv_tree.proofs.children.child_at.Given as goal

abbrev pub invariant-loop-number : goal.invariant-loop-number
invariant-loop-number l =
    slice_get (children_from l.parent l.number (drop l.number l.nodes)) l.left
    ≡ slice_get (children l.parent l.nodes) l.place
