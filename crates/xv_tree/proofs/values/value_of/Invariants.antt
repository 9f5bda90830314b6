use Rattle.std.proofs.Common.{◌≡◌, drop}
use Rattle.std.specs.List.{find}
use Rattle.xv_tree.specs.Values.{has_name}
use Rattle.xv_tree.proofs.values.value_of.Given as goal

abbrev pub invariant-loop-prop : goal.invariant-loop-prop
invariant-loop-prop l =
    find (has_name l.name) (drop l.prop-index l.props) ≡ find (has_name l.name) l.props
