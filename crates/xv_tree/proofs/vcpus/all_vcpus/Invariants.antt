use Rattle.std.proofs.Common.{◌≡◌, [], drop}
use Rattle.xv_tree.specs.Children.{children, children_from}
use Rattle.xv_tree.specs.Fault.{in_turn}
use Rattle.xv_tree.specs.Vcpus.{with_vcpu}
use Rattle.xv_tree.proofs.vcpus.all_vcpus.Given as goal

abbrev pub invariant-loop-number : goal.invariant-loop-number
invariant-loop-number l =
    in_turn with_vcpu l.vcpus.items (children_from l.parent l.number (drop l.number l.nodes))
    ≡ in_turn with_vcpu [] (children l.parent l.nodes)
