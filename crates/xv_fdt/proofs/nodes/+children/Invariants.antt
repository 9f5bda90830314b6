use Rattle.std.proofs.Common.{◌≡◌, ◌+◌, ◌-◌, ◌≤◌, length}
use Rattle.xv_fdt.specs.Grammar as grammar
use Rattle.xv_fdt.specs.Progress.{taken_in, with_front}
use Rattle.xv_fdt.specs.Token as spec
use Rattle.xv_fdt.proofs.nodes.+children.Given as goal

abbrev pub decreases-children : goal.decreases-children
decreases-children l = 17 - l.depth

abbrev pub invariant-loop-nodes : goal.invariant-loop-nodes
invariant-loop-nodes l = record {
  near : l.at ≤ length l.blocks.structure.now + 3;
  forward : l.from ≤ l.at;
  few : length l.nodes.items ≤ l.at;
  so_far :
      with_front l.nodes.items
      (grammar.children (length l.nodes.items) l.parent l.depth (taken_in l.names)
      (spec.tokens l.blocks.structure.now l.blocks.strings.now l.at))
      ≡ with_front l.fn.nodes.items
      (grammar.children (length l.fn.nodes.items) l.parent l.depth grammar.nobody
      (spec.tokens l.blocks.structure.now l.blocks.strings.now l.from));
}

abbrev pub decreases-loop-nodes : goal.decreases-loop-nodes
decreases-loop-nodes l = length l.blocks.structure.now + 4 - l.at
