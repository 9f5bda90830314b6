use Rattle.std.proofs.Common.{◌≡◌, ◌+◌, ◌-◌, ◌≤◌, length}
use Rattle.xv_fdt.specs.Grammar as grammar
use Rattle.xv_fdt.specs.Progress.{taken_in, with_front}
use Rattle.xv_fdt.specs.Token as spec
use Rattle.xv_fdt.proofs.properties.properties.Given as goal

abbrev pub invariant-loop-names : goal.invariant-loop-names
invariant-loop-names l = record {
  near : l.at ≤ length l.blocks.structure.now + 3;
  forward : l.from ≤ l.at;
  so_far :
      with_front l.props.items
      (grammar.properties (taken_in l.names)
      (spec.tokens l.blocks.structure.now l.blocks.strings.now l.at))
      ≡ grammar.properties grammar.nobody
      (spec.tokens l.blocks.structure.now l.blocks.strings.now l.from);
}

abbrev pub decreases-loop-names : goal.decreases-loop-names
decreases-loop-names l = length l.blocks.structure.now + 4 - l.at
