use Rattle.std.proofs.Common.{◌≡◌, ◌++◌, drop, length}
use Rattle.xv_fdt.specs.Written as spec
use Rattle.xv_fdt.proofs.writing.put_nodes.Given as goal

abbrev pub invariant-loop-node : goal.invariant-loop-node
invariant-loop-node l = record {
  structure : l.structure.items
      ++ spec.structure_bytes l.open_nodes (length l.strings.items) (drop l.node-index l.nodes)
      ≡ l.fn.structure.items ++ spec.structure_bytes 0 (length l.fn.strings.items) l.nodes;
  strings : l.strings.items ++ spec.strings_bytes (drop l.node-index l.nodes) ≡ l.fn.strings.items
      ++ spec.strings_bytes l.nodes;
}
