use Rattle.std.proofs.Common.{◌≡◌, ◌++◌, drop, length}
use Rattle.xv_fdt.specs.Written as spec
use Rattle.xv_fdt.proofs.writing.put_properties.Given as goal

abbrev pub invariant-loop-prop : goal.invariant-loop-prop
invariant-loop-prop l = record {
  structure : l.structure.items
      ++ spec.properties_bytes (length l.strings.items) (drop l.prop-index l.props)
      ≡ l.fn.structure.items ++ spec.properties_bytes (length l.fn.strings.items) l.props;
  strings : l.strings.items ++ spec.names_bytes (drop l.prop-index l.props) ≡ l.fn.strings.items
      ++ spec.names_bytes l.props;
}
