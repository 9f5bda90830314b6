use Rattle.std.proofs.Common.{◌+◌, ◌++◌, length, drop, ap, ◌∙◌, sym}
use Rattle.std.proofs.lemmas.List.{drop_all}
use Rattle.xv_fdt.specs.Written as spec
use Rattle.xv_fdt.proofs.WritingLemmas.{drop-item, properties-step, names-step, properties-left}
use Rattle.xv_fdt.proofs.WritingLemmas.{names-left}
use Rattle.xv_fdt.proofs.writing.put_properties.Goals as goal

pub loop-prop-preserved : goal.loop-prop-preserved
loop-prop-preserved c =
    let p = c.prop-item.result in
    let i = c.loop-prop.prop-index in
    let rest = drop (i + 1) c.args.props.now in
    let first = drop-item c.args.props.now i p c.loop-prop-test.true c.prop-item.is in
    let structure = c.loop-prop.structure.items in
    let strings = c.loop-prop.strings.items in
    let put = c.in_ok-put_property.ensures in
    record {
      structure =
          properties-step structure c.put_property.new.structure.items strings
          c.put_property.new.strings.items p rest _ put.structure put.strings
          (ap (λ ps. structure ++ spec.properties_bytes (length strings) ps) (sym first)
          ∙ c.loop-prop.invariant.structure);
      strings =
          names-step strings c.put_property.new.strings.items p rest _ put.strings
          (ap (λ ps. strings ++ spec.names_bytes ps) (sym first) ∙ c.loop-prop.invariant.strings);
    }

pub returns-clause-structure : goal.returns-clause-structure
returns-clause-structure c =
    let nothing = drop_all c.loop-prop.prop-index c.args.props.now c.loop-prop-test.false in
    properties-left c.loop-prop.structure.items (length c.loop-prop.strings.items) _
    (ap (λ ps. c.loop-prop.structure.items
    ++ spec.properties_bytes (length c.loop-prop.strings.items) ps) (sym nothing)
    ∙ c.loop-prop.invariant.structure)

pub returns-clause-strings : goal.returns-clause-strings
returns-clause-strings c =
    let nothing = drop_all c.loop-prop.prop-index c.args.props.now c.loop-prop-test.false in
    names-left c.loop-prop.strings.items _
    (ap (λ ps. c.loop-prop.strings.items ++ spec.names_bytes ps) (sym nothing)
    ∙ c.loop-prop.invariant.strings)
