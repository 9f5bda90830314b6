use Rattle.std.proofs.Common.{◌+◌, ◌++◌, length, drop, ap, ◌∙◌, sym}
use Rattle.std.proofs.lemmas.List.{drop_all}
use Rattle.xv_fdt.specs.Tree.{Entry}
use Rattle.xv_fdt.specs.Written as spec
use Rattle.xv_fdt.proofs.WritingLemmas.{drop-item, structure-step, strings-step, structure-left}
use Rattle.xv_fdt.proofs.WritingLemmas.{strings-left}
use Rattle.xv_fdt.proofs.writing.put_nodes.Goals as goal

pub loop-node-preserved : goal.loop-node-preserved
loop-node-preserved c =
    let e = c.node-item.result in
    let i = c.loop-node.node-index in
    let rest = drop (i + 1) c.args.nodes.now in
    let first = drop-item c.args.nodes.now i e c.loop-node-test.true c.node-item.is in
    let structure = c.loop-node.structure.items in
    let strings = c.loop-node.strings.items in
    let put = c.in_ok-put_node.ensures in
    record {
      structure =
          ap (λ (v : Entry). c.put_node.new.structure.items
          ++ spec.structure_bytes v.depth (length c.put_node.new.strings.items) rest)
          c.node.view_is
          ∙ structure-step structure c.put_node.new.structure.items strings
          c.put_node.new.strings.items c.loop-node.open_nodes e rest _ put.structure put.strings
          (ap (λ es. structure ++ spec.structure_bytes c.loop-node.open_nodes (length strings) es)
          (sym first) ∙ c.loop-node.invariant.structure);
      strings =
          strings-step strings c.put_node.new.strings.items e rest _ put.strings
          (ap (λ es. strings ++ spec.strings_bytes es) (sym first) ∙ c.loop-node.invariant.strings);
    }

pub returns-clause-structure : goal.returns-clause-structure
returns-clause-structure c =
    let nothing = drop_all c.loop-node.node-index c.args.nodes.now c.loop-node-test.false in
    structure-left c.loop-node.structure.items c.put_ends.new.out.items c.put_word.new.out.items
    c.loop-node.open_nodes (length c.loop-node.strings.items) _
    c.in_ok-put_ends.ensures c.in_ok-put_word.ensures
    (ap (λ es. c.loop-node.structure.items
    ++ spec.structure_bytes c.loop-node.open_nodes (length c.loop-node.strings.items) es)
    (sym nothing) ∙ c.loop-node.invariant.structure)

pub returns-clause-strings : goal.returns-clause-strings
returns-clause-strings c =
    let nothing = drop_all c.loop-node.node-index c.args.nodes.now c.loop-node-test.false in
    strings-left c.loop-node.strings.items _
    (ap (λ es. c.loop-node.strings.items ++ spec.strings_bytes es) (sym nothing)
    ∙ c.loop-node.invariant.strings)
