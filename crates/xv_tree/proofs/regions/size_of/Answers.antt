use Rattle.std.proofs.Common.{◌∙◌, ap, codes}
use Rattle.xv_fdt.specs.Tree.{Entry}
use Rattle.xv_tree.specs.Regions.{size_in, unit_of}
use Rattle.xv_tree.specs.Values.{number_of}
use Rattle.xv_tree.proofs.regions.size_of.Goals as goal

pub returns : goal.returns
returns c = record {
  size =
      c.size_in.ensures
      ∙ rw (c.unit_of.ensures.unit, c.number_of.ensures.number, c.deref.ensures.value) (
      ap (λ (e : Entry). size_in (unit_of c.args.sort) c.args.base
      (number_of (codes "physical_size") e.props)) c.node.view_is
      );
}
