use Rattle.xv_tree.proofs.PlanLemmas.{named-at}
use Rattle.xv_tree.proofs.regions.regions_of.Goals as goal

pub add_node-requires : goal.add_node-requires
add_node-requires c = record {
  named =
      named-at c.args.nodes.now c.loop-number.number c.index-nodes-number.result c.requires.shaped
      c.loop-number.auto.number c.loop-number-test.true c.index-nodes-number.is;
}
