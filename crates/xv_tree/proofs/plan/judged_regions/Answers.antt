use Rattle.xv_tree.specs.Children.{children}
use Rattle.xv_tree.specs.Seen.{seen}
use Rattle.xv_tree.proofs.SoundLemmas.{kept-sound}
use Rattle.xv_tree.proofs.plan.judged_regions.Goals as goal

pub build-requires : goal.build-requires
build-requires c = record {
  sound =
      rw c.deref.ensures.value (
      kept-sound (children c.args.aspace c.args.nodes.now) (seen c.in-Ok.kept) c.in-Ok.ensures.exact
      );
}
