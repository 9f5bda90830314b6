use Rattle.std.proofs.Common.{refl, arith}
use Rattle.xv_region.specs.Need.{need}
use Rattle.xv_region.proofs.RuleLemmas.{sound-length}
use Rattle.xv_region.proofs.need.need_of.Goals as goal

pub overflow_add-result : goal.overflow_add-result
overflow_add-result c =
    let few = sound-length c.args.regions.now c.requires.accepted.sound in
    omega arith

pub overflow_add-result-2 : goal.overflow_add-result-2
overflow_add-result-2 c =
    let few = sound-length c.args.regions.now c.requires.accepted.sound in
    omega arith

pub returns : goal.returns
unfolding need
returns c = record {
  count = rw (
    c.pages_of-pages.ensures.sum,
    c.blocks_touched-upper.ensures.count,
    c.blocks_touched-lower.ensures.count,
  ) refl;
}
