use Rattle.std.proofs.Common.{List, ap, ◌∙◌, arith, refl}
use Rattle.xv_base.specs.declared.keys.Span.{Span}
use Rattle.xv_pool.specs.Resources.{Resources}
use Rattle.xv_guest.specs.Frames.{reserved_ranges}
use Rattle.xv_guest.proofs.RangeLemmas.{give-more, give-front}
use Rattle.xv_guest.proofs.ranges.give_ranges.Goals as goal

with_held : Resources → List Span → Resources
with_held pool held = record pool { held = held }

pub loop-region-init : goal.loop-region-init
unfolding reserved_ranges
loop-region-init c = record { sums = λ weight. omega arith; others = refl }

pub give_range-requires : goal.give_range-requires
give_range-requires c = record {
  held = λ weight.
      let more = give-more c.args.regions.now c.loop-region.region-index c.region-item.result
      c.loop-region-test.true c.region-item.is weight in
      let front = give-front c.args.regions.now c.loop-region.region-index c.region-item.result
      c.loop-region-test.true c.region-item.is weight in
      let all = c.requires.held weight in
      let sums = c.loop-region.invariant.sums weight in
      omega arith;
}

pub loop-region-preserved : goal.loop-region-preserved
unfolding with_held
loop-region-preserved c = record {
  sums = λ weight.
      let more = give-more c.args.regions.now c.loop-region.region-index c.region-item.result
      c.loop-region-test.true c.region-item.is weight in
      let given = c.give_range.ensures.sums weight in
      let sums = c.loop-region.invariant.sums weight in
      omega arith;
  others = c.give_range.ensures.others
      ∙ ap (λ (pool : Resources). with_held pool c.give_range.new.pool.held)
      c.loop-region.invariant.others;
}
