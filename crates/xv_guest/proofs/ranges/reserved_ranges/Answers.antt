use Rattle.std.proofs.Common.{◌++◌, take, sym, ap, ◌∙◌}
use Rattle.xv_guest.specs.Frames.{ranges_of, reserved_ranges}
use Rattle.xv_guest.proofs.RangeLemmas.{ranges-more}
use Rattle.xv_guest.proofs.ranges.reserved_ranges.Goals as goal

pub loop-region-init : goal.loop-region-init
unfolding reserved_ranges
loop-region-init c = c.new-ranges.ensures.items

pub loop-region-preserved : goal.loop-region-preserved
loop-region-preserved c =
    let rs = c.args.regions.now in
    let i = c.loop-region.region-index in
    let region = c.region-item.result in
    c.in_ok-push_range.ensures
    ∙ ap (λ ranges. ranges ++ ranges_of region) c.loop-region.invariant
    ∙ ap (λ r. reserved_ranges (take i rs) ++ ranges_of r) c.region-item.is
    ∙ sym (ranges-more rs i region c.loop-region-test.true)
