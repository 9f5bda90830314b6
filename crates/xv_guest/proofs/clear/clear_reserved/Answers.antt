use Rattle.xv_gstage.specs.Own.{reserved_frames}
use Rattle.xv_guest.proofs.ClearLemmas.{cleared_none, cleared_region, region_inside}
use Rattle.xv_guest.proofs.clear.clear_reserved.Goals as goal

pub loop-region-init : goal.loop-region-init
unfolding reserved_frames
loop-region-init c = cleared_none c.args.mem.now

pub clear_region-requires : goal.clear_region-requires
clear_region-requires c =
    region_inside c.args.mem.now c.loop-region.mem c.loop-region.mem c.args.regions.now
    c.loop-region.region-index c.region-item.result c.loop-region-test.true c.region-item.is
    c.loop-region.invariant c.requires

pub loop-region-preserved : goal.loop-region-preserved
loop-region-preserved c =
    cleared_region c.args.mem.now c.loop-region.mem c.clear_region.new.mem c.args.regions.now
    c.loop-region.region-index c.region-item.result c.loop-region-test.true c.region-item.is
    c.loop-region.invariant c.clear_region.ensures
