use Rattle.std.proofs.Common.{arith}
use Rattle.xv_pool.specs.FrameList.{up_from}
use Rattle.xv_guest.proofs.ClearLemmas.{cleared_none, cleared_more}
use Rattle.xv_guest.proofs.clear.clear_from.Goals as goal

pub loop-place-init : goal.loop-place-init
unfolding up_from
loop-place-init c = cleared_none c.args.mem.now

pub clear_one-requires : goal.clear_one-requires
clear_one-requires c =
    let same = c.loop-place.invariant.whole in
    omega arith

pub loop-place-preserved : goal.loop-place-preserved
loop-place-preserved c =
    cleared_more c.args.mem.now c.loop-place.mem c.clear_one.new.mem c.args.first
    c.loop-place.place c.loop-place.invariant c.clear_one.ensures
