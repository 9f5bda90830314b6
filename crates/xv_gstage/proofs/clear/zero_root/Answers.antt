use Rattle.xv_gstage.proofs.ClearLemmas.{root-next}
use Rattle.xv_gstage.proofs.clear.zero_root.Goals as goal

pub loop-frame-preserved : goal.loop-frame-preserved
loop-frame-preserved c =
    rw c.zero_frame.ensures.bytes
    (root-next c.args.mem.now c.loop-frame.mem c.args.root c.loop-frame.frame c.requires
    c.loop-frame.auto.frame c.loop-frame-test.true c.loop-frame.invariant)
