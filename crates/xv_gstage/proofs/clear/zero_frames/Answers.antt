use Rattle.xv_gstage.proofs.ClearLemmas.{list-all, list-inside, list-next}
use Rattle.xv_gstage.proofs.clear.zero_frames.Goals as goal

pub zero_frame-requires : goal.zero_frame-requires
zero_frame-requires c =
    list-inside c.args.mem.now c.args.root c.args.frames.now c.requires.inside c.loop-frame.mem
    c.loop-frame.frame-index c.loop-frame.invariant c.loop-frame-test.true

pub loop-frame-preserved : goal.loop-frame-preserved
loop-frame-preserved c =
    rw c.zero_frame.ensures.bytes
    (list-next c.args.mem.now c.args.root c.args.frames.now c.requires.inside c.loop-frame.mem
    c.loop-frame.frame-index c.loop-frame-test.true c.loop-frame.invariant)

pub returns-clause-frames : goal.returns-clause-frames
returns-clause-frames c =
    list-all c.args.mem.now c.args.root c.args.frames.now c.requires.inside c.loop-frame.mem
    c.loop-frame.frame-index c.loop-frame-test.false c.loop-frame.invariant
