use Rattle.std.proofs.Common.{take}
use Rattle.xv_gstage.specs.Own.{reserved_frames}
use Rattle.xv_guest.specs.Frames.{AreCleared}
use Rattle.xv_guest.proofs.clear.clear_reserved.Given as goal

abbrev pub invariant-loop-region : goal.invariant-loop-region
invariant-loop-region l =
    AreCleared l.fn.mem l.mem (reserved_frames (take l.region-index l.regions))
