use Rattle.xv_pool.specs.FrameList.{up_from}
use Rattle.xv_guest.specs.Frames.{AreCleared}
use Rattle.xv_guest.proofs.clear.clear_from.Given as goal

abbrev pub invariant-loop-place : goal.invariant-loop-place
invariant-loop-place l = AreCleared l.fn.mem l.mem (up_from l.first l.place)
