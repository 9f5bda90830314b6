use Rattle.xv_gstage.proofs.ClearLemmas.{ListTo}
use Rattle.xv_gstage.proofs.clear.zero_frames.Given as goal

abbrev pub invariant-loop-frame : goal.invariant-loop-frame
invariant-loop-frame l = ListTo l.initial.mem l.root l.frames l.mem l.frame-index
