use Rattle.xv_gstage.proofs.ClearLemmas.{RootTo}
use Rattle.xv_gstage.proofs.clear.zero_root.Given as goal

abbrev pub invariant-loop-frame : goal.invariant-loop-frame
invariant-loop-frame l = RootTo l.initial.mem l.mem l.root l.frame
