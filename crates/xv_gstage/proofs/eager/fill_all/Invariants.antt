use Rattle.xv_gstage.proofs.EagerLemmas.{AllTo}
use Rattle.xv_gstage.proofs.eager.fill_all.Given as goal

abbrev pub invariant-loop-region : goal.invariant-loop-region
invariant-loop-region g l =
    AllTo l.initial.mem l.root l.map l.frames l.mem l.region-index l.used
