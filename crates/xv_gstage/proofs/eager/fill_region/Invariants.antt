use Rattle.xv_gstage.proofs.EagerLemmas.{FilledTo}
use Rattle.xv_gstage.proofs.eager.fill_region.Given as goal

abbrev pub invariant-loop-page : goal.invariant-loop-page
invariant-loop-page g l =
    FilledTo l.initial.mem l.root l.map l.frames l.mem l.first l.page l.used
