use Rattle.xv_base.proofs.PaddedLemmas.{IsPadded-written}
use Rattle.xv_base.proofs.short.Short.of.Goals as goal

pub invariant_of-result : goal.invariant_of-result
invariant_of-result g c = IsPadded-written _ _ _ c.requires c.copy_from_slice.ensures.after
