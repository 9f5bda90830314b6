use Rattle.xv_base.proofs.PaddedLemmas.{IsPadded-written}
use Rattle.xv_fdt.proofs.name.short.Goals as goal

pub invariant_of-result : goal.invariant_of-result
invariant_of-result c = IsPadded-written 63 _ _ c.requires c.copy_from_slice.ensures.after
