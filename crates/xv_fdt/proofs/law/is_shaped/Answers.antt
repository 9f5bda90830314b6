use Rattle.xv_fdt.proofs.ShapeLemmas.{allowed-shaped}
use Rattle.xv_fdt.proofs.law.is_shaped.Goals as goal

pub returns : goal.returns
returns c = allowed-shaped
