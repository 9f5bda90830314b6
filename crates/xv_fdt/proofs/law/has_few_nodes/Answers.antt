use Rattle.xv_fdt.proofs.SizeLemmas.{allowed-few}
use Rattle.xv_fdt.proofs.law.has_few_nodes.Goals as goal

pub returns : goal.returns
returns c = allowed-few
