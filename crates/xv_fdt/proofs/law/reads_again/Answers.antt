use Rattle.xv_fdt.proofs.TreeAgain.{reads-again}
use Rattle.xv_fdt.proofs.law.reads_again.Goals as goal

pub returns : goal.returns
returns c = reads-again
