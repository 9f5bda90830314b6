use Rattle.xv_fdt.proofs.NameLemmas.{none_taken}
use Rattle.xv_fdt.proofs.names.NameSet.new.Goals as goal

pub returns : goal.returns
returns c = none_taken (record { set = c.new.result }) c.new.ensures.empty
