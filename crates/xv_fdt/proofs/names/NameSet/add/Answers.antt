use Rattle.xv_fdt.proofs.NameLemmas.{one_more}
use Rattle.xv_fdt.proofs.names.NameSet.add.Goals as goal

pub returns : goal.returns
returns c = one_more c.args.self.now (record { set = c.insert.new.self }) c.args.name
    c.in_ok-insert.ensures.updates.0
