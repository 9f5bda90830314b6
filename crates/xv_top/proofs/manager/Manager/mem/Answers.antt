use Rattle.xv_top.proofs.ManagerLemmas.{name_short}
use Rattle.xv_top.proofs.manager.Manager.mem.Goals as goal

pub mem-requires-clause-short : goal.mem-requires-clause-short
mem-requires-clause-short c =
    name_short c.args.name.now c.bytes.result.now c.bytes.ensures.value c.bytes.ensures.grammar
