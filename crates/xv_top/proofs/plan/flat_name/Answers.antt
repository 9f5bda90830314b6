use Rattle.xv_base.specs.Name.{is_dev_name}
use Rattle.xv_top.proofs.ManagerLemmas.{none_some}
use Rattle.xv_top.proofs.plan.flat_name.Goals as goal

pub unreachable-requires : goal.unreachable-requires
unfolding is_dev_name
unreachable-requires c = none_some c.dev_name_of.result c.dev_name_of.ensures c.in_default.is
