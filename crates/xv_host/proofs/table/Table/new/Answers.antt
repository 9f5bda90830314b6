use Rattle.xv_host.proofs.TableLemmas.{empty_table}
use Rattle.xv_host.proofs.table.Table.new.Goals as goal

pub invariant_of-result : goal.invariant_of-result
invariant_of-result g c =
    empty_table c.in_ok-values.values c.in_ok-values.ensures.empty c.in_ok-values.ensures.capacity
