use Rattle.xv_gstage.proofs.LocalLemmas.{local-tables, local-walks, tidy-both}
use Rattle.xv_gstage.proofs.law.tables_are_local.Goals as goal

pub returns-clause-tidy : goal.returns-clause-tidy
returns-clause-tidy c = tidy-both

pub returns-clause-walks : goal.returns-clause-walks
returns-clause-walks c = local-walks

pub returns-clause-tables : goal.returns-clause-tables
returns-clause-tables c = local-tables
