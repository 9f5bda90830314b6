use Rattle.std.proofs.Common.{rules}
use Rattle.xv_sbi.specs.Calls.{call_of}
use Rattle.xv_sbi.proofs.call.call_of.Goals as goal

pub returns-in_default : goal.returns-in_default
unfolding call_of
returns-in_default c = search rules
