use Rattle.std.proofs.Common.{List, ℕ, Result, Ok, Err, IfOk}
use Rattle.xv_fdt.specs.declared.fault.FdtFault.{FdtFault}
use Rattle.xv_fdt.specs.Fault.{Gives}
use Rattle.xv_fdt.specs.Grammar.{IsAllowed, tree}
use Rattle.xv_fdt.specs.Tree.{Entry}
use Rattle.xv_fdt.proofs.reading.read.Goals as goal

is_allowed : (bytes : List ℕ) (r : Result (List Entry) FdtFault)
    → Gives (λ found. found) r (tree bytes) → IfOk r IsAllowed
is_allowed bytes (Ok entries) found = (bytes, found)
is_allowed bytes (Err e) found = tt

pub returns-clause-allowed : goal.returns-clause-allowed
returns-clause-allowed c = is_allowed c.args.bytes.now c.tree_of.result c.tree_of.ensures
