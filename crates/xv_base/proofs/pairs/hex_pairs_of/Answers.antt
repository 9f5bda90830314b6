use Rattle.std.proofs.Common.{arith}
use Rattle.std.proofs.lemmas.Bool.Decides.{nat_tests}
use Rattle.xv_base.proofs.TextLemmas.{hex_pairs-empty, hex_pairs-read, hex_pairs-none}
use Rattle.xv_base.proofs.pairs.hex_pairs_of.Goals as goal

pub returns-then-is_empty : goal.returns-then-is_empty
returns-then-is_empty c = hex_pairs-empty c.args.text.now (grind (arith, nat_tests))

pub returns-in-Ok : goal.returns-in-Ok
returns-in-Ok c = hex_pairs-read c.args.text.now _ (grind (arith, nat_tests)) c.in-Ok.ensures.ok

pub returns-in_default : goal.returns-in_default
returns-in_default c =
    hex_pairs-none c.args.text.now c.in-Err.error (grind (arith, nat_tests)) c.in-Err.ensures.err
    c.in_default.not-OutOfMemory
