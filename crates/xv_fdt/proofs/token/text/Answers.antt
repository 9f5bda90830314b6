use Rattle.std.proofs.Common.{sym}
use Rattle.xv_fdt.proofs.TokenLemmas.{text-none, text-some}
use Rattle.xv_fdt.proofs.token.text.Goals as goal

pub returns-in-Some-clause-text : goal.returns-in-Some-clause-text
returns-in-Some-clause-text c =
    sym (text-some c.args.bytes.now c.in-Some.len (sym c.in-Some.ensures.position))

pub returns-in-None-clause-text : goal.returns-in-None-clause-text
returns-in-None-clause-text c = sym (text-none c.args.bytes.now (sym c.in-None.ensures.position))
