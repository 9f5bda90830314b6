use Rattle.std.proofs.Common.{◌≤◌, length, sym, arith}
use Rattle.std.proofs.lemmas.List.{drop_all}
use Rattle.xv_fdt.proofs.TokenLemmas.{text-nil}
use Rattle.xv_fdt.proofs.token.text_from.Goals as goal

pub returns-then-bytes-at-clause-text : goal.returns-then-bytes-at-clause-text
returns-then-bytes-at-clause-text c =
    let past : length c.args.bytes.now ≤ c.args.at = omega arith in
    rw (drop_all c.args.at c.args.bytes.now past) (sym text-nil)
