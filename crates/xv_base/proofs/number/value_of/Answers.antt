use Rattle.std.proofs.Common.{◌∙◌}
use Rattle.xv_base.proofs.NumberLemmas.{IsUtf8-digits, read_digits}
use Rattle.xv_base.proofs.number.value_of.Goals as goal

pub unreachable-requires : goal.unreachable-requires
unreachable-requires c =
    c.in_default.ensures.cases.0
    (IsUtf8-digits c.args.radix c.args.digits.now c.requires.greatest c.requires.digits)

pub returns : goal.returns
returns c =
    let parsed = rw c.in-Ok.ensures.cases.0 at c.from_str_radix.ensures.value in
    c.ok.ensures.value ∙ read_digits c.args.radix c.args.digits.now c.from_str_radix.result
    c.requires.greatest c.requires.digits c.requires.nonempty parsed
