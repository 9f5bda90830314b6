use Rattle.std.proofs.Common.{◌++◌, refl, ap, ◌∙◌}
use Rattle.xv_fdt.proofs.WritingLemmas.{header-wraps}
use Rattle.xv_fdt.proofs.writing.put_header.Goals as goal

pub returns : goal.returns
returns c =
    c.in_ok-put_words.ensures
    ∙ ap (λ o. c.args.out.now.items ++ o)
    (header-wraps c.args.structure c.args.strings _ _ refl refl)
