use Rattle.std.proofs.Common.{◌+◌, ap, ◌∙◌, ◌∷◌, sym}
use Rattle.xv_fdt.specs.Token as spec
use Rattle.xv_fdt.proofs.TokenLemmas.{tokens-property}
use Rattle.xv_fdt.proofs.properties.property.Goals as goal

pub returns-clause-behind : goal.returns-clause-behind
returns-clause-behind c =
    let structure = c.args.blocks.now.structure.now in
    let strings = c.args.blocks.now.strings.now in
    tokens-property structure strings c.args.at
    (record { name = c.in-Ok.found.0.now; value = c.in-Ok.found.1.now }) c.requires.mark
    c.in-Ok.ensures.found
    ∙ ap (λ len. spec.Prop c.args.at (spec.property_at structure strings c.args.at)
    ∷ spec.tokens structure strings (c.args.at + 12 + len)) (sym c.padded_len.ensures.padded_len)
