use Rattle.std.proofs.Common.{refl, arith, ◌∙◌}
use Rattle.xv_hart.proofs.tables.translated.Goals as goal

pub returns-clause-counted : goal.returns-clause-counted
returns-clause-counted g c =
    let rule = c.translate.ensures.rule c.new-tables.result (refl, omega arith) in
    let name = rule.0 ∙ c.new-tables.ensures.name in
    omega (arith, name, rule.1, c.translate.ensures.few, c.new-tables.ensures.steps)
