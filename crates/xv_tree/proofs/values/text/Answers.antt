use Rattle.std.proofs.Common.{sym, ◌∙◌}
use Rattle.xv_tree.proofs.ValueLemmas.{text-none, text-some}
use Rattle.xv_tree.proofs.values.text.Goals as goal

pub returns-in-Some : goal.returns-in-Some
returns-in-Some c =
    text-some c.args.value.now c.in-Some.len (sym c.zero_place.ensures.place ∙ c.in-Some.is)

pub returns-in-None : goal.returns-in-None
returns-in-None c = text-none c.args.value.now (sym c.zero_place.ensures.place ∙ c.in-None.is)
