use Rattle.std.proofs.Common.{◌≡◌, ◌∙◌, Ok, ap, sym, subst}
use Rattle.std.proofs.lemmas.Result.{on_ok_weaker}
use Rattle.xv_base.specs.declared.keys.Span.{Span}
use Rattle.xv_tree.specs.Plan.{plan}
use Rattle.xv_top.specs.Births.{plan_answer}
use Rattle.xv_top.specs.Manager.{world_of}
use Rattle.xv_top.proofs.ManagerLemmas.{gives_by}
use Rattle.xv_top.proofs.PlanLemmas.{tree_faultless, tree_few}
use Rattle.xv_top.proofs.manager.Manager.of_tree.Goals as goal

pub admit-requires-clause-faultless : goal.admit-requires-clause-faultless
admit-requires-clause-faultless c =
    let area = c.args.machine.now.area in
    tree_faultless c.args.tree.now area c.in-Ok.plan
    (subst (λ (a : Span). plan c.args.tree.now a ≡ Ok c.in-Ok.plan) c.area.ensures
    c.in-Ok.ensures.plan)

pub admit-requires-clause-few : goal.admit-requires-clause-few
admit-requires-clause-few c =
    tree_few c.args.tree.now c.args.machine.now.area c.in-Ok.plan
    (subst (λ (a : Span). plan c.args.tree.now a ≡ Ok c.in-Ok.plan) c.area.ensures
    c.in-Ok.ensures.plan)

pub returns-in-Ok-clause-answer : goal.returns-in-Ok-clause-answer
returns-in-Ok-clause-answer c =
    on_ok_weaker c.admit.result
    (λ answer. gives_by _ _
    (ap (plan_answer (world_of c.args.self.now c.args.machine.now.mem) c.args.name.now)
    (ap (plan c.args.tree.now) (sym (c.area.ensures ∙ c.requires.sound.area))
    ∙ c.in-Ok.ensures.plan)) answer) c.admit.ensures.answer
