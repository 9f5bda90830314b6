use Rattle.std.proofs.Common.{◌∙◌, ℕ, Option, option_map, sym, ap}
use Rattle.std.proofs.lemmas.Bool.{cond-true, cond-false}
use Rattle.xv_top.specs.Manager.{live_guest}
use Rattle.xv_top.specs.World.{candidate, first_of_two, goes_before}
use Rattle.xv_top.proofs.manager.Manager.first_of_two.Goals as goal

pub returns-then-goes_before-clause-first : goal.returns-then-goes_before-clause-first
returns-then-goes_before-clause-first c g at name bytes =
    let one = candidate (live_guest name c.args.self.now.last g bytes) in
    let vcpu = one c.args.vcpu in
    let other = one c.in-Some.other in
    sym (ap (λ (o : Option ℕ). first_of_two (option_map one o) vcpu) c.in-Some.is
    ∙ cond-true (goes_before vcpu other) vcpu other
    (sym (c.goes_before.ensures g at name bytes) ∙ c.if-goes_before.true))

pub returns-else-goes_before-clause-first : goal.returns-else-goes_before-clause-first
returns-else-goes_before-clause-first c g at name bytes =
    let one = candidate (live_guest name c.args.self.now.last g bytes) in
    let vcpu = one c.args.vcpu in
    let other = one c.in-Some.other in
    sym (ap (λ (o : Option ℕ). first_of_two (option_map one o) vcpu) c.in-Some.is
    ∙ cond-false (goes_before vcpu other) vcpu other
    (sym (c.goes_before.ensures g at name bytes) ∙ c.if-goes_before.false))
