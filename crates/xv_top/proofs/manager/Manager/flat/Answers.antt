use Rattle.std.proofs.Common.{◌≡◌, ◌≤◌, ◌∙◌, ap, length, IsTrue, None, refl, subst, sym}
use Rattle.std.specs.List.{All}
use Rattle.std.proofs.lemmas.Result.{on_ok_weaker, on_err_weaker}
use Rattle.xv_csr.specs.Fields.{IsInstructionAddress}
use Rattle.xv_region.specs.Plan.{Plan, flat}
use Rattle.xv_region.specs.Rules.{are_sound, first_fault}
use Rattle.xv_top.specs.Births.{admitted}
use Rattle.xv_top.specs.Manager.{world_of}
use Rattle.xv_top.proofs.ManagerLemmas.{alone_wants, gives_by}
use Rattle.xv_top.proofs.PlanLemmas.{flat_few, flat_faultless, flat_sound, flat_starts}
use Rattle.xv_top.proofs.manager.Manager.flat.Goals as goal

pub admit-requires-clause-regions : goal.admit-requires-clause-regions
admit-requires-clause-regions c =
    subst (λ (p : Plan). IsTrue (are_sound p.regions)) (sym c.in-Ok.ensures)
    (flat_sound c.args.pages c.requires.pages.0 c.requires.pages.1)

pub admit-requires-clause-faultless : goal.admit-requires-clause-faultless
admit-requires-clause-faultless c =
    let area = c.args.machine.now.area in
    subst (λ (p : Plan). first_fault area p.regions ≡ None) (sym c.in-Ok.ensures)
    (flat_faultless area c.args.pages)

pub admit-requires-clause-starts : goal.admit-requires-clause-starts
admit-requires-clause-starts c =
    subst (λ (p : Plan). All (λ vcpu. IsInstructionAddress vcpu.start) p.vcpus)
    (sym c.in-Ok.ensures) (flat_starts c.args.pages)

pub admit-requires-clause-few : goal.admit-requires-clause-few
admit-requires-clause-few c =
    subst (λ (p : Plan). length p.vcpus ≤ 8) (sym c.in-Ok.ensures) (flat_few c.args.pages)

pub returns-clause-answer : goal.returns-clause-answer
returns-clause-answer c =
    let w = world_of c.args.self.now c.args.machine.now.mem in
    let name = c.args.name.now in
    on_ok_weaker c.admit.result
    (λ answer. gives_by _ _
    (c.if-not-is_alone.ensures.next refl c.args.machine.now.mem
    (admitted w name (flat c.args.pages)) ∙ ap (admitted w name) (sym c.in-Ok.ensures)) answer)
    c.admit.ensures.answer

pub returns-clause-want : goal.returns-clause-want
returns-clause-want c =
    on_err_weaker c.admit.result
    (λ _. alone_wants c.args.self.now c.args.machine.now.mem c.args.name.now c.args.pages
    (c.if-not-is_alone.ensures.alone refl)) c.admit.ensures.stopped

pub returns-in_default-clause-want : goal.returns-in_default-clause-want
returns-in_default-clause-want c =
    alone_wants c.args.self.now c.args.machine.now.mem c.args.name.now c.args.pages
    (c.if-not-is_alone.ensures.alone refl)
