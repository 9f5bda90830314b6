use Rattle.std.proofs.Common.{◌≡◌, None, IsTrue, sym, subst}
use Rattle.xv_region.specs.Plan.{Plan}
use Rattle.xv_region.specs.Rules.{are_sound, first_fault}
use Rattle.xv_host.proofs.TestPlan.{sound, faultless}
use Rattle.xv_host.proofs.tests.World.admit.Goals as goal

pub admit-requires-clause-sound : goal.admit-requires-clause-sound
admit-requires-clause-sound c =
    subst (λ (plan : Plan). IsTrue (are_sound plan.regions)) (sym c.in_ok-plan.ensures) sound

pub admit-requires-clause-faultless : goal.admit-requires-clause-faultless
admit-requires-clause-faultless c =
    subst (λ (plan : Plan). first_fault c.self.inside.machine.area plan.regions ≡ None)
    (sym c.in_ok-plan.ensures) (faultless c.self.inside.machine.area)
