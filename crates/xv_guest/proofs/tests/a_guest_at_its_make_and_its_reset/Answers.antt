use Rattle.std.proofs.Common.{◌≡◌, None, IsTrue, sym, subst}
use Rattle.xv_region.specs.Plan.{Plan}
use Rattle.xv_region.specs.Rules.{are_sound, first_fault}
use Rattle.xv_guest.proofs.TestPlan.{area, sound, faultless}
use Rattle.xv_guest.proofs.tests.a_guest_at_its_make_and_its_reset.Goals as goal

pub make-requires-clause-sound : goal.make-requires-clause-sound
make-requires-clause-sound g c =
    let P : Plan → Type 0 = λ plan. IsTrue (are_sound plan.regions) in
    subst P (sym c.in_ok-plan.ensures) sound

pub make-requires-clause-faultless : goal.make-requires-clause-faultless
make-requires-clause-faultless g c =
    let P : Plan → Type 0 =
    λ plan. first_fault area plan.regions ≡ None in
    subst P (sym c.in_ok-plan.ensures) faultless
