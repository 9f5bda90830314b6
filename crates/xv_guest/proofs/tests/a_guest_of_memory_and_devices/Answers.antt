use Rattle.std.proofs.Common.{◌≡◌, List, [], None, IsTrue, subst}
use Rattle.xv_region.specs.declared.plan.Region.{Region}
use Rattle.xv_region.specs.Rules.{are_sound, first_fault}
use Rattle.xv_gstage.specs.Own.{reserved_frames}
use Rattle.xv_guest.specs.Frames.{reserved_ranges}
use Rattle.xv_guest.proofs.TestPlan.{area, mixed_faultless, mixed_frames, mixed_is}
use Rattle.xv_guest.proofs.TestPlan.{mixed_ranges, mixed_sound}
use Rattle.xv_guest.proofs.tests.a_guest_of_memory_and_devices.Goals as goal

pub taken-requires-clause-sound : goal.taken-requires-clause-sound
taken-requires-clause-sound g c =
    let is = mixed_is c.in-Some.name c.region.result c.region-2.result c.region-3.result
    c.region-4.result c.region-5.result c.region-6.result c.region.ensures c.region-2.ensures
    c.region-3.ensures c.region-4.ensures c.region-5.ensures c.region-6.ensures in
    subst (λ (rs : List Region). IsTrue (are_sound rs)) is (mixed_sound c.in-Some.name)

pub taken-requires-clause-faultless : goal.taken-requires-clause-faultless
taken-requires-clause-faultless g c =
    let is = mixed_is c.in-Some.name c.region.result c.region-2.result c.region-3.result
    c.region-4.result c.region-5.result c.region-6.result c.region.ensures c.region-2.ensures
    c.region-3.ensures c.region-4.ensures c.region-5.ensures c.region-6.ensures in
    subst (λ (rs : List Region). first_fault area rs ≡ None) is (mixed_faultless c.in-Some.name)

pub taken-requires-clause-ranges : goal.taken-requires-clause-ranges
taken-requires-clause-ranges g c =
    let is = mixed_is c.in-Some.name c.region.result c.region-2.result c.region-3.result
    c.region-4.result c.region-5.result c.region-6.result c.region.ensures c.region-2.ensures
    c.region-3.ensures c.region-4.ensures c.region-5.ensures c.region-6.ensures in
    subst (λ (rs : List Region). reserved_ranges rs ≡ []) is (mixed_ranges c.in-Some.name)

pub taken-requires-clause-reserved : goal.taken-requires-clause-reserved
taken-requires-clause-reserved g c =
    let is = mixed_is c.in-Some.name c.region.result c.region-2.result c.region-3.result
    c.region-4.result c.region-5.result c.region-6.result c.region.ensures c.region-2.ensures
    c.region-3.ensures c.region-4.ensures c.region-5.ensures c.region-6.ensures in
    subst (λ (rs : List Region). reserved_frames rs ≡ []) is (mixed_frames c.in-Some.name)
