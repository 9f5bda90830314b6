-- The plan of the tests keeps the rules.
use Rattle.std.proofs.Common.{◌≡◌, None, IsTrue, refl}
use Rattle.xv_base.specs.declared.keys.Span.{Span}
use Rattle.xv_region.specs.Plan.{flat}
use Rattle.xv_region.specs.Rules.{are_sound, first_fault, fault_from}

pub sound : IsTrue (are_sound (flat 1).regions)
unfolding are_sound
sound = refl

pub faultless : (area : Span) → first_fault area (flat 1).regions ≡ None
unfolding first_fault fault_from
faultless area = refl
