use Rattle.std.proofs.Common.{◌≡◌, ℕ, ◌*◌, List, [], None, Ok, IsTrue, replicate, sym, ap, ◌∙◌}
use Rattle.std.proofs.Common.{subst}
use Rattle.xv_pool.specs.Resources.{Resources, tested}
use Rattle.xv_region.specs.Need.{need}
use Rattle.xv_region.specs.Plan.{Plan, flat}
use Rattle.xv_region.specs.Rules.{are_sound, first_fault}
use Rattle.xv_guest.specs.Guest.{Guest, held_of, new_guest}
use Rattle.xv_guest.specs.Held.{IsHeld}
use Rattle.xv_guest.specs.Take.{MayTake, MayGive, pool_after, taken_guest}
use Rattle.xv_guest.proofs.TestPlan.{area, host, bare, sound, faultless, no_ranges, no_frames}
use Rattle.xv_guest.proofs.TestPlan.{may_take, may_give}
use Rattle.xv_guest.proofs.tests.taken_and_given_back.Goals as goal

pub make-requires-clause-sound : goal.make-requires-clause-sound
make-requires-clause-sound c =
    let P : Plan → Type 0 = λ plan. IsTrue (are_sound plan.regions) in
    subst P (sym c.in_ok-plan.ensures) sound

pub make-requires-clause-faultless : goal.make-requires-clause-faultless
make-requires-clause-faultless c =
    let P : Plan → Type 0 = λ plan. first_fault area plan.regions ≡ None in
    subst P (sym c.in_ok-plan.ensures) faultless

pub take-requires-clause-may : goal.take-requires-clause-may
take-requires-clause-may c =
    let plan : c.in_ok-plan.plan ≡ flat 2 = c.in_ok-plan.ensures in
    let guest : c.in_ok-guest.guest ≡ bare =
    c.in_ok-guest.ensures ∙ ap (λ (p : Plan). new_guest p 0) plan in
    let pool : c.in_ok-pool.pool ≡ host = c.in_ok-pool.ensures.fresh in
    let mem : c.in-Ok.mem ≡ replicate (4096 * c.args.frames) 0 = c.in-Ok.ensures in
    let passes : Ok tt ≡ tested c.in_ok-pool.pool c.need.result [] = c.in-Ok-test.ensures.answer in
    let count : c.need.result ≡ need (flat 2).regions =
    c.need.ensures.count ∙ ap need (c.map.ensures ∙ ap (λ (g : Guest). g.plan.regions) guest) in
    let P : Resources → Type 0 = λ p. Ok tt ≡ tested p c.need.result [] in
    let Q : List ℕ → Type 0 = λ bytes. MayTake bytes host (flat 2).regions in
    let R : Resources → Type 0 = λ p. MayTake c.in-Ok.mem p (flat 2).regions in
    let S : Guest → Type 0 = λ g. MayTake c.in-Ok.mem c.in_ok-pool.pool g.plan.regions in
    subst S (sym guest)
    (subst R (sym pool)
    (subst Q (sym mem)
    (may_take (flat 2).regions no_ranges no_frames c.args.frames c.need.result c.requires
    (subst P pool passes) count)))

pub give-requires : goal.give-requires
give-requires c =
    let plan : c.in_ok-plan.plan ≡ flat 2 = c.in_ok-plan.ensures in
    let guest : c.in_ok-guest.guest ≡ bare =
    c.in_ok-guest.ensures ∙ ap (λ (p : Plan). new_guest p 0) plan in
    let pool : c.in_ok-pool.pool ≡ host = c.in_ok-pool.ensures.fresh in
    let taken : c.take.new.self ≡ taken_guest host bare =
    c.take.ensures.guest
    ∙ ap (λ (p : Resources). taken_guest p c.in_ok-guest.guest) pool
    ∙ ap (taken_guest host) guest in
    let left : c.take.new.pool ≡ pool_after (flat 2).regions host =
    c.take.ensures.pool
    ∙ ap (λ (g : Guest). pool_after g.plan.regions c.in_ok-pool.pool) guest
    ∙ ap (pool_after (flat 2).regions) pool in
    let P : Guest → Type 0 = λ g. IsHeld c.take.new.mem (held_of g) in
    let Q : Resources → Type 0 = λ p. MayGive c.take.new.mem p (taken_guest host bare) in
    let R : Guest → Type 0 = λ g. MayGive c.take.new.mem c.take.new.pool g in
    subst R (sym taken)
    (subst Q (sym left) (may_give c.take.new.mem (subst P taken c.take.ensures.held)))
