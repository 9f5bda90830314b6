use Rattle.std.proofs.Common.{◌≡◌, ℕ, ◌*◌, List, [], Ok, replicate, sym, ap, ◌∙◌, subst}
use Rattle.xv_pool.specs.Resources.{Resources, tested}
use Rattle.xv_region.specs.declared.plan.Region.{Region}
use Rattle.xv_region.specs.Need.{need}
use Rattle.xv_guest.specs.Guest.{Guest}
use Rattle.xv_guest.specs.Take.{MayTake}
use Rattle.xv_guest.proofs.TestPlan.{host, may_take}
use Rattle.xv_guest.proofs.tests.taken.Goals as goal

pub take-requires-clause-may : goal.take-requires-clause-may
take-requires-clause-may c =
    let regions : c.in_ok-guest.guest.plan.regions ≡ c.args.regions.now =
    ap (λ (g : Guest). g.plan.regions) c.in_ok-guest.ensures
    ∙ c.in_ok-from_slice.ensures.items in
    let pool : c.in_ok-pool.pool ≡ host = c.in_ok-pool.ensures.fresh in
    let mem : c.in-Ok.mem ≡ replicate (4096 * c.args.frames) 0 = c.in-Ok.ensures in
    let passes : Ok tt ≡ tested c.in_ok-pool.pool c.need.result [] = c.in-Ok-test.ensures.answer in
    let count : c.need.result ≡ need c.args.regions.now =
    c.need.ensures.count ∙ ap need (c.map.ensures ∙ regions) in
    let P : Resources → Type 0 = λ p. Ok tt ≡ tested p c.need.result [] in
    let Q : List ℕ → Type 0 = λ bytes. MayTake bytes host c.args.regions.now in
    let R : Resources → Type 0 = λ p. MayTake c.in-Ok.mem p c.args.regions.now in
    let S : List Region → Type 0 = λ rs. MayTake c.in-Ok.mem c.in_ok-pool.pool rs in
    subst S (sym regions)
    (subst R (sym pool)
    (subst Q (sym mem)
    (may_take c.args.regions.now c.requires.ranges c.requires.reserved c.args.frames
    c.need.result c.requires.frames (subst P pool passes) count)))
