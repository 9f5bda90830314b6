use Rattle.std.proofs.Common.{◌≡◌, List, IsTrue, sym, ap, ◌∙◌, subst}
use Rattle.xv_region.specs.declared.plan.Region.{Region}
use Rattle.xv_region.specs.Plan.{Plan}
use Rattle.xv_region.specs.Rules.{are_sound, is_sound_kind}
use Rattle.xv_guest.proofs.DeviceLemmas.{kind_at}
use Rattle.xv_guest.proofs.device_list.make_all.Goals as goal

pub make-requires-clause-sound : goal.make-requires-clause-sound
make-requires-clause-sound c =
    let regions : c.deref-regions.result.now ≡ c.args.plan.now.regions =
    c.deref-regions.ensures.value ∙ ap (λ (plan : Plan). plan.regions) c.plan.view_is in
    let P : List Region → Type 0 = λ rs. IsTrue (are_sound rs) in
    let Q : Region → Type 0 = λ r. IsTrue (is_sound_kind r.kind) in
    subst Q (sym c.region-item.is)
    (kind_at c.deref-regions.result.now c.loop-region.region-index c.region-item.result
    (subst P (sym regions) c.requires.sound) c.loop-region-test.true)
