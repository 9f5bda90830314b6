use Rattle.std.proofs.Common.{◌≡◌, ℕ, ◌<◌, ◌/◌, arith, sym, subst}
use Rattle.xv_pool.specs.FrameList.{up_from}
use Rattle.xv_region.specs.declared.plan.Kind.{Kind}
use Rattle.xv_gstage.specs.Own.{kind_reserved}
use Rattle.xv_guest.specs.Frames.{AreCleared, IsInside, hits}
use Rattle.xv_guest.proofs.ClearLemmas.{cleared_none, last_inside}
use Rattle.xv_guest.proofs.clear.clear_region.Goals as goal

pub clear_from-requires-clause-inside : goal.clear_from-requires-clause-inside
clear_from-requires-clause-inside c =
    let P : Kind → Type 0 =
    λ kind. (frame : ℕ) → 0 < hits frame (kind_reserved kind (c.args.region.now.size / 4096))
    → IsInside c.args.mem.now frame in
    last_inside c.args.mem.now (c.in-Reserved.host / 4096) (c.args.region.now.size / 4096)
    (omega arith) (subst P c.in-Reserved.is c.requires)

pub returns-else-region-ge-FRAME_SIZE : goal.returns-else-region-ge-FRAME_SIZE
unfolding up_from
returns-else-region-ge-FRAME_SIZE c =
    let bytes = c.args.mem.now in
    let P : Kind → Type 0 =
    λ kind. AreCleared bytes bytes (kind_reserved kind (c.args.region.now.size / 4096)) in
    let none : c.args.region.now.size / 4096 ≡ 0 = omega arith in
    let Q : ℕ → Type 0 =
    λ n. AreCleared bytes bytes (up_from (c.in-Reserved.host / 4096) n) in
    subst P (sym c.in-Reserved.is) (subst Q (sym none) (cleared_none bytes))
