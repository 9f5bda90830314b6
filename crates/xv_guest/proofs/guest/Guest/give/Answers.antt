use Rattle.std.proofs.Common.{◌≡◌, ℕ, ◌+◌, ◌<◌, ◌≤◌, List, sym, ap, ◌∙◌, subst}
use Rattle.xv_guest.specs.Frames.{hits, IsInside}
use Rattle.xv_guest.specs.Guest.{Guest}
use Rattle.xv_guest.specs.Held.{Held, holds}
use Rattle.xv_guest.proofs.GiveLemmas.{held_is}
use Rattle.xv_guest.proofs.guest.Guest.give.Goals as goal

pub clear_all-requires : goal.clear_all-requires
clear_all-requires c =
    let held = held_is c.args.self.now c.root-root.result c.self.inside.map c.deref.result.now
    c.root-root.ensures (c.self.invariant.map ∙ ap (λ (g : Guest). g.plan.regions) c.self.view_is)
    (c.deref.ensures.value ∙ ap (λ (g : Guest). g.frames) c.self.view_is) in
    let P : Held → Type 0 = λ g. (frame : ℕ) → 0 < holds frame g → IsInside c.args.mem.now frame in
    subst P (sym held) c.requires.inside

pub give_numbers-requires-clause-pool : goal.give_numbers-requires-clause-pool
give_numbers-requires-clause-pool c =
    let frames : c.deref-2.result.now ≡ c.args.self.now.frames =
    c.deref-2.ensures.value ∙ ap (λ (g : Guest). g.frames) c.self.view_is in
    let P : List ℕ → Type 0 =
    λ xs. (frame : ℕ) → 0 < hits frame xs
    → (c.args.pool.now.first ≤ frame) × (frame < c.args.pool.now.first + c.args.pool.now.count) in
    subst P (sym frames) c.requires.frames

pub give_numbers-requires-clause-out : goal.give_numbers-requires-clause-out
give_numbers-requires-clause-out c =
    let frames : c.deref-2.result.now ≡ c.args.self.now.frames =
    c.deref-2.ensures.value ∙ ap (λ (g : Guest). g.frames) c.self.view_is in
    let P : List ℕ → Type 0 =
    λ xs. (frame : ℕ) → hits frame xs + hits frame c.args.pool.now.free ≤ 1 in
    subst P (sym frames) c.requires.out
