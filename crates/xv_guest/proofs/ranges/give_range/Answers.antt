use Rattle.std.proofs.Common.{◌≡◌, ℕ, ◌≤◌, ◌∷◌, [], List, sum_by, sym, subst}
use Rattle.xv_base.specs.declared.keys.Span.{Span}
use Rattle.xv_pool.proofs.SumLemmas.{Contains-sum_by}
use Rattle.xv_guest.specs.Frames.{ranges_of}
use Rattle.xv_guest.proofs.RangeLemmas.{weighs}
use Rattle.xv_guest.proofs.ranges.give_range.Goals as goal

pub give_reserved-requires : goal.give_reserved-requires
give_reserved-requires c =
    let is : ranges_of c.args.region.now ≡ c.in-Some.range ∷ [] = sym c.in-Some.ensures in
    let P : List Span → Type 0 =
    λ ranges. (weight : Span → ℕ) → sum_by weight ranges ≤ sum_by weight c.args.pool.now.held in
    record {
      held = Contains-sum_by c.in-Some.range c.args.pool.now.held
          (weighs c.in-Some.range c.args.pool.now.held (subst P is c.requires.held));
    }
