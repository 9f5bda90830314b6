use Rattle.std.proofs.Common.{◌≡◌, ℕ, ◌+◌, ◌-◌, ◌<◌, List, true, length, sum_by, sym, subst, ap}
use Rattle.std.proofs.Common.{◌∙◌, arith}
use Rattle.std.specs.List.{Contains}
use Rattle.std.proofs.lemmas.List.{length-set}
use Rattle.xv_pool.specs.Marks.{marked_from}
use Rattle.xv_pool.proofs.MarkLemmas.{are_free, length-given, length-marked_from, mark-out}
use Rattle.xv_pool.proofs.MarkLemmas.{none-given, sum_by-given}
use Rattle.xv_pool.proofs.frames.Frames.give.Goals as goal

pub overflow_add-self : goal.overflow_add-self
overflow_add-self c =
    let few = length-marked_from c.self.inside.first c.self.inside.marks.items in
    let counted = c.self.invariant.counted in
    let small = c.self.invariant.small in
    omega arith

pub invariant_of-self : goal.invariant_of-self
invariant_of-self c =
    let first = c.self.inside.first in
    let marks = c.self.inside.marks.items in
    let place = c.args.frame - first in
    let first_is : first ≡ c.args.self.now.first = ap (λ frames. frames.first) c.self.view_is in
    let count_is : length marks ≡ c.args.self.now.count =
    ap (λ frames. frames.count) c.self.view_is in
    let free_is : marked_from first marks ≡ c.args.self.now.free =
    ap (λ frames. frames.free) c.self.view_is in
    let within : place < length marks = omega (arith, c.requires.least, c.requires.greatest) in
    let P : List ℕ → Type 0 = λ free. ¬ Contains free c.args.frame in
    let unmarked =
    mark-out first marks c.args.frame (omega (arith, c.requires.least))
    (subst P (sym free_is) c.requires.out) in
    record {
      small = omega (arith, length-set marks place true, c.self.invariant.small);
      counted = omega
          (arith, c.self.invariant.counted, length-given first marks place within unmarked);
      next = λ k below. none-given marks c.self.inside.next place c.self.invariant.next k
          (rw c.min-self-inside.ensures at below);
    }

pub returns-clause-sums : goal.returns-clause-sums
returns-clause-sums c = λ weight.
    let first = c.self.inside.first in
    let marks = c.self.inside.marks.items in
    let place = c.args.frame - first in
    let first_is : first ≡ c.args.self.now.first = ap (λ frames. frames.first) c.self.view_is in
    let count_is : length marks ≡ c.args.self.now.count =
    ap (λ frames. frames.count) c.self.view_is in
    let free_is : marked_from first marks ≡ c.args.self.now.free =
    ap (λ frames. frames.free) c.self.view_is in
    let within : place < length marks = omega (arith, c.requires.least, c.requires.greatest) in
    let P : List ℕ → Type 0 = λ free. ¬ Contains free c.args.frame in
    let unmarked =
    mark-out first marks c.args.frame (omega (arith, c.requires.least))
    (subst P (sym free_is) c.requires.out) in
    let same : first + place ≡ c.args.frame = omega (arith, c.requires.least) in
    rw (← free_is) (sum_by-given weight first marks place within unmarked
    ∙ ap (λ frame. weight frame + sum_by weight (marked_from first marks)) same)

pub returns-clause-facts : goal.returns-clause-facts
returns-clause-facts c = are_free c.self.inside.first _
