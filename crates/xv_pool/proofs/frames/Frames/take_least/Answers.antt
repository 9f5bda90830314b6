use Rattle.std.proofs.Common.{◌≡◌, ℕ, ◌<◌, false, inl, inr, length, get_or, sym, ap, subst, ◌∙◌}
use Rattle.std.proofs.Common.{arith}
use Rattle.std.proofs.lemmas.Bool.{cases_lt}
use Rattle.std.proofs.lemmas.List.{length-set}
use Rattle.xv_pool.specs.FrameList.{FrameList}
use Rattle.xv_pool.specs.Marks.{marked_from}
use Rattle.xv_pool.proofs.MarkLemmas.{are_free, marked_from-none, marked_from-taken, none-taken}
use Rattle.xv_pool.proofs.frames.Frames.take_least.Goals as goal

pub unreachable-requires : goal.unreachable-requires
unreachable-requires c =
    let marks = c.self.inside.marks.items in
    let later = rw c.deref.ensures.value at c.in_default.ensures.none in
    let none : (k : ℕ) → get_or marks k false ≡ false =
    λ k. elim (cases_lt k c.self.inside.next) [
      | inl early ↦
          c.self.invariant.next k early
      | inr late ↦ later k late
    ] in
    let empty = ap length (marked_from-none c.self.inside.first marks none) in
    let P : FrameList → Type 0 = λ frames. 0 < length frames.free in
    let some : 0 < length (marked_from c.self.inside.first marks) =
    subst P (sym c.self.view_is) c.requires in
    omega arith

pub invariant_of-self : goal.invariant_of-self
invariant_of-self c =
    let first = c.self.inside.first in
    let marks = c.self.inside.marks.items in
    let next = c.self.inside.next in
    let place = c.in-Some.place in
    let found = rw c.deref.ensures.value at c.in-Some.ensures.found in
    let before = rw c.deref.ensures.value at c.in-Some.ensures.first in
    let taken = marked_from-taken first marks next place found.0 c.self.invariant.next
    before.1 found.1 in
    record {
      small = omega (arith, length-set marks place false, c.self.invariant.small);
      counted = omega (arith, c.self.invariant.counted, ap length taken);
      next = none-taken first marks next place found.0 c.self.invariant.next before.1;
    }

pub returns-clause-frame : goal.returns-clause-frame
returns-clause-frame c =
    let found = rw c.deref.ensures.value at c.in-Some.ensures.found in
    let before = rw c.deref.ensures.value at c.in-Some.ensures.first in
    ap (λ frames. frames.free) (sym c.self.view_is)
    ∙ marked_from-taken c.self.inside.first c.self.inside.marks.items c.self.inside.next
    c.in-Some.place found.0 c.self.invariant.next before.1 found.1

pub returns-clause-facts : goal.returns-clause-facts
returns-clause-facts c = are_free c.self.inside.first _
