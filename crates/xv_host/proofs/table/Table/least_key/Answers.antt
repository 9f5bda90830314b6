use Rattle.std.proofs.Common.{◌≡◌, ℕ, true, None, get_or, is_some, subst}
use Rattle.std.proofs.Common.{arith, inl, inr}
use Rattle.std.proofs.lemmas.Bool.{cases_lt}
use Rattle.xv_host.proofs.TableLemmas.{named_some, unnamed_none}
use Rattle.xv_host.proofs.table.Table.least_key.Goals as goal

pub loop-place-init : goal.loop-place-init
loop-place-init g c = λ k less. absurd (omega arith)

pub returns-then-is_none-clause-least : goal.returns-then-is_none-clause-least
returns-then-is_none-clause-least g c = record {
  inside = c.loop-place-test.true;
  free = unnamed_none c.self.inside.values c.self.inside.places c.loop-place.place c.self.invariant
      c.loop-place-test.true c.self.view_is c.if-is_none.ensures;
  least = c.loop-place.invariant;
}

pub loop-place-preserved : goal.loop-place-preserved
loop-place-preserved g c = λ k less. elim (cases_lt k c.loop-place.place) [
  | inl before ↦ c.loop-place.invariant k before
  | inr from ↦
      (let here : c.loop-place.place ≡ k = omega arith in
      subst (λ (n : ℕ). is_some (get_or c.args.self.now n None) ≡ true) here
      (named_some c.self.inside.values c.self.inside.places c.loop-place.place c.self.invariant
      c.loop-place-test.true c.self.view_is c.if-is_none.ensures))
]

pub returns-clause-full : goal.returns-clause-full
returns-clause-full g c = λ is k less.
    c.loop-place.invariant k (omega (arith, c.loop-place-test.false, less))
