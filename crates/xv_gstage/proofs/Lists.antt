-- Parts of a list of different numbers, by places.
use Rattle.std.proofs.Common.{◌≡◌, ◌≢◌, ℕ, ◌+◌, ◌-◌, ◌<◌, ◌≤◌, List, length}
use Rattle.std.proofs.Common.{get_or, take, drop, Some, refl, sym, ap, ◌∙◌, arith}
use Rattle.std.proofs.Common.{inl, inr, ◌⊎◌, length-take, length-drop}
use Rattle.std.specs.Prelude.{slice_get}
use Rattle.std.specs.List.{AllPairs, Contains}
use Rattle.std.proofs.lemmas.Bool.{cases_lt, cases_eq}
use Rattle.std.proofs.lemmas.List.{get_or-take, get_or-drop}
use Rattle.std.proofs.lemmas.Grind.{get_or_default_zero}
use Rattle.std.proofs.lemmas.Option.{get_or_from_slice_get, slice_get_within}

-- the element at a place
pub record IsAt (xs : List ℕ) (x place : ℕ) : Type 0 where
  pub within : place < length xs
  pub is : get_or xs place 0 ≡ x

pub at-place : (xs : List ℕ) (x : ℕ) → Contains xs x → (place : ℕ) × IsAt xs x place
at-place xs x (k, lt, e) =
    (k, record { within = lt; is = sym (get_or_default_zero xs k x lt) ∙ e })

pub from-place : (xs : List ℕ) (x place : ℕ) → IsAt xs x place → Contains xs x
from-place xs x place at = (place, at.within, get_or_default_zero xs place x at.within ∙ at.is)

pub from-get : (xs : List ℕ) (i x : ℕ) → slice_get xs i ≡ Some x → Contains xs x
from-get xs i x e = (i, slice_get_within xs i x e, get_or_from_slice_get xs i x x e)

pub from-or : (xs : List ℕ) (i : ℕ) → i < length xs → Contains xs (get_or xs i 0)
from-or xs i lt = from-place xs (get_or xs i 0) i (record { within = lt; is = refl })

module _ (n : ℕ) (xs : List ℕ) where
  pub in-take : (x : ℕ) → Contains (take n xs) x → (place : ℕ) × (place < n) × IsAt xs x place
  in-take x has =
      let at = at-place (take n xs) x has in
      let long = length-take n xs in
      let within = at.1.within in
      let low : at.0 < n = omega arith in (
        at.0,
        low,
        record { within = omega arith; is = sym (get_or-take n xs at.0 0 low) ∙ at.1.is },
      )

  pub to-take : (x place : ℕ) → place < n → IsAt xs x place → Contains (take n xs) x
  to-take x place low at =
      let long = length-take n xs in
      let within = at.within in
      from-place (take n xs) x place
      (record { within = omega arith; is = get_or-take n xs place 0 low ∙ at.is })

  pub in-drop : (x : ℕ) → Contains (drop n xs) x → (place : ℕ) × (n ≤ place) × IsAt xs x place
  in-drop x has =
      let at = at-place (drop n xs) x has in
      let long = length-drop n xs in
      let within = at.1.within in (
        n + at.0,
        omega arith,
        record { within = omega arith; is = sym (get_or-drop n xs at.0 0) ∙ at.1.is },
      )

  pub to-drop : (x place : ℕ) → n ≤ place → IsAt xs x place → Contains (drop n xs) x
  to-drop x place low at =
      let long = length-drop n xs in
      let within = at.within in
      let back : n + (place - n) ≡ place = omega arith in
      from-place (drop n xs) x (place - n) (record {
        within = omega arith;
        is = get_or-drop n xs (place - n) 0 ∙ ap (λ k. get_or xs k 0) back ∙ at.is;
      })

  pub take-contains : (x : ℕ) → Contains (take n xs) x → Contains xs x
  take-contains x has = let at = in-take x has in from-place xs x at.0 at.2

  pub drop-contains : (x : ℕ) → Contains (drop n xs) x → Contains xs x
  drop-contains x has = let at = in-drop x has in from-place xs x at.0 at.2

module _ (xs : List ℕ) (once : AllPairs (λ a b. a ≢ b) xs) where
  pub one-place : (x i j : ℕ) → IsAt xs x i → IsAt xs x j → i ≡ j
  one-place x i j at other = elim (cases_lt i j) [
    | inl lt ↦ absurd (once i j 0 lt other.within (at.is ∙ sym other.is))
    | inr le ↦ elim (cases_lt j i) [
      | inl lt ↦ absurd (once j i 0 lt at.within (other.is ∙ sym at.is))
      | inr ge ↦ omega arith
    ]
  ]

  -- nothing stands both before and behind a place
  pub split : (n x : ℕ) → Contains (take n xs) x → Contains (drop n xs) x → ⊥
  split n x front back =
      let a = in-take n xs x front in
      let b = in-drop n xs x back in
      let same = one-place x a.0 b.0 a.2 b.2 in
      let low = a.1 in
      let high = b.1 in
      omega arith

  pub pairs-drop : (n : ℕ) → AllPairs (λ a b. a ≢ b) (drop n xs)
  pairs-drop n i j d lt within e =
      let long = length-drop n xs in
      once (n + i) (n + j) d (omega arith) (omega arith)
      (sym (get_or-drop n xs i d) ∙ e ∙ get_or-drop n xs j d)

-- the next of a list
module _ (xs : List ℕ) (used : ℕ) (room : used < length xs) where
  pub next-in : Contains (take (used + 1) xs) (get_or xs used 0)
  next-in = to-take (used + 1) xs (get_or xs used 0) used (omega arith)
      (record { within = room; is = refl })

  pub next-spare : Contains (drop used xs) (get_or xs used 0)
  next-spare = to-drop used xs (get_or xs used 0) used (omega arith)
      (record { within = room; is = refl })

  pub take-next : (x : ℕ) → Contains (take (used + 1) xs) x → Contains (take used xs) x
      ⊎ (x ≡ get_or xs used 0)
  take-next x has =
      let at = in-take (used + 1) xs x has in
      let low = at.1 in
      elim (cases_eq at.0 used) [
        | inl e ↦ inr (sym at.2.is ∙ ap (λ k. get_or xs k 0) e)
        | inr ne ↦ inl (to-take used xs x at.0 (omega arith) at.2)
      ]

  pub take-less : (x : ℕ) → Contains (take used xs) x → Contains (take (used + 1) xs) x
  take-less x has =
      let at = in-take used xs x has in
      let low = at.1 in
      to-take (used + 1) xs x at.0 (omega arith) at.2

  pub drop-less : (x : ℕ) → Contains (drop (used + 1) xs) x → Contains (drop used xs) x
  drop-less x has =
      let at = in-drop (used + 1) xs x has in
      let high = at.1 in
      to-drop used xs x at.0 (omega arith) at.2
