-- The numbers below a bound that pass a test: how each search over them ends.
use Rattle.std.proofs.Common.{◌≡◌, ◌⊎◌, inl, inr, ℕ, zero, suc, ◌<◌, ◌≤◌, Bool, true, false, ◌||◌}
use Rattle.std.proofs.Common.{Some, None, max, refl, subst, arith, if◌then◌else◌}
use Rattle.std.proofs.Math.Nat.{eq-or-lt_of_le, lt-suc_self, max-le, le-max_left, le-max_right}
use Rattle.xv_bus.specs.Below.{some_below, least_below, greatest_below, or_else}

-- a number below the next is that one or below it
at_or_below : (k n : ℕ) → k < suc n → (k ≡ n) ⊎ (k < n)
at_or_below k n below = let within : k ≤ n = omega arith in eq-or-lt_of_le within

pub some_below-none : (test : ℕ → Bool) (n : ℕ) → ((k : ℕ) → k < n → test k ≡ false)
    → some_below test n ≡ false
unfolding some_below
some_below-none test zero none = refl
some_below-none test (suc n) none =
    rw (some_below-none test n (λ k below. none k (omega arith)), none n (lt-suc_self n)) refl

or-true : (b : Bool) → (b || true) ≡ true
or-true true = refl
or-true false = refl

pub some_below-finds : (test : ℕ → Bool) (n k : ℕ) → k < n → test k ≡ true
    → some_below test n ≡ true
unfolding some_below
some_below-finds test zero k below passes = absurd (omega arith)
some_below-finds test (suc n) k below passes =
    elim (at_or_below k n below) [
      | inl here ↦ last here
      | inr before ↦
          rw (some_below-finds test n k before passes) refl
    ]
  where
    last : k ≡ n → (some_below test n || test n) ≡ true
    last here = let P : ℕ → Type 0 = λ j. (some_below test n || test j) ≡ true in
        subst P here (rw passes (or-true (some_below test n)))

pub least_below-none : (test : ℕ → Bool) (n : ℕ) → ((k : ℕ) → k < n → test k ≡ false)
    → least_below test n ≡ None
unfolding least_below
least_below-none test zero none = refl
least_below-none test (suc n) none =
    rw (least_below-none test n (λ k below. none k (omega arith)), none n (lt-suc_self n)) refl

pub least_below-finds : (test : ℕ → Bool) (n k : ℕ) → k < n → test k ≡ true
    → ((j : ℕ) → j < k → test j ≡ false) → least_below test n ≡ Some k
unfolding least_below
least_below-finds test zero k below passes first = absurd (omega arith)
least_below-finds test (suc n) k below passes first =
    elim (at_or_below k n below) [
      | inl here ↦ last here
      | inr before ↦
          rw (least_below-finds test n k before passes first) refl
    ]
  where
    last : k ≡ n → or_else (least_below test n) (if test n then Some n else None) ≡ Some k
    last here =
        let P : ℕ → Type 0 =
        λ j. or_else (least_below test j) (if test j then Some j else None) ≡ Some k in
        subst P here (rw (least_below-none test k first, passes) refl)

pub greatest_below-le : (test : ℕ → Bool) (value : ℕ → ℕ) (n bound : ℕ)
    → ((k : ℕ) → k < n → test k ≡ true → value k ≤ bound) → greatest_below test value n ≤ bound
unfolding greatest_below
greatest_below-le test value zero bound within = omega arith
greatest_below-le test value (suc n) bound within =
    max-le (greatest_below-le test value n bound (λ k below passes. within k (omega arith) passes))
    (last (test n) (λ passes. within n (lt-suc_self n) passes))
  where
    last : (b : Bool) → (b ≡ true → value n ≤ bound) → (if b then value n else 0) ≤ bound
    last true small = small refl
    last false small = omega arith

pub greatest_below-ge : (test : ℕ → Bool) (value : ℕ → ℕ) (n k : ℕ) → k < n → test k ≡ true
    → value k ≤ greatest_below test value n
unfolding greatest_below
greatest_below-ge test value zero k below passes = absurd (omega arith)
greatest_below-ge test value (suc n) k below passes =
    elim (at_or_below k n below) [
      | inl here ↦ last here
      | inr before ↦
          earlier (greatest_below-ge test value n k before passes)
    ]
  where
    last : k ≡ n → value k ≤ max (greatest_below test value n) (if test n then value n else 0)
    last here =
        let P : ℕ → Type 0 =
        λ j. value k ≤ max (greatest_below test value n) (if test j then value j else 0) in
        subst P here (rw passes (le-max_right (greatest_below test value n) (value k)))

    earlier : value k ≤ greatest_below test value n
        → value k ≤ max (greatest_below test value n) (if test n then value n else 0)
    earlier small =
        omega (
          arith,
          small,
          le-max_left (greatest_below test value n) (if test n then value n else 0),
        )
