-- The source that a search over all of them ends with is the one that is claimed.
use Rattle.std.proofs.Common.{◌≡◌, ◌⊎◌, inl, inr, ℕ, ◌+◌, ◌<◌, ◌≤◌, ◌==◌, Bool, true, false, ◌&&◌}
use Rattle.std.proofs.Common.{Some, None, nat_lt, refl, ap, subst, ◌∙◌, arith}
use Rattle.std.proofs.Math.Nat.{eq-or-lt_of_le}
use Rattle.std.proofs.lemmas.Bool.{false_from_ne_true}
use Rattle.std.proofs.lemmas.Bool.Decides.{nat_tests}
use Rattle.xv_bus.specs.Plic.{PlicUnit, IsPlic, priority_of, is_waiting, is_candidate, top_priority}
use Rattle.xv_bus.specs.Plic.{claim}
use Rattle.xv_plic.proofs.BelowLemmas.{least_below-none, least_below-finds, greatest_below-le}
use Rattle.xv_plic.proofs.BelowLemmas.{greatest_below-ge}

-- of the sources below `end` the best is a candidate, or is 0, which is none; no candidate has a
-- greater priority, and none of the same comes before it
pub record IsBest (plic : PlicUnit) (context end best : ℕ) : Type 0 where
  pub source : best < 64
  pub before : best < end
  pub found : 0 < best → is_candidate plic context best ≡ true
  pub most : (id : ℕ) → id < end → is_candidate plic context id ≡ true
      → priority_of plic id ≤ priority_of plic best
  pub first : (id : ℕ) → id < end → is_candidate plic context id ≡ true
      → priority_of plic id ≡ priority_of plic best → best ≤ id

-- a source is to be claimed rather than the best before it
abbrev pub beats : PlicUnit → ℕ → ℕ → ℕ → Bool
beats plic context id best =
    is_waiting plic context id && nat_lt (priority_of plic best) (priority_of plic id)

-- before the search the best is none
pub none-best : (plic : PlicUnit) (context : ℕ) → IsBest plic context 1 0
none-best plic context =
    record {
      source = omega arith;
      before = omega arith;
      found = λ some. absurd (omega arith);
      most = λ id below passes. let same : id ≡ 0 = omega arith in rw same (omega arith);
      first = λ id below passes same. omega arith;
    }

both : (a b : Bool) → (a && b) ≡ true → (a ≡ true) × (b ≡ true)
both true true holds = (refl, refl)
both true false holds = cc
both false b holds = cc

-- the next source, where it is to be claimed rather than the best
pub best-next : (plic : PlicUnit) (context id best : ℕ) → id < 64 → IsBest plic context id best
    → beats plic context id best ≡ true → IsBest plic context (id + 1) id
best-next plic context id best small held wins =
    record {
      source = small;
      before = omega arith;
      found = λ some. rw parts.0 (grind (arith, nat_tests));
      most = λ j below passes. elim (here-or-before j id below) [
        | inl here ↦
            rw here (omega arith)
        | inr earlier ↦ omega (arith, above, held.most j earlier passes)
      ];
      first = λ j below passes same. elim (here-or-before j id below) [
        | inl here ↦
            omega (arith, here)
        | inr earlier ↦
            absurd (omega (arith, above, same, held.most j earlier passes))
      ];
    }
  where
    parts : (is_waiting plic context id ≡ true)
        × (nat_lt (priority_of plic best) (priority_of plic id) ≡ true)
    parts = both (is_waiting plic context id)
        (nat_lt (priority_of plic best) (priority_of plic id)) wins

    above : priority_of plic best < priority_of plic id
    above = let t = parts.1 in grind (arith, nat_tests)

    here-or-before : (j n : ℕ) → j < n + 1 → (j ≡ n) ⊎ (j < n)
    here-or-before j n below = let within : j ≤ n = omega arith in eq-or-lt_of_le within

-- the next source, where it isn't
pub best-stays : (plic : PlicUnit) (context id best : ℕ) → IsBest plic context id best
    → beats plic context id best ≡ false → IsBest plic context (id + 1) best
best-stays plic context id best held loses =
    record {
      source = held.source;
      before = let b = held.before in omega arith;
      found = held.found;
      most = λ j below passes. elim (here-or-before j id below) [
        | inl here ↦
            rw here (not-above (subst-candidate j here passes))
        | inr earlier ↦
            held.most j earlier passes
      ];
      first = λ j below passes same. elim (here-or-before j id below) [
        | inl here ↦
            (let b = held.before in omega (arith, here))
        | inr earlier ↦
            held.first j earlier passes same
      ];
    }
  where
    here-or-before : (j n : ℕ) → j < n + 1 → (j ≡ n) ⊎ (j < n)
    here-or-before j n below = let within : j ≤ n = omega arith in eq-or-lt_of_le within

    subst-candidate : (j : ℕ) → j ≡ id → is_candidate plic context j ≡ true
        → is_candidate plic context id ≡ true
    subst-candidate j here passes = let P : ℕ → Type 0 = λ k. is_candidate plic context k ≡ true in
        subst P here passes

    not-above : is_candidate plic context id ≡ true → priority_of plic id ≤ priority_of plic best
    not-above passes =
        let waits = (both (is_waiting plic context id) (nat_lt 0 (priority_of plic id)) passes).0 in
        let beaten : nat_lt (priority_of plic best) (priority_of plic id) ≡ false =
        rw waits at loses in
        grind (arith, nat_tests)

-- the end of the search, where there is none
pub claim-none : (plic : PlicUnit) (context end best : ℕ) → IsPlic plic
    → IsBest plic context end best → 64 ≤ end → best ≡ 0 → claim plic context ≡ None
unfolding claim
claim-none plic context end best held found all none =
    least_below-none (λ id. is_candidate plic context id
    && priority_of plic id == top_priority plic context) 64
    (λ id below. rw (no_candidate id below) refl)
  where
    no_candidate : (id : ℕ) → id < 64 → is_candidate plic context id ≡ false
    no_candidate id below = false_from_ne_true (is_candidate plic context id) (λ passes.
        let most : priority_of plic id ≤ priority_of plic best =
        found.most id (omega arith) passes in
        let some = (both (is_waiting plic context id) (nat_lt 0 (priority_of plic id)) passes).1 in
        let nothing : priority_of plic best ≡ 0 =
        ap (λ k. priority_of plic k) none ∙ held.no_source in
        let positive : 0 < priority_of plic id = grind (arith, nat_tests) in
        omega (arith, most, nothing, positive))

-- and where there is one
pub claim-finds : (plic : PlicUnit) (context end id : ℕ) → IsBest plic context end id → 64 ≤ end
    → 0 < id → claim plic context ≡ Some id
unfolding claim
claim-finds plic context end id best all some =
    least_below-finds (λ j. is_candidate plic context j
    && priority_of plic j == top_priority plic context) 64 id best.source
    (rw (best.found some, top) (same-number (priority_of plic id))) earlier
  where
    same-number : (n : ℕ) → (n == n) ≡ true
    same-number n = grind (arith, nat_tests)

    top : top_priority plic context ≡ priority_of plic id
    top =
        let within =
        greatest_below-le (is_candidate plic context) (priority_of plic) 64 (priority_of plic id)
        (λ j below passes. best.most j (omega arith) passes) in
        let there = greatest_below-ge (is_candidate plic context) (priority_of plic) 64 id
        best.source (best.found some) in
        omega (arith, within, there)

    equal : (m n : ℕ) → (m == n) ≡ true → m ≡ n
    equal m n same = grind (arith, nat_tests)

    earlier : (j : ℕ) → j < id
        → (is_candidate plic context j && priority_of plic j == top_priority plic context) ≡ false
    earlier j before =
        false_from_ne_true (is_candidate plic context j
        && priority_of plic j == top_priority plic context) (λ passes.
        let parts = both (is_candidate plic context j)
        (priority_of plic j == top_priority plic context) passes in
        let same : priority_of plic j ≡ top_priority plic context =
        equal (priority_of plic j) (top_priority plic context) parts.1 in
        let source = best.source in
        let within : j < end = omega arith in
        let late : id ≤ j = best.first j within parts.0 (same ∙ top) in
        omega arith)
