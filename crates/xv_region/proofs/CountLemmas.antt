-- How many numbers below a bound pass a test.
use Rattle.std.proofs.Common.{◌≡◌, ℕ, zero, suc, ◌+◌, ◌-◌, ◌<◌, ◌≤◌, Bool, true, false, ◌&&◌, ◌||◌}
use Rattle.std.proofs.Common.{not, cond, refl, ap, ◌∙◌, inl, inr, arith}
use Rattle.std.proofs.lemmas.Bool.{cases_eq}
use Rattle.xv_region.specs.Need.{count_below}

-- 1 for true
abbrev pub one : Bool → ℕ
one b = cond b 1 0

next : (test : ℕ → Bool) (n : ℕ) → count_below test (suc n) ≡ count_below test n + one (test n)
unfolding count_below
next test n = by (test n)
  where
    by : (b : Bool) → cond b (count_below test n + 1) (count_below test n)
        ≡ count_below test n + one b
    by true = refl
    by false = omega arith

pub count-le : (test : ℕ → Bool) (n : ℕ) → count_below test n ≤ n
unfolding count_below
count-le test zero = omega arith
count-le test (suc n) =
    let before = count-le test n in
    let more = next test n in
    let small = at_most (test n) in
    omega arith
  where
    at_most : (b : Bool) → one b ≤ 1
    at_most true = omega arith
    at_most false = omega arith

pub count-none : (test : ℕ → Bool) (n : ℕ) → ((k : ℕ) → k < n → test k ≡ false)
    → count_below test n ≡ 0
unfolding count_below
count-none test zero none = refl
count-none test (suc n) none =
    next test n ∙ ap (λ b. count_below test n + one b) (none n (omega arith))
    ∙ last (count-none test n (λ k below. none k (omega arith)))
  where
    last : count_below test n ≡ 0 → count_below test n + 0 ≡ 0
    last is = omega arith

pub count-same : (f g : ℕ → Bool) (n : ℕ) → ((k : ℕ) → f k ≡ g k)
    → count_below f n ≡ count_below g n
unfolding count_below
count-same f g zero same = refl
count-same f g (suc n) same = rw (same n, count-same f g n same) refl

-- those that pass one of two tests
pub count-either : (a b : ℕ → Bool) (n : ℕ)
    → count_below (λ k. a k || b k) n ≡ count_below a n + count_below (λ k. b k && not (a k)) n
unfolding count_below
count-either a b zero = refl
count-either a b (suc n) =
    let before = count-either a b n in
    let all = next (λ k. a k || b k) n in
    let old = next a n in
    let new = next (λ k. b k && not (a k)) n in
    let split = parts (a n) (b n) in
    omega arith
  where
    parts : (x y : Bool) → one (x || y) ≡ one x + one (y && not x)
    parts true true = refl
    parts true false = refl
    parts false true = refl
    parts false false = refl

-- none passes from m on
pub count-past : (test : ℕ → Bool) (m n : ℕ) → m ≤ n → ((k : ℕ) → m ≤ k → test k ≡ false)
    → count_below test n ≡ count_below test m
unfolding count_below
count-past test m zero le none =
    let same : m ≡ 0 = omega (arith, le) in
    rw same refl
count-past test m (suc n) le none = elim (cases_eq m (suc n)) [
  | inl same ↦ rw same refl
  | inr apart ↦ (
      let below : m ≤ n = omega (arith, le, apart) in
      next test n ∙ ap (λ b. count_below test n + one b) (none n below)
      ∙ more (count-past test m n below none)
      )
]
  where
    more : count_below test n ≡ count_below test m → count_below test n + 0 ≡ count_below test m
    more is = omega arith

-- all pass between m and n
full : (test : ℕ → Bool) (m n : ℕ) → m ≤ n → ((k : ℕ) → m ≤ k → k < n → test k ≡ true)
    → count_below test n ≡ count_below test m + (n - m)
unfolding count_below
full test m zero le all =
    let same : m ≡ 0 = omega (arith, le) in
    rw same refl
full test m (suc n) le all = elim (cases_eq m (suc n)) [
  | inl same ↦ whole same
  | inr apart ↦ (
      let below : m ≤ n = omega (arith, le, apart) in
      next test n ∙ ap (λ b. count_below test n + one b) (all n below (omega arith))
      ∙ more below (full test m n below (λ k from to. all k from (omega arith)))
      )
]
  where
    whole : m ≡ suc n → count_below test (suc n) ≡ count_below test m + (suc n - m)
    whole same =
        let equal = ap (count_below test) same in
        omega arith

    more : m ≤ n → count_below test n ≡ count_below test m + (n - m)
        → count_below test n + 1 ≡ count_below test m + (suc n - m)
    more below is = omega arith

-- only numbers from first to last pass, and all those between them
pub count-one : (test : ℕ → Bool) (first n : ℕ) → first < n → ((k : ℕ) → k < first → test k ≡ false)
    → ((k : ℕ) → first < k → test k ≡ false)
    → count_below test n ≡ one (test first)
count-one test first n within before after =
    let rest = count-past test (suc first) n (omega arith) (λ k from. after k (omega arith)) in
    let here = next test first in
    let none = count-none test first before in
    omega arith

pub count-range : (test : ℕ → Bool) (first last n : ℕ) → first < last → last < n
    → ((k : ℕ) → k < first → test k ≡ false) → ((k : ℕ) → last < k → test k ≡ false)
    → ((k : ℕ) → first < k → k < last → test k ≡ true)
    → count_below test n ≡ one (test first) + (last - first - 1) + one (test last)
count-range test first last n order within before after between =
    let rest = count-past test (suc last) n (omega arith) (λ k from. after k (omega arith)) in
    let at_last = next test last in
    let inside =
    full test (suc first) last (omega arith) (λ k from to. between k (omega arith) to) in
    let at_first = next test first in
    let none = count-none test first before in
    omega arith
