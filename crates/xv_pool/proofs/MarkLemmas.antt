-- Frames by their marks.
use Rattle.std.proofs.Common.{◌≡◌, ℕ, zero, suc, ◌+◌, ◌-◌, ◌<◌, ◌≤◌, inl, inr, min, Bool, true}
use Rattle.std.proofs.Common.{false, List, [], ◌∷◌, length, get_or, replicate, sum_by, refl, ap}
use Rattle.std.proofs.Common.{subst, ◌∙◌, sym, arith}
use Rattle.std.proofs.Math.ListN.{set}
use Rattle.std.specs.List.{All, Contains}
use Rattle.std.specs.List.Sorted.{IsStrictlyIncreasing}
use Rattle.std.proofs.lemmas.Bool.{cases_lt, cases_eq}
use Rattle.std.proofs.lemmas.List.{get_or-set_same, get_or-set_other}
use Rattle.std.proofs.lemmas.List.Elements.{All-nil, All-cons, All-weaker}
use Rattle.std.proofs.lemmas.List.Sums.{sum_by-cons}
use Rattle.xv_pool.specs.FrameList.{up_from, AreFree}
use Rattle.xv_pool.specs.Marks.{marked_from}

-- the frames of marks of which the first that is set stands at this place
pub marked_from-first : (first : ℕ) (marks : List Bool) (place : ℕ) → place < length marks
    → ((k : ℕ) → k < place → get_or marks k false ≡ false) → get_or marks place false ≡ true
    → marked_from first marks ≡ (first + place) ∷ marked_from first (set marks place false)
unfolding marked_from
marked_from-first first [] place within before here = absurd (omega arith)
marked_from-first first (true ∷ marks) zero within before here =
    ap (λ frame. frame ∷ marked_from (suc first) marks) (omega arith)
marked_from-first first (false ∷ marks) zero within before here = cc
marked_from-first first (true ∷ marks) (suc place) within before here = let first_is =
    before 0 (omega arith) in cc
marked_from-first first (false ∷ marks) (suc place) within before here =
    let rest = marked_from-first (suc first) marks place (omega arith)
    (λ k below. before (suc k) (omega arith)) here in
    rest ∙ ap (λ frame. frame ∷ marked_from (suc first) (set marks place false)) (omega arith)

-- no mark is set
pub marked_from-none : (first : ℕ) (marks : List Bool) → ((k : ℕ) → get_or marks k false ≡ false)
    → marked_from first marks ≡ []
unfolding marked_from
marked_from-none first [] none = refl
marked_from-none first (true ∷ marks) none = let first_is = none 0 in cc
marked_from-none first (false ∷ marks) none = marked_from-none (suc first) marks (λ k. none (suc k))

-- every mark is set
pub marked_from-replicate : (first count : ℕ)
    → marked_from first (replicate count true) ≡ up_from first count
unfolding marked_from up_from
marked_from-replicate first zero = refl
marked_from-replicate first (suc count) =
    ap (λ frames. first ∷ frames) (marked_from-replicate (suc first) count)

pub length-up_from : (first count : ℕ) → length (up_from first count) ≡ count
unfolding up_from
length-up_from first zero = refl
length-up_from first (suc count) = ap suc (length-up_from (suc first) count)

-- one mark more is set
pub sum_by-given : (weight : ℕ → ℕ) (first : ℕ) (marks : List Bool) (place : ℕ)
    → place < length marks → get_or marks place false ≡ false
    → sum_by weight (marked_from first (set marks place true))
    ≡ weight (first + place) + sum_by weight (marked_from first marks)
unfolding marked_from
sum_by-given weight first [] place within here = absurd (omega arith)
sum_by-given weight first (true ∷ marks) zero within here = cc
sum_by-given weight first (false ∷ marks) zero within here =
    let same : first + 0 ≡ first = omega arith in
    sum_by-cons weight first (marked_from (suc first) marks)
    ∙ ap (λ frame. weight frame + sum_by weight (marked_from (suc first) marks)) (sym same)
sum_by-given weight first (true ∷ marks) (suc place) within here =
    let rest = sum_by-given weight (suc first) marks place (omega arith) here in
    let same : weight (suc first + place) ≡ weight (first + suc place) = ap weight (omega arith) in
    let new = sum_by-cons weight first (marked_from (suc first) (set marks place true)) in
    let old = sum_by-cons weight first (marked_from (suc first) marks) in
    omega arith
sum_by-given weight first (false ∷ marks) (suc place) within here =
    let rest = sum_by-given weight (suc first) marks place (omega arith) here in
    let same : weight (suc first + place) ≡ weight (first + suc place) = ap weight (omega arith) in
    omega arith

pub length-given : (first : ℕ) (marks : List Bool) (place : ℕ) → place < length marks
    → get_or marks place false ≡ false
    → length (marked_from first (set marks place true)) ≡ suc (length (marked_from first marks))
unfolding marked_from
length-given first [] place within here = absurd (omega arith)
length-given first (true ∷ marks) zero within here = cc
length-given first (false ∷ marks) zero within here = refl
length-given first (true ∷ marks) (suc place) within here =
    ap suc (length-given (suc first) marks place (omega arith) here)
length-given first (false ∷ marks) (suc place) within here =
    length-given (suc first) marks place (omega arith) here

Contains-later : (x y : ℕ) (xs : List ℕ) → Contains xs y → Contains (x ∷ xs) y
Contains-later x y xs found = (suc found.0, omega arith, found.2)

-- a frame whose mark is set is one of them
pub Contains-marked : (first : ℕ) (marks : List Bool) (place : ℕ) → get_or marks place false ≡ true
    → Contains (marked_from first marks) (first + place)
unfolding marked_from
Contains-marked first [] place here = cc
Contains-marked first (true ∷ marks) zero here = (0, omega arith, omega arith)
Contains-marked first (false ∷ marks) zero here = cc
Contains-marked first (true ∷ marks) (suc place) here =
    let same : suc first + place ≡ first + suc place = omega arith in
    Contains-later first (first + suc place) _
    (rw same at (Contains-marked (suc first) marks place here))
Contains-marked first (false ∷ marks) (suc place) here =
    let same : suc first + place ≡ first + suc place = omega arith in
    rw same at (Contains-marked (suc first) marks place here)

-- so a frame that isn't free has no mark
pub mark-out : (first : ℕ) (marks : List Bool) (frame : ℕ) → first ≤ frame
    → ¬ Contains (marked_from first marks) frame → get_or marks (frame - first) false ≡ false
mark-out first marks frame least out = unset (get_or marks (frame - first) false) refl
  where
    unset : (mark : Bool) → get_or marks (frame - first) false ≡ mark
        → get_or marks (frame - first) false ≡ false
    unset true is =
        let same : first + (frame - first) ≡ frame = omega arith in
        absurd (out (rw same at (Contains-marked first marks (frame - first) is)))
    unset false is = is

-- the frames lie between these bounds
marked_from-inside : (low high first : ℕ) (marks : List Bool) → low ≤ first
    → first + length marks ≤ high
    → All (λ frame. (low ≤ frame) × (frame < high)) (marked_from first marks)
unfolding marked_from
marked_from-inside low high first [] least most = All-nil _
marked_from-inside low high first (true ∷ marks) least most =
    let here : (low ≤ first) × (first < high) = (omega arith, omega arith) in
    All-cons (λ frame. (low ≤ frame) × (frame < high)) first (marked_from (suc first) marks) here
    (marked_from-inside low high (suc first) marks (omega arith) (omega arith))
marked_from-inside low high first (false ∷ marks) least most =
    marked_from-inside low high (suc first) marks (omega arith) (omega arith)

rising-cons : (x : ℕ) (xs : List ℕ) → All (λ y. x < y) xs → IsStrictlyIncreasing xs
    → IsStrictlyIncreasing (x ∷ xs)
rising-cons x xs above rising zero within = above 0 0 (omega arith)
rising-cons x xs above rising (suc k) within = let next : suc k + 1 ≡ suc (k + 1) = omega arith in
    rw next (rising k (omega arith))

marked_from-rising : (first : ℕ) (marks : List Bool)
    → IsStrictlyIncreasing (marked_from first marks)
unfolding marked_from
marked_from-rising first [] = λ k within. absurd (omega arith)
marked_from-rising first (true ∷ marks) =
    let others = marked_from (suc first) marks in
    let inside =
    marked_from-inside (suc first) (suc first + length marks) (suc first) marks (omega arith)
    (omega arith) in
    rising-cons first others
    (All-weaker (λ frame. (suc first ≤ frame) × (frame < suc first + length marks))
    (λ frame. first < frame) (λ frame bounds. bounds.0) others inside)
    (marked_from-rising (suc first) marks)
marked_from-rising first (false ∷ marks) = marked_from-rising (suc first) marks

pub are_free : (first : ℕ) (marks : List Bool)
    → AreFree (record { first = first; count = length marks; free = marked_from first marks })
are_free first marks = record {
  inside = marked_from-inside first (first + length marks) first marks (omega arith) (omega arith);
  rising = marked_from-rising first marks;
}

pub length-marked_from : (first : ℕ) (marks : List Bool)
    → length (marked_from first marks) ≤ length marks
unfolding marked_from
length-marked_from first [] = omega arith
length-marked_from first (true ∷ marks) = let others = length-marked_from (suc first) marks in
    omega arith
length-marked_from first (false ∷ marks) = let others = length-marked_from (suc first) marks in
    omega arith

-- the first mark that is set, where none is set before next, is cleared
module _ (first : ℕ) (marks : List Bool) (next place : ℕ) (within : place < length marks)
    (none : (k : ℕ) → k < next → get_or marks k false ≡ false)
    (before : (k : ℕ) → next ≤ k → k < place → get_or marks k false ≡ false) where
  none_before : (k : ℕ) → k < place → get_or marks k false ≡ false
  none_before k below =
      elim (cases_lt k next) [ inl early ↦ none k early | inr late ↦ before k late below ]

  pub marked_from-taken : get_or marks place false ≡ true
      → marked_from first marks ≡ (first + place) ∷ marked_from first (set marks place false)
  marked_from-taken here = marked_from-first first marks place within none_before here

  pub none-taken : (k : ℕ) → k < place + 1 → get_or (set marks place false) k false ≡ false
  none-taken k below =
      elim (cases_eq k place) [
        | inl here ↦
            (let P : ℕ → Type 0 = λ j. get_or (set marks place false) j false ≡ false in
            subst P (sym here) (get_or-set_same marks place false false within))
        | inr apart ↦ get_or-set_other marks place k false false apart ∙ none_before k (omega arith)
      ]

-- a mark is set
pub none-given : (marks : List Bool) (next place : ℕ)
    → ((k : ℕ) → k < next → get_or marks k false ≡ false) → (k : ℕ) → k < min next place
    → get_or (set marks place true) k false ≡ false
none-given marks next place none k below =
    get_or-set_other marks place k true false (omega arith) ∙ none k (omega arith)
