-- What a sum over all weights tells of one frame or one range.
use Rattle.std.proofs.Common.{◌≡◌, ℕ, suc, ◌<◌, ◌==◌, Bool, true, false, ◌&&◌, cond, List, [], ◌∷◌}
use Rattle.std.proofs.Common.{sum_by, refl, sym, subst, ap, ◌∙◌, arith}
use Rattle.std.specs.List.{Contains}
use Rattle.std.proofs.lemmas.Bool.Decides.{nat_tests}
use Rattle.std.proofs.lemmas.List.Sums.{sum_by-cons, get_or-le-sum_by}
use Rattle.xv_base.specs.declared.keys.Span.{Span}

-- the weight of one frame
abbrev pub hit : ℕ → ℕ → ℕ
hit frame other = cond (other == frame) 1 0

-- a frame whose weight isn't there is none of them
pub absent-sum_by : (frame : ℕ) (frames : List ℕ) → sum_by (hit frame) frames ≡ 0
    → ¬ Contains frames frame
absent-sum_by frame frames none found =
    let at = get_or-le-sum_by (hit frame) frames found.0 frame found.1 in
    let whole : hit frame frame ≡ 1 = grind (arith, nat_tests) in
    let P : ℕ → Type 0 = λ other. hit frame other ≡ 1 in
    let one = subst P (sym found.2) whole in
    omega arith

-- the weight of one range
abbrev pub hit_range : Span → Span → ℕ
hit_range range other = cond (other.start == range.start && other.len == range.len) 1 0

range : ℕ → ℕ → Span
range start len = record { start = start; len = len }

same : (a b : Span) → (a.start == b.start && a.len == b.len) ≡ true → a ≡ b
unfolding range
same a b is =
    let start : a.start ≡ b.start = grind (arith, nat_tests) in
    let len : a.len ≡ b.len = grind (arith, nat_tests) in
    ap (λ first. range first a.len) start ∙ ap (range b.start) len

-- a range whose weight is there is one of them
pub Contains-sum_by : (range : Span) (ranges : List Span) → 0 < sum_by (hit_range range) ranges
    → Contains ranges range
Contains-sum_by range [] some = absurd (omega arith)
Contains-sum_by range (first ∷ others) some =
    either (first.start == range.start && first.len == range.len) refl
    (λ some_left. Contains-sum_by range others some_left)
  where
    either : (test : Bool) → (first.start == range.start && first.len == range.len) ≡ test
        → (0 < sum_by (hit_range range) others → Contains others range)
        → Contains (first ∷ others) range
    either true is later = (0, omega arith, same first range is)
    either false is later =
        let split = sum_by-cons (hit_range range) first others in
        let nothing : hit_range range first ≡ 0 = rw is refl in
        let found = later (omega arith) in
        (suc found.0, omega arith, found.2)
