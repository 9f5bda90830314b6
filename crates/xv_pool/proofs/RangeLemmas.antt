-- Ranges that share no byte.
use Rattle.std.proofs.Common.{◌≡◌, ℕ, ◌+◌, ◌≤◌, Bool, true, false, ◌||◌, cond, List, [], ◌∷◌, ◌++◌}
use Rattle.std.proofs.Common.{count_by, refl, sym, ◌∙◌, arith}
use Rattle.std.proofs.lemmas.Bool.{false≢true}
use Rattle.std.proofs.lemmas.Bool.Decides.{nat_tests}
use Rattle.std.proofs.lemmas.List.Sums.{sum_by-cons, sum_by_push}
use Rattle.xv_base.specs.declared.keys.Span.{Span}
use Rattle.xv_base.specs.Range.{has_address, meets, meets_one}

meets-shared : (address : ℕ) (a b : Span) → has_address address a ≡ true
    → has_address address b ≡ true → meets a b ≡ true
meets-shared address a b in_a in_b = grind (arith, nat_tests)

neither : (a b : Bool) → (a || b) ≡ false → (a ≡ false) × (b ≡ false)
neither true b is = cc
neither false b is = (refl, is)

abbrev pub weight : ℕ → Span → ℕ
weight address range = cond (has_address address range) 1 0

-- a range that meets none of the others has no address with them
count_by-apart : (address : ℕ) (range : Span) (others : List Span) → meets_one others range ≡ false
    → has_address address range ≡ true → count_by (has_address address) others ≡ 0
count_by-apart address range [] free here = refl
count_by-apart address range (other ∷ others) free here =
    let parts = neither (meets range other) (meets_one others range) free in
    let rest = count_by-apart address range others parts.1 here in
    sum_by-cons (weight address) other others ∙ at_other parts.0 rest
  where
    at_other : meets range other ≡ false → count_by (has_address address) others ≡ 0
        → weight address other + count_by (has_address address) others ≡ 0
    at_other apart rest =
        rest_of (has_address address other) (λ is. meets-shared address range other here is)
      where
        rest_of : (test : Bool) → (test ≡ true → meets range other ≡ true)
            → cond test 1 0 + count_by (has_address address) others ≡ 0
        rest_of true shared = absurd (false≢true (sym apart ∙ shared refl))
        rest_of false shared = omega arith

pub count_by-push : (address : ℕ) (range : Span) (others : List Span)
    → meets_one others range ≡ false → count_by (has_address address) others ≤ 1
    → count_by (has_address address) (others ++ range ∷ []) ≤ 1
count_by-push address range others free once =
    let pushed = sum_by_push (weight address) others range in
    at_test (has_address address range) (λ is. count_by-apart address range others free is) pushed
  where
    at_test : (test : Bool) → (test ≡ true → count_by (has_address address) others ≡ 0)
        → count_by (has_address address) (others ++ range ∷ []) ≡ count_by (has_address address)
        others + cond test 1 0 → count_by (has_address address) (others ++ range ∷ []) ≤ 1
    at_test true none pushed = let alone = none refl in omega arith
    at_test false none pushed = omega arith
