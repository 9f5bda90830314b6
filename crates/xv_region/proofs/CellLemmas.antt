-- The region that a search finds first is the one that the definition takes.
use Rattle.std.proofs.Common.{◌≡◌, ℕ, zero, suc, ◌+◌, ◌-◌, ◌<◌, ◌≤◌, Bool, true, false, cond, List}
use Rattle.std.proofs.Common.{[], ◌∷◌, length, get_or, Some, None, refl, sym, subst, ◌∙◌, arith}
use Rattle.std.specs.List.{position, position_from}
use Rattle.std.proofs.lemmas.Bool.Decides.{nat_tests}
use Rattle.std.proofs.lemmas.Iterator.Adapters.{position_from-zero}
use Rattle.std.proofs.lemmas.List.Quantifiers.{position-Some}
use Rattle.xv_region.specs.declared.cell.Cell.{Cell}
use Rattle.xv_region.specs.declared.cell.Cell.TheVariants as cells
use Rattle.xv_region.specs.declared.plan.Region.{Region}
use Rattle.xv_region.specs.declared.plan.Kind.{Kind}
use Rattle.xv_region.specs.declared.plan.Kind.TheVariants.{Ram, Rom, Reserved, Alias, Device}
use Rattle.xv_region.specs.Cell.{bytes_at, holds, cell, cell_from, cell_within, nowhere, one_hop}

module _ (hop : ℕ → Cell) (a n : ℕ) where
  found-from : (i : ℕ) (rs : List Region) (place : ℕ) (d : Region) → place < length rs
      → holds (bytes_at a n) (get_or rs place d) ≡ true
      → ((k : ℕ) → k < place → holds (bytes_at a n) (get_or rs k d) ≡ false) → (number : ℕ)
      → number ≡ i + place
      → cell_from hop i rs a n
      ≡ cell_within hop number (a - (get_or rs place d).base) (get_or rs place d).kind
  found-from i [] place d within here before number is = absurd (omega arith)
  found-from i (r ∷ rs) zero d within here before number is =
      let same : i ≡ number = omega (arith, is) in
      rw here (rw same refl)
  found-from i (r ∷ rs) (suc place) d within here before number is =
      rw (before 0 (omega arith))
      (found-from (suc i) rs place d (omega arith) here
      (λ k below. before (suc k) (omega arith)) number (omega arith))

  none-from : (i j : ℕ) (rs : List Region) → position_from (holds (bytes_at a n)) j rs ≡ None
      → cell_from hop i rs a n ≡ cells.Nothing
  none-from i j [] none = refl
  none-from i j (r ∷ rs) none =
      either (holds (bytes_at a n) r) none (λ rest. none-from (suc i) (j + 1) rs rest)
    where
      either : (test : Bool)
          → cond test (Some j) (position_from (holds (bytes_at a n)) (j + 1) rs) ≡ None
          → (position_from (holds (bytes_at a n)) (j + 1) rs ≡ None
          → cell_from hop (suc i) rs a n ≡ cells.Nothing)
          → cond test (cell_within hop i (a - r.base) r.kind) (cell_from hop (suc i) rs a n)
          ≡ cells.Nothing
      either true is rest = absurd cc
      either false is rest = rest is

  pub cell-found : (rs : List Region) (place : ℕ) (region : Region)
      → position (holds (bytes_at a n)) rs ≡ Some place → region ≡ get_or rs place region
      → cell_from hop 0 rs a n ≡ cell_within hop place (a - region.base) region.kind
  cell-found rs place region found read =
      let at = position-Some (holds (bytes_at a n)) rs place region found in
      let P : Region → Type 0 =
      λ r. cell_from hop 0 rs a n ≡ cell_within hop place (a - r.base) r.kind in
      subst P (sym read) (found-from 0 rs place region at.0 at.1 at.2 place (omega arith))

  pub cell-none : (rs : List Region) → position (holds (bytes_at a n)) rs ≡ None
      → cell_from hop 0 rs a n ≡ cells.Nothing
  cell-none rs none = none-from 0 0 rs (sym (position_from-zero (holds (bytes_at a n)) rs) ∙ none)

pub found-holds : (a n : ℕ) (rs : List Region) (place : ℕ) (region : Region)
    → position (holds (bytes_at a n)) rs ≡ Some place → region ≡ get_or rs place region
    → holds (bytes_at a n) region ≡ true
found-holds a n rs place region found read =
    let at = position-Some (holds (bytes_at a n)) rs place region found in
    let P : Region → Type 0 = λ r. holds (bytes_at a n) r ≡ true in
    subst P (sym read) at.1

pub found-within : (a n : ℕ) (rs : List Region) (place : ℕ) (d : Region)
    → position (holds (bytes_at a n)) rs ≡ Some place → place < length rs
found-within a n rs place d found = (position-Some (holds (bytes_at a n)) rs place d found).0

pub found-base : (a n : ℕ) (rs : List Region) (place : ℕ) (region : Region)
    → position (holds (bytes_at a n)) rs ≡ Some place → region ≡ get_or rs place region
    → region.base ≤ a
found-base a n rs place region found read =
    let here = found-holds a n rs place region found read in
    grind (arith, nat_tests)

-- ---- what the whole search gives

module _ (regions : List Region) (a n : ℕ) where
  pub cell-nothing : ((hop : ℕ → Cell) → cell_from hop 0 regions a n ≡ cells.Nothing)
      → cells.Nothing ≡ cell regions a n
  unfolding cell
  cell-nothing none = sym (none (one_hop regions n))

  no_hop : (hop : ℕ → Cell) (i offset : ℕ) (kind : Kind) → ((target : ℕ) → kind ≡ Alias target → ⊥)
      → cell_within nowhere i offset kind ≡ cell_within hop i offset kind
  no_hop hop i offset Ram other = refl
  no_hop hop i offset Rom other = refl
  no_hop hop i offset (Reserved host) other = refl
  no_hop hop i offset (Alias target) other = absurd (other target refl)
  no_hop hop i offset (Device kind) other = refl

  pub cell-direct : (i offset : ℕ) (kind : Kind)
      → ((hop : ℕ → Cell) → cell_from hop 0 regions a n ≡ cell_within hop i offset kind)
      → ((target : ℕ) → kind ≡ Alias target → ⊥)
      → cell_within nowhere i offset kind ≡ cell regions a n
  unfolding cell
  cell-direct i offset kind found other =
      no_hop (one_hop regions n) i offset kind other ∙ sym (found (one_hop regions n))

  pub cell-hop : (i offset : ℕ) (kind : Kind) (target : ℕ)
      → ((hop : ℕ → Cell) → cell_from hop 0 regions a n ≡ cell_within hop i offset kind)
      → kind ≡ Alias target → cell regions a n ≡ cell_from nowhere 0 regions (target + offset) n
  unfolding cell
  cell-hop i offset kind target found is =
      let P : Kind → Type 0 =
      λ k. cell_from (one_hop regions n) 0 regions a n
      ≡ cell_within (one_hop regions n) i offset k in
      subst P is (found (one_hop regions n))
