-- The cell of an address of a page, and the page's own frame.
use Rattle.std.proofs.Common.{◌≡◌, ℕ, zero, suc, ◌+◌, ◌-◌, ◌%◌, ◌^◌, ◌<◌, ◌≤◌, ◌==◌}
use Rattle.std.proofs.Common.{Bool, true, false, ◌&&◌, ◌||◌, leb, List, [], ◌∷◌, length, get_or}
use Rattle.std.proofs.Common.{take, Option, Some, None, refl, sym, ap, ◌∙◌, subst, arith, inl, inr}
use Rattle.std.proofs.Common.{length-take}
use Rattle.std.proofs.lemmas.List.{get_or-take}
use Rattle.std.specs.List.{list_any, position}
use Rattle.std.proofs.lemmas.Bool.{cases_lt}
use Rattle.std.proofs.lemmas.Bool.Decides.{nat_tests}
use Rattle.std.proofs.lemmas.List.{get_or_default}
use Rattle.std.proofs.lemmas.List.Folds.{Any-from_list_any}
use Rattle.std.proofs.lemmas.List.Quantifiers.{position-Some}
use Rattle.xv_region.specs.declared.cell.Cell.{Cell}
use Rattle.xv_region.specs.declared.plan.Kind.{Kind}
use Rattle.xv_region.specs.declared.plan.Kind.TheVariants.{Ram, Rom, Reserved, Alias, Device}
use Rattle.xv_region.specs.declared.plan.Region.{Region}
use Rattle.xv_region.specs.Cell.{bytes_at, cell_from, cell_within, holds}
use Rattle.xv_region.specs.Need.{is_mapped}
use Rattle.xv_region.specs.Rules.{Accepted, is_sound}
use Rattle.xv_region.specs.Rules.{is_sound_kind, shares, unit_of}
use Rattle.xv_region.proofs.CellLemmas.{cell-found}
use Rattle.xv_region.proofs.NeedLemmas.{accepted-apart}
use Rattle.xv_region.proofs.RuleLemmas.{all-at, both, position-none, sound-bounded}
use Rattle.xv_region.proofs.RuleLemmas.{sound-each}
use Rattle.xv_gstage.specs.Own.{IsWhole}

-- ---- lists of regions

pub none-at : (p : Region → Bool) (rs : List Region) (k : ℕ) (d : Region)
    → list_any p rs ≡ false → k < length rs → p (get_or rs k d) ≡ false
none-at p [] k d e lt = absurd (omega arith)
none-at p (r ∷ rs) zero d e lt = (neither (p r) (list_any p rs) e).0
  where
    neither : (a b : Bool) → (a || b) ≡ false → (a ≡ false) × (b ≡ false)
    neither true b is = cc
    neither false b is = (refl, is)
none-at p (r ∷ rs) (suc k) d e lt =
    none-at p rs k d (neither (p r) (list_any p rs) e).1 (omega arith)
  where
    neither : (a b : Bool) → (a || b) ≡ false → (a ≡ false) × (b ≡ false)
    neither true b is = cc
    neither false b is = (refl, is)

pub some-at : (p : Region → Bool) (rs : List Region) → list_any p rs ≡ true
    → (k : ℕ) × (r : Region) × (k < length rs) × (r ≡ get_or rs k r) × (p r ≡ true)
some-at p rs e =
    let found = Any-from_list_any p rs e in
    (found.0, found.1, found.2, sym found.3, found.4)

pub any-at : (p : Region → Bool) (rs : List Region) (k : ℕ) (r : Region) → k < length rs
    → r ≡ get_or rs k r → p r ≡ true → list_any p rs ≡ true
any-at p rs k r lt read is = by (list_any p rs) refl
  where
    by : (b : Bool) → list_any p rs ≡ b → list_any p rs ≡ true
    by true e = e
    by false e =
        let none = none-at p rs k r e lt in
        let same = ap p read in
        cc

-- ---- one byte

pub holds-parts : (a : ℕ) (r : Region) → holds (bytes_at a 1) r ≡ true
    → (r.base ≤ a) × (a < r.base + r.size)
holds-parts a r is =
    let parts = both (leb r.base a) (leb (a + 1) (r.base + r.size)) is in
    let low = parts.0 in
    let high = parts.1 in
    let one : r.base ≤ a = grind (arith, nat_tests) in
    let two : a < r.base + r.size = grind (arith, nat_tests) in
    (one, two)

pub to-holds : (a : ℕ) (r : Region) → r.base ≤ a → a < r.base + r.size
    → holds (bytes_at a 1) r ≡ true
to-holds a r low high =
    let one : leb r.base a ≡ true = grind (arith, nat_tests) in
    let two : leb (a + 1) (r.base + r.size) ≡ true = grind (arith, nat_tests) in
    rw (one, two) refl

share : (a : ℕ) (r s : Region) → r.base ≤ a → a < r.base + r.size → s.base ≤ a
    → a < s.base + s.size → shares r s ≡ true
share a r s low high low' high' = grind (arith, nat_tests)

module _ (regions : List Region) (accepted : Accepted regions) where
  module _ (a n m : ℕ) (r s : Region) (lt : n < length regions) (lt' : m < length regions)
      (read : r ≡ get_or regions n r) (read' : s ≡ get_or regions m s)
      (here : holds (bytes_at a 1) r ≡ true) (there : holds (bytes_at a 1) s ≡ true) where
    later : m < n → ⊥
    later less =
        let none = accepted-apart regions accepted n r lt read in
        let x = holds-parts a r here in
        let y = holds-parts a s there in
        let shared = share a r s x.0 x.1 y.0 y.1 in
        let at : get_or (take n regions) m s ≡ get_or regions m s =
        get_or-take n regions m s less in
        let long = length-take n regions in
        let not = none-at (shares r) (take n regions) m s none (omega arith) in
        let same : shares r (get_or (take n regions) m s) ≡ shares r s =
        ap (shares r) (at ∙ sym read') in
        cc

  -- one region holds a byte
  pub one-holds : (a n m : ℕ) (r s : Region) → n < length regions → m < length regions
      → r ≡ get_or regions n r → s ≡ get_or regions m s → holds (bytes_at a 1) r ≡ true
      → holds (bytes_at a 1) s ≡ true → m ≡ n
  one-holds a n m r s lt lt' read read' here there = elim (cases_lt m n) [
    | inl less ↦ absurd (later a n m r s lt lt' read read' here there less)
    | inr le ↦ elim (cases_lt n m) [
      | inl more ↦ absurd (later a m n s r lt' lt read' read there here more)
      | inr ge ↦ omega arith
    ]
  ]

  -- a search finds it
  pub cell-at : (hop : ℕ → Cell) (a n : ℕ) (r : Region) → n < length regions
      → r ≡ get_or regions n r → holds (bytes_at a 1) r ≡ true
      → cell_from hop 0 regions a 1 ≡ cell_within hop n (a - r.base) r.kind
  cell-at hop a n r lt read here = by (position (holds (bytes_at a 1)) regions) refl
    where
      by : (o : Option ℕ) → position (holds (bytes_at a 1)) regions ≡ o
          → cell_from hop 0 regions a 1 ≡ cell_within hop n (a - r.base) r.kind
      by None e =
          let none = none-at (holds (bytes_at a 1)) regions n r
          (position-none (holds (bytes_at a 1)) regions e) lt in
          let same = ap (holds (bytes_at a 1)) read in
          cc
      by (Some m) e =
          let at = position-Some (holds (bytes_at a 1)) regions m r e in
          let s = get_or regions m r in
          let s_read : s ≡ get_or regions m s = get_or_default regions m r s at.0 in
          let same : m ≡ n = one-holds a n m r s lt at.0 read s_read here at.1 in
          let r_is : r ≡ s =
          read ∙ ap (λ (k : ℕ). get_or regions k r) (sym same) in
          let at_n : position (holds (bytes_at a 1)) regions ≡ Some n =
          e ∙ ap (λ (k : ℕ). Some k) same in
          cell-found hop a 1 regions n r at_n read

  -- ---- bounds of memory are bounds of pages

  sound-at : (n : ℕ) (r : Region) → n < length regions → r ≡ get_or regions n r
      → is_sound r ≡ true
  sound-at n r lt read =
      subst (λ (x : Region). is_sound x ≡ true) (sym read)
      (all-at is_sound regions n r (sound-each regions accepted.sound) lt)

  units : (r : Region) → is_sound r ≡ true
      → (r.base % unit_of r.kind ≡ 0) × (r.size % unit_of r.kind ≡ 0)
  units r sound =
      let whole = both ((r.base % unit_of r.kind == 0 && r.size % unit_of r.kind == 0)
      && (leb 1 r.size && leb (r.base + r.size) (2 ^ 41))) (is_sound_kind r.kind) sound in
      let bounds = both (r.base % unit_of r.kind == 0 && r.size % unit_of r.kind == 0)
      (leb 1 r.size && leb (r.base + r.size) (2 ^ 41)) whole.0 in
      let last = both (r.base % unit_of r.kind == 0) (r.size % unit_of r.kind == 0) bounds.0 in
      (zero_of (r.base % unit_of r.kind) last.0, zero_of (r.size % unit_of r.kind) last.1)
    where
      zero_of : (n : ℕ) → (n == 0) ≡ true → n ≡ 0
      zero_of n is = grind (arith, nat_tests)

  unit-mapped : (kind : Kind) → is_mapped kind ≡ true → unit_of kind ≡ 4096
  unit-mapped Ram is = refl
  unit-mapped Rom is = refl
  unit-mapped (Reserved host) is = refl
  unit-mapped (Alias target) is = refl
  unit-mapped (Device kind) is = cc

  pub whole-at : (n : ℕ) (r : Region) → n < length regions → r ≡ get_or regions n r → IsWhole r
  whole-at n r lt read =
      let sound = sound-at n r lt read in
      let unit = units r sound in
      let P : Region → Type 0 = λ x. x.base + x.size ≤ 2 ^ 41 in
      record {
        start = λ is. sym (ap (λ (u : ℕ). r.base % u) (unit-mapped r.kind is)) ∙ unit.0;
        len = λ is. sym (ap (λ (u : ℕ). r.size % u) (unit-mapped r.kind is)) ∙ unit.1;
        end = subst P (sym read) (sound-bounded regions n r accepted.sound lt);
      }
