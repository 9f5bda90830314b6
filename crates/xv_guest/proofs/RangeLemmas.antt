-- The ranges of reserved regions: which can be had one after another.
use Rattle.std.proofs.Common.{◌≡◌, ℕ, ◌+◌, ◌%◌, ◌<◌, ◌≤◌, ◌==◌, Bool, true, false}
use Rattle.std.proofs.Common.{None}
use Rattle.std.proofs.Common.{◌||◌, not, List, [], ◌∷◌, ◌++◌, length, get_or, take, drop}
use Rattle.std.proofs.Common.{refl, sym, ap, ◌∙◌, subst, arith}
use Rattle.std.specs.List.{All, list_any, flat_map, sum_by}
use Rattle.std.proofs.lemmas.List.{append_assoc}
use Rattle.std.proofs.lemmas.Bool.{or_parts, and_parts, not-true, or_from}
use Rattle.std.proofs.lemmas.Bool.Decides.{nat_tests}
use Rattle.std.proofs.lemmas.List.{take_more, append-nil, length-append, take-append-drop}
use Rattle.std.proofs.lemmas.List.{take_at, drop_at}
use Rattle.std.proofs.lemmas.List.Concat.{flat_map-append}
use Rattle.std.proofs.lemmas.List.Elements.{All-take, All-drop}
use Rattle.std.proofs.lemmas.List.Folds.{list_any-append}
use Rattle.std.proofs.lemmas.List.Sums.{sum_by-append}
use Rattle.xv_base.specs.declared.keys.Span.{Span}
use Rattle.xv_base.specs.Range.{LiesIn, meets, meets_one}
use Rattle.xv_pool.proofs.SumLemmas.{hit_range}
use Rattle.xv_region.specs.declared.fault.RegionFault.{RegionFault}
use Rattle.xv_region.specs.declared.fault.RegionFault.TheVariants.{BadHost}
use Rattle.xv_region.specs.declared.plan.Kind.{Kind}
use Rattle.xv_region.specs.declared.plan.Kind.TheVariants.{Ram, Rom, Reserved, Alias, Device}
use Rattle.xv_region.specs.declared.plan.Region.{Region}
use Rattle.xv_region.specs.Cell.{bytes_at}
use Rattle.xv_region.specs.Rules.{Accepted, is_good_host, kind_fault, meets_host, meets_host_of}
use Rattle.xv_region.specs.Rules.{unless}
use Rattle.xv_region.proofs.RuleLemmas.{kind-kept}
use Rattle.xv_guest.specs.Frames.{ranges_of, kind_ranges, reserved_ranges}

pub ranges_is : (rs : List Region) → reserved_ranges rs ≡ flat_map ranges_of rs
unfolding reserved_ranges
ranges_is rs = refl

one_region : (r : Region) → flat_map ranges_of (r ∷ []) ≡ ranges_of r
one_region r = append-nil (ranges_of r)

pub ranges-more : (rs : List Region) (i : ℕ) (d : Region) → i < length rs
    → reserved_ranges (take (i + 1) rs) ≡ reserved_ranges (take i rs) ++ ranges_of (get_or rs i d)
ranges-more rs i d within =
    let r = get_or rs i d in
    ranges_is (take (i + 1) rs)
    ∙ ap (flat_map ranges_of) (take_more rs i d within)
    ∙ flat_map-append ranges_of (take i rs) (r ∷ [])
    ∙ ap (λ (xs : List Span). flat_map ranges_of (take i rs) ++ xs) (one_region r)
    ∙ ap (λ (xs : List Span). xs ++ ranges_of r) (sym (ranges_is (take i rs)))

pub ranges-split : (rs : List Region) (i : ℕ)
    → reserved_ranges rs ≡ reserved_ranges (take i rs) ++ reserved_ranges (drop i rs)
ranges-split rs i =
    ranges_is rs
    ∙ ap (flat_map ranges_of) (sym (take-append-drop i rs))
    ∙ flat_map-append ranges_of (take i rs) (drop i rs)
    ∙ ap (λ (xs : List Span). xs ++ flat_map ranges_of (drop i rs)) (sym (ranges_is (take i rs)))
    ∙ ap (λ (xs : List Span). reserved_ranges (take i rs) ++ xs) (sym (ranges_is (drop i rs)))

-- all of them, in three parts
pub ranges-parts : (rs : List Region) (i : ℕ) (d : Region) → i < length rs
    → reserved_ranges rs ≡ (reserved_ranges (take i rs) ++ ranges_of (get_or rs i d))
    ++ reserved_ranges (drop (i + 1) rs)
ranges-parts rs i d within =
    ranges-split rs (i + 1)
    ∙ ap (λ (xs : List Span). xs ++ reserved_ranges (drop (i + 1) rs)) (ranges-more rs i d within)

hit_range-same : (range : Span) → hit_range range range ≡ 1
hit_range-same range = grind (arith, nat_tests)

-- a range that weighs something is there
pub weighs : (range : Span) (held : List Span)
    → ((weight : Span → ℕ) → sum_by weight (range ∷ []) ≤ sum_by weight held)
    → 0 < sum_by (hit_range range) held
weighs range held le =
    let here = hit_range-same range in
    let all = le (hit_range range) in
    omega arith

-- ---- no range meets an earlier one

unless_none : (b : Bool) (fault : RegionFault) → unless b fault ≡ None → b ≡ true
unless_none true fault is = refl
unless_none false fault is = absurd cc

good_host : (area : Span) (regions earlier : List Region) (j size : ℕ) (kind : Kind) (host : ℕ)
    → kind ≡ Reserved host → kind_fault area regions earlier j size kind ≡ None
    → is_good_host area earlier host size ≡ true
good_host area regions earlier j size kind host is none =
    let P : Kind → Type 0 = λ k. kind_fault area regions earlier j size k ≡ None in
    unless_none (is_good_host area earlier host size) (BadHost j) (subst P is none)

or_nothing : (b : Bool) → (b || false) ≡ b
or_nothing true = refl
or_nothing false = refl

meets_kind : (range : Span) (kind : Kind) (size : ℕ)
    → list_any (meets range) (kind_ranges kind size) ≡ meets_host_of range size kind
meets_kind range Ram size = refl
meets_kind range Rom size = refl
meets_kind range (Reserved host) size = or_nothing (meets range (bytes_at host size))
meets_kind range (Alias target) size = refl
meets_kind range (Device kind) size = refl

meets_ranges : (range : Span) (rs : List Region)
    → list_any (meets range) (flat_map ranges_of rs) ≡ list_any (meets_host range) rs
meets_ranges range [] = refl
meets_ranges range (r ∷ rs) =
    list_any-append (meets range) (ranges_of r) (flat_map ranges_of rs)
    ∙ ap (λ (b : Bool). b || list_any (meets range) (flat_map ranges_of rs))
    (meets_kind range r.kind r.size)
    ∙ ap (λ (b : Bool). meets_host_of range r.size r.kind || b) (meets_ranges range rs)

-- where a region has no range, none meets anything
by_kind : (held : List Span) (kind : Kind) (size : ℕ) → ((host : ℕ) → kind ≡ Reserved host
    → meets_one held (bytes_at host size) ≡ false)
    → list_any (meets_one held) (kind_ranges kind size) ≡ false
by_kind held Ram size free = refl
by_kind held Rom size free = refl
by_kind held (Reserved host) size free =
    or_nothing (meets_one held (bytes_at host size)) ∙ free host refl
by_kind held (Alias target) size free = refl
by_kind held (Device kind) size free = refl

of_kind : (held : List Span) (kind : Kind) (size host : ℕ) → kind ≡ Reserved host
    → list_any (meets_one held) (kind_ranges kind size) ≡ false
    → meets_one held (bytes_at host size) ≡ false
of_kind held kind size host is free =
    let P : Kind → Type 0 = λ k. list_any (meets_one held) (kind_ranges k size) ≡ false in
    sym (or_nothing (meets_one held (bytes_at host size))) ∙ subst P is free

All-front : {X : Type 0} (P : X → Type 0) (xs ys : List X) → All P (xs ++ ys) → All P xs
All-front P xs ys all =
    subst (All P) (take_at xs ys (length xs) refl) (All-take P (length xs) (xs ++ ys) all)

All-back : {X : Type 0} (P : X → Type 0) (xs ys : List X) → All P (xs ++ ys) → All P ys
All-back P xs ys all =
    subst (All P) (drop_at xs ys (length xs) refl) (All-drop P (length xs) (xs ++ ys) all)

module _ (rs : List Region) (i : ℕ) (d : Region) (within : i < length rs) where
  -- a test of one region's ranges is part of the test of all
  free_part : (test : Span → Bool) → list_any test (reserved_ranges rs) ≡ false
      → list_any test (ranges_of (get_or rs i d)) ≡ false
  free_part test free =
      let front = reserved_ranges (take i rs) in
      let here = ranges_of (get_or rs i d) in
      let back = reserved_ranges (drop (i + 1) rs) in
      let parts =
      sym (ap (list_any test) (ranges-parts rs i d within)
      ∙ list_any-append test (front ++ here) back
      ∙ ap (λ (b : Bool). b || list_any test back) (list_any-append test front here)) ∙ free in
      (or_parts (list_any test front) (list_any test here)
      (or_parts (list_any test front || list_any test here) (list_any test back) parts).0).1

  -- a reserved region's range meets none of an earlier region
  pub host_apart : Accepted rs → (host : ℕ) → (get_or rs i d).kind ≡ Reserved host
      → list_any (meets_host (bytes_at host (get_or rs i d).size)) (take i rs) ≡ false
  host_apart accepted host is =
      let range = bytes_at host (get_or rs i d).size in
      let good =
      good_host accepted.area rs (take i rs) i (get_or rs i d).size (get_or rs i d).kind host is
      (kind-kept accepted.area rs accepted.faultless i d within) in
      let none = list_any (meets_host range) (take i rs) in
      let inner = (and_parts (host % 4096 == 0) _ good).1 in
      not-true none (and_parts _ (not none) inner).1

  earlier_apart : Accepted rs → (host : ℕ) → (get_or rs i d).kind ≡ Reserved host
      → list_any (meets (bytes_at host (get_or rs i d).size)) (reserved_ranges (take i rs)) ≡ false
  earlier_apart accepted host is =
      let range = bytes_at host (get_or rs i d).size in
      ap (list_any (meets range)) (ranges_is (take i rs))
      ∙ meets_ranges range (take i rs)
      ∙ host_apart accepted host is

  free_at : (held : List Span) → Accepted rs
      → list_any (meets_one held) (reserved_ranges rs) ≡ false
      → list_any (meets_one (held ++ reserved_ranges (take i rs))) (ranges_of (get_or rs i d))
      ≡ false
  free_at held accepted free =
      by_kind (held ++ reserved_ranges (take i rs)) (get_or rs i d).kind (get_or rs i d).size
      (λ host is.
      let range = bytes_at host (get_or rs i d).size in
      list_any-append (meets range) held (reserved_ranges (take i rs))
      ∙ or_from (list_any (meets range) held) (list_any (meets range) (reserved_ranges (take i rs)))
      (of_kind held (get_or rs i d).kind (get_or rs i d).size host is
      (free_part (meets_one held) free)) (earlier_apart accepted host is))

  area_at : (area : Span) → All (λ range. LiesIn range area) (reserved_ranges rs)
      → All (λ range. LiesIn range area) (ranges_of (get_or rs i d))
  area_at area all =
      let P : Span → Type 0 = λ range. LiesIn range area in
      let front = reserved_ranges (take i rs) in
      let here = ranges_of (get_or rs i d) in
      let back = reserved_ranges (drop (i + 1) rs) in
      All-front P here back
      (All-back P front (here ++ back)
      (subst (All P) (ranges-parts rs i d within ∙ append_assoc front here back) all))

  count_at : length (reserved_ranges (take i rs)) + length (ranges_of (get_or rs i d))
      ≤ length (reserved_ranges rs)
  count_at =
      let front = reserved_ranges (take i rs) in
      let here = ranges_of (get_or rs i d) in
      let back = reserved_ranges (drop (i + 1) rs) in
      let all = ap length (ranges-parts rs i d within) in
      let one = length-append (front ++ here) back in
      let two = length-append front here in
      omega arith

-- ---- one region more

module _ (rs : List Region) (i : ℕ) (r : Region) (within : i < length rs)
    (read : r ≡ get_or rs i r) where
  pub take-area : (area : Span) → All (λ range. LiesIn range area) (reserved_ranges rs)
      → All (λ range. LiesIn range area) (ranges_of r)
  take-area area all =
      let P : Region → Type 0 = λ x. All (λ range. LiesIn range area) (ranges_of x) in
      subst P (sym read) (area_at rs i r within area all)

  pub take-room : length (reserved_ranges (take i rs)) + length (ranges_of r)
      ≤ length (reserved_ranges rs)
  take-room =
      let P : Region → Type 0 =
      λ x. length (reserved_ranges (take i rs)) + length (ranges_of x)
      ≤ length (reserved_ranges rs) in
      subst P (sym read) (count_at rs i r within)

  pub take-free : (held : List Span) → Accepted rs
      → list_any (meets_one held) (reserved_ranges rs) ≡ false
      → list_any (meets_one (held ++ reserved_ranges (take i rs))) (ranges_of r) ≡ false
  take-free held accepted free =
      let P : Region → Type 0 =
      λ x. list_any (meets_one (held ++ reserved_ranges (take i rs))) (ranges_of x) ≡ false in
      subst P (sym read) (free_at rs i r within held accepted free)

  pub take-more : (held : List Span)
      → (held ++ reserved_ranges (take i rs)) ++ ranges_of r
      ≡ held ++ reserved_ranges (take (i + 1) rs)
  take-more held =
      let P : Region → Type 0 =
      λ x. held ++ (reserved_ranges (take i rs) ++ ranges_of x)
      ≡ held ++ reserved_ranges (take (i + 1) rs) in
      append_assoc held (reserved_ranges (take i rs)) (ranges_of r)
      ∙ subst P (sym read) (ap (λ (xs : List Span). held ++ xs) (sym (ranges-more rs i r within)))

  pub give-more : (weight : Span → ℕ)
      → sum_by weight (reserved_ranges (take (i + 1) rs))
      ≡ sum_by weight (reserved_ranges (take i rs)) + sum_by weight (ranges_of r)
  give-more weight =
      let P : Region → Type 0 =
      λ x. sum_by weight (reserved_ranges (take (i + 1) rs))
      ≡ sum_by weight (reserved_ranges (take i rs)) + sum_by weight (ranges_of x) in
      subst P (sym read)
      (ap (sum_by weight) (ranges-more rs i r within)
      ∙ sum_by-append weight (reserved_ranges (take i rs)) (ranges_of (get_or rs i r)))

  pub give-front : (weight : Span → ℕ)
      → sum_by weight (reserved_ranges (take (i + 1) rs)) ≤ sum_by weight (reserved_ranges rs)
  give-front weight =
      let all = ap (sum_by weight) (ranges-split rs (i + 1)) in
      let parts =
      sum_by-append weight (reserved_ranges (take (i + 1) rs))
      (reserved_ranges (drop (i + 1) rs)) in
      omega arith
