-- What regions that may stand together keep, each of them.
use Rattle.std.proofs.Common.{◌≡◌, ℕ, zero, suc, ◌+◌, ◌%◌, ◌^◌, ◌<◌, ◌≤◌, ◌==◌, ◌&&◌, ◌||◌, Bool}
use Rattle.std.proofs.Common.{true, false, cond, leb, List, [], ◌∷◌}
use Rattle.std.proofs.Common.{length, get_or, take, drop, Option, Some, None, refl, sym, subst, ap}
use Rattle.std.proofs.Common.{◌∙◌, arith}
use Rattle.std.specs.Prelude.{IsTrue}
use Rattle.std.specs.List.{position, position_from, list_all, list_any}
use Rattle.std.proofs.lemmas.Bool.Decides.{nat_tests}
use Rattle.std.proofs.lemmas.Iterator.Adapters.{position_from-zero}
use Rattle.std.proofs.lemmas.List.{drop_more, drop_all}
use Rattle.std.proofs.lemmas.List.Folds.{Any-from_list_any}
use Rattle.xv_base.specs.declared.keys.Span.{Span}
use Rattle.xv_region.specs.declared.fault.RegionFault.{RegionFault}
use Rattle.xv_region.specs.declared.fault.RegionFault.TheVariants.{Overlap, BadAlias, BadHost}
use Rattle.xv_region.specs.declared.fault.RegionFault.TheVariants.{NoMemory}
use Rattle.xv_region.specs.declared.plan.Kind.{Kind}
use Rattle.xv_region.specs.declared.plan.Kind.TheVariants.{Ram, Rom, Reserved, Alias, Device}
use Rattle.xv_region.specs.declared.plan.Region.{Region}
use Rattle.xv_region.specs.Cell.{bytes_at, holds}
use Rattle.xv_region.specs.Rules.{Accepted, IsFault, IsReached, are_sound, is_sound, is_real}
use Rattle.xv_region.specs.Rules.{is_sound_kind, unit_of, shares, holds_own}
use Rattle.xv_region.specs.Rules.{fault_of, fault_from, first_fault, or_later, overlap_or}
use Rattle.xv_region.specs.Rules.{kind_fault, is_good_alias, unless}

-- ---- tests

pub true_of : (b : Bool) → IsTrue b → b ≡ true
true_of true is = refl
true_of false is = absurd (cc)

pub both : (a b : Bool) → (a && b) ≡ true → (a ≡ true) × (b ≡ true)
both true b is = (refl, is)
both false b is = absurd cc

pub all-at : (test : Region → Bool) (rs : List Region) (k : ℕ) (d : Region)
    → list_all test rs ≡ true → k < length rs → test (get_or rs k d) ≡ true
all-at test [] k d is within = absurd (omega arith)
all-at test (r ∷ rs) zero d is within = (both (test r) (list_all test rs) is).0
all-at test (r ∷ rs) (suc k) d is within =
    all-at test rs k d (both (test r) (list_all test rs) is).1 (omega arith)

none-any : (test : Region → Bool) (i : ℕ) (rs : List Region) → position_from test i rs ≡ None
    → list_any test rs ≡ false
none-any test i [] none = refl
none-any test i (r ∷ rs) none = either (test r) none (λ rest. none-any test (i + 1) rs rest)
  where
    either : (b : Bool) → cond b (Some i) (position_from test (i + 1) rs) ≡ None
        → (position_from test (i + 1) rs ≡ None → list_any test rs ≡ false)
        → (b || list_any test rs) ≡ false
    either true is rest = absurd cc
    either false is rest = rest is

pub position-none : (test : Region → Bool) (rs : List Region) → position test rs ≡ None
    → list_any test rs ≡ false
position-none test rs none = none-any test 0 rs (sym (position_from-zero test rs) ∙ none)

-- ---- the second pass found nothing

abbrev Fault : Type 0
Fault = Option RegionFault

neither : (a b : Fault) → or_later a b ≡ None → (a ≡ None) × (b ≡ None)
neither None b is = (refl, is)
neither (Some f) b is = absurd cc

module _ (area : Span) (regions : List Region) where
  none-from : (j : ℕ) (rs : List Region) (k : ℕ) (d : Region) (number : ℕ)
      → fault_from area regions j rs ≡ None → k < length rs → number ≡ j + k
      → fault_of area regions (take number regions) number (get_or rs k d) ≡ None
  unfolding fault_from
  none-from j [] k d number none within is = absurd (omega arith)
  none-from j (r ∷ rs) zero d number none within is =
      let same : j ≡ number = omega (arith, is) in
      let first = neither (fault_of area regions (take j regions) j r)
      (fault_from area regions (suc j) rs) none in
      let P : ℕ → Type 0 = λ i. fault_of area regions (take i regions) i r ≡ None in
      subst P same first.0
  none-from j (r ∷ rs) (suc k) d number none within is =
      let first = neither (fault_of area regions (take j regions) j r)
      (fault_from area regions (suc j) rs) none in
      none-from (suc j) rs k d number first.1 (omega arith) (omega arith)

  alone : (j : ℕ) (at : Option ℕ) (later : Fault) → overlap_or j at later ≡ None
      → (at ≡ None) × (later ≡ None)
  alone j None later is = (refl, is)
  alone j (Some i) later is = absurd cc

  module _ (none : first_fault area regions ≡ None) (k : ℕ) (d : Region)
      (within : k < length regions) where
    at : fault_of area regions (take k regions) k (get_or regions k d) ≡ None
    unfolding first_fault
    at = none-from 0 regions k d k none within (omega arith)

    parts : (position (shares (get_or regions k d)) (take k regions) ≡ None)
        × (kind_fault area regions (take k regions) k (get_or regions k d).size
        (get_or regions k d).kind ≡ None)
    parts = alone k (position (shares (get_or regions k d)) (take k regions))
        (kind_fault area regions (take k regions) k (get_or regions k d).size
        (get_or regions k d).kind) at

    -- no earlier region shares a byte
    pub apart : list_any (shares (get_or regions k d)) (take k regions) ≡ false
    apart = position-none (shares (get_or regions k d)) (take k regions) parts.0

    pub kind-kept : kind_fault area regions (take k regions) k (get_or regions k d).size
        (get_or regions k d).kind ≡ None
    kind-kept = parts.1

-- ---- soundness

pub sound-length : (rs : List Region) → IsTrue (are_sound rs) → length rs ≤ 32
unfolding are_sound
sound-length rs sound =
    let is = both (leb (length rs) 32) (list_all is_sound rs)
    (true_of (leb (length rs) 32 && list_all is_sound rs) sound) in
    let few = is.0 in
    grind (arith, nat_tests)

pub sound-each : (rs : List Region) → IsTrue (are_sound rs) → list_all is_sound rs ≡ true
unfolding are_sound
sound-each rs sound =
    (both (leb (length rs) 32) (list_all is_sound rs)
    (true_of (leb (length rs) 32 && list_all is_sound rs) sound)).1

bounds_of : (r : Region) → is_sound r ≡ true → (r.base + r.size ≤ 2 ^ 41) × (0 < r.size)
bounds_of r sound =
    let whole = both ((r.base % unit_of r.kind == 0 && r.size % unit_of r.kind == 0)
    && (leb 1 r.size && leb (r.base + r.size) (2 ^ 41))) (is_sound_kind r.kind) sound in
    let bounds =
    both (r.base % unit_of r.kind == 0 && r.size % unit_of r.kind == 0)
    (leb 1 r.size && leb (r.base + r.size) (2 ^ 41)) whole.0 in
    let last = both (leb 1 r.size) (leb (r.base + r.size) (2 ^ 41)) bounds.1 in
    let fits = last.1 in
    let some = last.0 in
    let end : r.base + r.size ≤ 2 ^ 41 = grind (arith, nat_tests) in
    let any : 0 < r.size = grind (arith, nat_tests) in
    (end, any)

bounded : (r : Region) → is_sound r ≡ true → r.base + r.size ≤ 2 ^ 41
bounded r sound = (bounds_of r sound).0

pub sound-bounded : (rs : List Region) (k : ℕ) (d : Region) → IsTrue (are_sound rs) → k < length rs
    → (get_or rs k d).base + (get_or rs k d).size ≤ 2 ^ 41
sound-bounded rs k d sound within =
    bounded (get_or rs k d) (all-at is_sound rs k d (sound-each rs sound) within)

pub sound-some : (rs : List Region) (k : ℕ) (d : Region) → IsTrue (are_sound rs) → k < length rs
    → 0 < (get_or rs k d).size
sound-some rs k d sound within =
    (bounds_of (get_or rs k d) (all-at is_sound rs k d (sound-each rs sound) within)).1

-- ---- an alias leads to memory

own-bounded : (target size : ℕ) (rs : List Region) → list_all is_sound rs ≡ true
    → list_any (holds_own (bytes_at target size)) rs ≡ true → target + size ≤ 2 ^ 41
own-bounded target size rs sound some =
    let found = Any-from_list_any (holds_own (bytes_at target size)) rs some in
    let r = found.1 in
    let sound_r : is_sound r ≡ true =
    subst (λ (x : Region). is_sound x ≡ true) found.3
    (all-at is_sound rs found.0 r sound found.2) in
    let end = bounded r sound_r in
    let held = (both (is_real r.kind) (holds (bytes_at target size) r) found.4).1 in
    grind (arith, nat_tests)

unless-kept : (b : Bool) (fault : RegionFault) → unless b fault ≡ None → b ≡ true
unless-kept true fault is = refl
unless-kept false fault is = absurd cc

reached : (area : Span) (regions earlier : List Region) (j size offset : ℕ) (kind : Kind)
    → list_all is_sound regions ≡ true → kind_fault area regions earlier j size kind ≡ None
    → offset ≤ size → IsReached offset kind
reached area regions earlier j size offset Ram sound none within = tt
reached area regions earlier j size offset Rom sound none within = tt
reached area regions earlier j size offset (Reserved host) sound none within = tt
reached area regions earlier j size offset (Alias target) sound none within =
    let good = unless-kept (is_good_alias regions target size) _ none in
    let some = (both (target % 4096 == 0)
    (list_any (holds_own (bytes_at target size)) regions) good).1 in
    let end = own-bounded target size regions sound some in
    omega arith
reached area regions earlier j size offset (Device kind) sound none within = tt

pub accepted-reached : (regions : List Region) (k offset : ℕ) (region : Region) → Accepted regions
    → k < length regions → region ≡ get_or regions k region → offset ≤ region.size
    → IsReached offset region.kind
accepted-reached regions k offset region accepted within read inside =
    let P : Region → Type 0 = λ r. offset ≤ r.size → IsReached offset r.kind in
    subst P (sym read)
    (λ less. reached accepted.area regions (take k regions) k (get_or regions k region).size
    offset (get_or regions k region).kind (sound-each regions accepted.sound)
    (kind-kept accepted.area regions accepted.faultless k region within) less) inside

-- ---- one region more is judged

pub is-fault : (found : Option RegionFault) (fault : RegionFault) → found ≡ Some fault
    → IsFault found fault
is-fault found NoMemory is = tt
is-fault found (Overlap i j) is = is
is-fault found (BadAlias j) is = is
is-fault found (BadHost j) is = is

module _ (area : Span) (regions : List Region) (j : ℕ) where
  stepped : (d : Region) → j < length regions → fault_from area regions j (drop j regions)
      ≡ or_later (fault_of area regions (take j regions) j (get_or regions j d))
      (fault_from area regions (j + 1) (drop (j + 1) regions))
  unfolding fault_from
  stepped d within =
      let next : suc j ≡ j + 1 = omega arith in
      ap (fault_from area regions j) (drop_more regions j d within) ∙ rw next refl

  pub stepped-on : (region : Region) → j < length regions → region ≡ get_or regions j region
      → None ≡ fault_of area regions (take j regions) j region
      → fault_from area regions j (drop j regions)
      ≡ fault_from area regions (j + 1) (drop (j + 1) regions)
  stepped-on region within read none =
      let later : Fault = fault_from area regions (j + 1) (drop (j + 1) regions) in
      let P : Region → Type 0 =
      λ r. or_later (fault_of area regions (take j regions) j r) later ≡ later in
      stepped region within ∙ subst P read (ap (λ (f : Fault). or_later f later) (sym none))

  pub stepped-fault : (region : Region) (fault : RegionFault) → j < length regions → region
      ≡ get_or regions j region → Some fault ≡ fault_of area regions (take j regions) j region
      → fault_from area regions j (drop j regions) ≡ Some fault
  stepped-fault region fault within read found =
      let later : Fault = fault_from area regions (j + 1) (drop (j + 1) regions) in
      let P : Region → Type 0 =
      λ r. or_later (fault_of area regions (take j regions) j r) later ≡ Some fault in
      stepped region within ∙ subst P read (ap (λ (f : Fault). or_later f later) (sym found))

  pub stepped-all : length regions ≤ j → fault_from area regions j (drop j regions) ≡ None
  unfolding fault_from
  stepped-all past = ap (fault_from area regions j) (drop_all j regions past)

pub first-fault : (area : Span) (regions : List Region)
    → fault_from area regions 0 regions ≡ first_fault area regions
unfolding first_fault
first-fault area regions = refl
