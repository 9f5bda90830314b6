-- The reserved ranges of regions that may stand together: whole pages, and few.
use Rattle.std.proofs.Common.{◌≡◌, ℕ, zero, suc, ◌+◌, ◌%◌, ◌≤◌, ◌<◌, ◌==◌, ◌&&◌, Bool, true, false}
use Rattle.std.proofs.Common.{List, [], ◌∷◌, length, get_or, take, ltb, leb, refl}
use Rattle.std.proofs.Common.{arith, None, IsTrue}
use Rattle.std.specs.List.{All}
use Rattle.std.proofs.lemmas.Bool.Decides.{nat_tests}
use Rattle.std.proofs.lemmas.List.{length-append}
use Rattle.std.proofs.lemmas.List.Elements.{All-nil, All-append}
use Rattle.xv_base.specs.declared.keys.Span.{Span}
use Rattle.xv_base.specs.Range.{LiesIn, lies_in}
use Rattle.xv_region.specs.declared.fault.RegionFault.{RegionFault}
use Rattle.xv_region.specs.declared.fault.RegionFault.TheVariants.{BadHost}
use Rattle.xv_region.specs.declared.plan.Kind.{Kind}
use Rattle.xv_region.specs.declared.plan.Kind.TheVariants.{Ram, Rom, Reserved, Alias, Device}
use Rattle.xv_region.specs.declared.plan.Region.{Region}
use Rattle.xv_region.specs.Cell.{bytes_at}
use Rattle.xv_region.specs.Rules.{Accepted, is_good_host, is_sound, is_sound_kind, kind_fault}
use Rattle.xv_region.specs.Rules.{unit_of}
use Rattle.xv_region.specs.Rules.{unless, address_end, first_fault}
use Rattle.xv_region.proofs.RuleLemmas.{all-at, both, kind-kept, sound-each, sound-length}
use Rattle.xv_guest.specs.Frames.{kind_ranges, ranges_of, reserved_ranges}

-- a range of whole pages
pub record HasPages (range : Span) : Type 0 where
  pub start : range.start % 4096 ≡ 0
  pub len : range.len % 4096 ≡ 0

zero_of : (n : ℕ) → (n == 0) ≡ true → n ≡ 0
zero_of n is = grind (arith, nat_tests)

kept : (b : Bool) (fault : RegionFault) → unless b fault ≡ None → b ≡ true
kept true fault none = refl
kept false fault none = cc

one_whole : (area : Span) (regions earlier : List Region) (j size : ℕ) (kind : Kind)
    → kind_fault area regions earlier j size kind ≡ None → (size % unit_of kind == 0) ≡ true
    → All HasPages (kind_ranges kind size)
one_whole area regions earlier j size Ram none whole = All-nil HasPages
one_whole area regions earlier j size Rom none whole = All-nil HasPages
one_whole area regions earlier j size (Reserved host) none whole =
    let good = kept (is_good_host area earlier host size) (BadHost j) none in
    let start = zero_of (host % 4096) (both (host % 4096 == 0) _ good).0 in
    let len = zero_of (size % 4096) whole in
    λ k d inside. first k d (omega arith) (record { start = start; len = len })
  where
    first : (k : ℕ) (d : Span) → k < 1 → HasPages (bytes_at host size)
        → HasPages (get_or (bytes_at host size ∷ []) k d)
    first zero d less is = is
    first (suc k) d less is = absurd (omega arith)
one_whole area regions earlier j size (Alias target) none whole = All-nil HasPages
one_whole area regions earlier j size (Device kind) none whole = All-nil HasPages

all_whole : (rs : List Region)
    → ((k : ℕ) (d : Region) → k < length rs → All HasPages (ranges_of (get_or rs k d)))
    → All HasPages (reserved_ranges rs)
unfolding reserved_ranges
all_whole [] each = All-nil HasPages
all_whole (r ∷ rs) each =
    All-append HasPages (ranges_of r) (reserved_ranges rs) (each 0 r (omega arith))
    (all_whole rs (λ k d inside. each (suc k) d (omega arith)))

pub ranges_whole : (regions : List Region) → Accepted regions → All HasPages
    (reserved_ranges regions)
ranges_whole regions accepted = all_whole regions (λ k d within.
    let r = get_or regions k d in
    let sound = all-at is_sound regions k d (sound-each regions accepted.sound) within in
    let most = both ((r.base % unit_of r.kind == 0 && r.size % unit_of r.kind == 0)
    && (ltb 0 r.size && leb (r.base + r.size) address_end)) (is_sound_kind r.kind) sound in
    let parts = both (r.base % unit_of r.kind == 0 && r.size % unit_of r.kind == 0)
    (ltb 0 r.size && leb (r.base + r.size) address_end) most.0 in
    let bounds = both (r.base % unit_of r.kind == 0) (r.size % unit_of r.kind == 0) parts.0 in
    one_whole accepted.area regions (take k regions) k r.size r.kind
    (kind-kept accepted.area regions accepted.faultless k d within) bounds.1)

-- ---- how many there are

one_few : (kind : Kind) (size : ℕ) → length (kind_ranges kind size) ≤ 1
one_few Ram size = omega arith
one_few Rom size = omega arith
one_few (Reserved host) size = omega arith
one_few (Alias target) size = omega arith
one_few (Device kind) size = omega arith

all_few : (rs : List Region) → length (reserved_ranges rs) ≤ length rs
unfolding reserved_ranges
all_few [] = omega arith
all_few (r ∷ rs) =
    let both = length-append (ranges_of r) (reserved_ranges rs) in
    let here = one_few r.kind r.size in
    let rest = all_few rs in
    omega arith

pub ranges_few : (regions : List Region) → Accepted regions → length (reserved_ranges regions) ≤ 32
ranges_few regions accepted =
    let some = all_few regions in
    let few = sound-length regions accepted.sound in
    omega arith

-- ---- where they lie

one_inside : (area : Span) (regions earlier : List Region) (j size : ℕ) (kind : Kind)
    → kind_fault area regions earlier j size kind ≡ None
    → All (λ range. LiesIn range area) (kind_ranges kind size)
one_inside area regions earlier j size Ram none = All-nil (λ range. LiesIn range area)
one_inside area regions earlier j size Rom none = All-nil (λ range. LiesIn range area)
one_inside area regions earlier j size (Reserved host) none =
    let good = kept (is_good_host area earlier host size) (BadHost j) none in
    let rest = (both (host % 4096 == 0) _ good).1 in
    let lies = (both (lies_in (bytes_at host size) area) _ rest).0 in
    λ k d inside. first k d (omega arith) (is_true (lies_in (bytes_at host size) area) lies)
  where
    is_true : (b : Bool) → b ≡ true → IsTrue b
    is_true true is = refl
    is_true false is = cc

    first : (k : ℕ) (d : Span) → k < 1 → LiesIn (bytes_at host size) area
        → LiesIn (get_or (bytes_at host size ∷ []) k d) area
    first zero d less is = is
    first (suc k) d less is = absurd (omega arith)
one_inside area regions earlier j size (Alias target) none = All-nil (λ range. LiesIn range area)
one_inside area regions earlier j size (Device kind) none = All-nil (λ range. LiesIn range area)

all_inside : (area : Span) (rs : List Region)
    → ((k : ℕ) (d : Region) → k < length rs → All (λ range. LiesIn range area)
    (ranges_of (get_or rs k d))) → All (λ range. LiesIn range area) (reserved_ranges rs)
unfolding reserved_ranges
all_inside area [] each = All-nil (λ range. LiesIn range area)
all_inside area (r ∷ rs) each =
    All-append (λ range. LiesIn range area) (ranges_of r) (reserved_ranges rs)
    (each 0 r (omega arith))
    (all_inside area rs (λ k d inside. each (suc k) d (omega arith)))

pub ranges_inside : (area : Span) (regions : List Region) → first_fault area regions ≡ None
    → All (λ range. LiesIn range area) (reserved_ranges regions)
ranges_inside area regions faultless = all_inside area regions (λ k d within.
    let r = get_or regions k d in
    one_inside area regions (take k regions) k r.size r.kind
    (kind-kept area regions faultless k d within))
