-- What sums over the places of a host tell of one frame: at most one guest holds it, and none where
-- it is free.
use Rattle.std.proofs.Common.{◌≡◌, ◌≢◌, ℕ, zero, suc, ◌+◌, ◌*◌, ◌/◌, ◌<◌, ◌≤◌, cond, List, []}
use Rattle.std.proofs.Common.{◌∷◌, length, refl, sym, ap, ◌∙◌, arith, inl, inr}
use Rattle.std.proofs.Common.{Option, Some, None, Bool, true, false}
use Rattle.std.specs.List.{sum_by, All}
use Rattle.std.proofs.Common.{◌&&◌, ◌||◌, ◌++◌, leb, ltb, set, max, min}
use Rattle.std.specs.List.{list_any}
use Rattle.std.proofs.lemmas.Bool.{cases_lt, and_parts, leb-true, ltb-true, le-leb, lt-ltb}
use Rattle.std.proofs.lemmas.Bool.{lt-leb, le-ltb}
use Rattle.std.proofs.lemmas.List.Elements.{All-nil, All-cons, All-tail}
use Rattle.std.proofs.lemmas.List.{length-set, get_or-set_other}
use Rattle.std.proofs.lemmas.List.Sums.{sum_by-cons, sum_by-set, sum_by-append, get_or-le-sum_by}
use Rattle.xv_base.specs.declared.keys.Span.{Span}
use Rattle.xv_base.specs.Range.{has_address, range_end, LiesIn, meets, meets_one}
use Rattle.xv_guest.specs.Frames.{hits, root_frames}
use Rattle.xv_gstage.specs.Own.{reserved_frames, kind_reserved, pages}
use Rattle.xv_guest.specs.Guest.{Guest, root_or_none}
use Rattle.xv_guest.specs.Frames.{kind_ranges, reserved_ranges}
use Rattle.xv_guest.specs.Held.{Held, holds}
use Rattle.xv_guest.proofs.FrameLemmas.{hit, hits-up_from_below, hits-up_from_above}
use Rattle.xv_guest.proofs.FrameLemmas.{hits-up_from_inside, hits-append}
use Rattle.xv_region.specs.Cell.{bytes_at}
use Rattle.xv_region.specs.declared.plan.Kind.{Kind}
use Rattle.xv_region.specs.declared.plan.Kind.TheVariants.{Ram, Rom, Reserved, Alias, Device}
use Rattle.xv_region.specs.declared.plan.Region.{Region}
use Rattle.xv_pool.specs.FrameList.{up_from}
use Rattle.xv_host.proofs.RangePages.{HasPages}
use Rattle.xv_host.specs.Places.{Places, guest_at, amount_at, amount_of}

-- ---- the three parts of what is held

abbrev pub root_amount : ℕ → Held → ℕ
root_amount frame h = hits frame (root_frames h.root)

abbrev pub listed_amount : ℕ → Held → ℕ
listed_amount frame h = sum_by (hit frame) h.frames

abbrev pub range_amount : ℕ → Held → ℕ
range_amount frame h = hits frame (reserved_frames h.regions)

part_amounts : (frame : ℕ) (place : Option Guest) → amount_at (holds frame) place
    ≡ amount_at (root_amount frame) place + amount_at (listed_amount frame) place
    + amount_at (range_amount frame) place
part_amounts frame None = refl
part_amounts frame (Some g) = refl

pub amounts : (frame : ℕ) (places : Places) → amount_of (holds frame) places
    ≡ amount_of (root_amount frame) places + amount_of (listed_amount frame) places
    + amount_of (range_amount frame) places
amounts frame [] = refl
amounts frame (place ∷ places) =
    let here = part_amounts frame place in
    let rest = amounts frame places in
    let whole = sum_by-cons (amount_at (holds frame)) place places in
    let roots = sum_by-cons (amount_at (root_amount frame)) place places in
    let listed = sum_by-cons (amount_at (listed_amount frame)) place places in
    let ranges = sum_by-cons (amount_at (range_amount frame)) place places in
    omega arith

-- ---- roots

pub hits_once : (frame first n : ℕ) → hits frame (up_from first n) ≤ 1
hits_once frame first n = elim (cases_lt frame first) [
  | inl below ↦ (let none = hits-up_from_below frame first n below in omega arith)
  | inr from ↦ elim (cases_lt frame (first + n)) [
    | inl inside ↦ (let one = hits-up_from_inside frame first n from inside in omega arith)
    | inr above ↦ (let none = hits-up_from_above frame first n above in omega arith)
  ]
]

-- the guests of these places, the first of which has number i, have the roots of their places
abbrev pub HaveRoots : ℕ → Places → Type 0
HaveRoots i places = (j : ℕ) (g : Guest) → guest_at places j ≡ Some g → g.root ≡ Some (i + j)

later_roots : (i : ℕ) (place : Option Guest) (places : Places) → HaveRoots i (place ∷ places)
    → HaveRoots (suc i) places
later_roots i place places have j g is =
    have (suc j) g is ∙ ap Some (omega arith)

root_bound : (frame i : ℕ) (place : Option Guest)
    → ((g : Guest) → place ≡ Some g → g.root ≡ Some i)
    → (amount_at (root_amount frame) place ≤ hits frame (root_frames i))
root_bound frame i None is = omega arith
root_bound frame i (Some g) is =
    let same : amount_at (root_amount frame) (Some g) ≡ hits frame (root_frames i) =
    ap (λ root. hits frame (root_frames (root_or_none root))) (is g refl) in
    omega arith

pub root_below : (frame i : ℕ) (places : Places) → HaveRoots i places → frame < 4 * i
    → amount_of (root_amount frame) places ≡ 0
root_below frame i [] have below = refl
root_below frame i (place ∷ places) have below =
    let parts = sum_by-cons (amount_at (root_amount frame)) place places in
    let here = root_bound frame i place
    (λ g is. have 0 g is ∙ ap Some (omega arith)) in
    let none = hits-up_from_below frame (4 * i) 4 below in
    let rest = root_below frame (suc i) places (later_roots i place places have) (omega arith) in
    omega arith

pub root_once : (frame i : ℕ) (places : Places) → HaveRoots i places
    → amount_of (root_amount frame) places ≤ 1
root_once frame i [] have = omega arith
root_once frame i (place ∷ places) have =
    let parts = sum_by-cons (amount_at (root_amount frame)) place places in
    let here = root_bound frame i place
    (λ g is. have 0 g is ∙ ap Some (omega arith)) in
    elim (cases_lt frame (4 * i + 4)) [
      | inl first ↦
          (let rest = root_below frame (suc i) places (later_roots i place places have)
          (omega arith) in
          let most = hits_once frame (4 * i) 4 in
          omega arith)
      | inr later ↦
          (let rest = root_once frame (suc i) places (later_roots i place places have) in
          let none = hits-up_from_above frame (4 * i) 4 later in
          omega arith)
    ]

pub root_above : (frame i : ℕ) (places : Places) → HaveRoots i places
    → 4 * (i + length places) ≤ frame → amount_of (root_amount frame) places ≡ 0
root_above frame i [] have above = refl
root_above frame i (place ∷ places) have above =
    let parts = sum_by-cons (amount_at (root_amount frame)) place places in
    let here = root_bound frame i place (λ g is. have 0 g is ∙ ap Some (omega arith)) in
    let none = hits-up_from_above frame (4 * i) 4 (omega arith) in
    let rest = root_above frame (suc i) places (later_roots i place places have) (omega arith) in
    omega arith

-- ---- ranges

-- whether a frame's first byte lies in the range
abbrev pub in_range : ℕ → Span → ℕ
in_range frame range = cond (has_address (4096 * frame) range) 1 0

tests_of : (frame : ℕ) (range : Span) (from to : Bool) → leb range.start (4096 * frame) ≡ from
    → ltb (4096 * frame) (range_end range) ≡ to → in_range frame range ≡ cond (from && to) 1 0
tests_of frame range from to one two = rw (one, two) refl

range_one : (frame host size : ℕ) → HasPages (bytes_at host size)
    → hits frame (up_from (host / 4096) (size / 4096)) ≡ in_range frame (bytes_at host size)
range_one frame host size pages =
    let first = host / 4096 in
    let n = size / 4096 in
    elim (cases_lt frame (host / 4096)) [
      | inl below ↦
          (let tests = tests_of frame (bytes_at host size) false (ltb (4096 * frame) (host + size))
          (lt-leb host (4096 * frame) (omega (arith, pages.start))) refl in
          let none = hits-up_from_below frame first n below in
          none ∙ sym tests)
      | inr from ↦ elim (cases_lt frame (host / 4096 + size / 4096)) [
        | inl inside ↦
            (let tests = tests_of frame (bytes_at host size) true true
            (le-leb host (4096 * frame) (omega (arith, pages.start)))
            (lt-ltb (4096 * frame) (host + size) (omega (arith, pages.start, pages.len))) in
            let one = hits-up_from_inside frame first n from inside in
            one ∙ sym tests)
        | inr above ↦
            (let tests = tests_of frame (bytes_at host size) true false
            (le-leb host (4096 * frame) (omega (arith, pages.start)))
            (le-ltb (4096 * frame) (host + size) (omega (arith, pages.start, pages.len))) in
            let none = hits-up_from_above frame first n above in
            none ∙ sym tests)
      ]
    ]

kind_ranges_are : (frame size : ℕ) (kind : Kind) → All HasPages (kind_ranges kind size)
    → hits frame (kind_reserved kind (size / 4096)) ≡ sum_by (in_range frame)
    (kind_ranges kind size)
kind_ranges_are frame size Ram whole = refl
kind_ranges_are frame size Rom whole = refl
kind_ranges_are frame size (Reserved host) whole =
    let one = range_one frame host size (whole 0 (bytes_at host size) (omega arith)) in
    let sum = sum_by-cons (in_range frame) (bytes_at host size) [] in
    omega arith
kind_ranges_are frame size (Alias target) whole = refl
kind_ranges_are frame size (Device kind) whole = refl

all_first : (P : Span → Type 0) (x : Span) (xs : List Span) → All P (x ∷ xs) → P x
all_first P x xs all = all 0 x (omega arith)

all_parts : (xs ys : List Span) → All HasPages (xs ++ ys) → All HasPages xs × All HasPages ys
all_parts [] ys all = (All-nil HasPages, all)
all_parts (x ∷ xs) ys all =
    let rest = all_parts xs ys (All-tail HasPages x (xs ++ ys) all) in
    (All-cons HasPages x xs (all_first HasPages x (xs ++ ys) all) rest.0, rest.1)

pub ranges_are : (frame : ℕ) (regions : List Region) → All HasPages (reserved_ranges regions)
    → hits frame (reserved_frames regions) ≡ sum_by (in_range frame) (reserved_ranges regions)
unfolding reserved_frames reserved_ranges
ranges_are frame [] whole = refl
ranges_are frame (r ∷ rs) whole =
    let both = all_parts (kind_ranges r.kind r.size) (reserved_ranges rs) whole in
    let left = hits-append frame (kind_reserved r.kind (pages r)) (reserved_frames rs) in
    let right = sum_by-append (in_range frame) (kind_ranges r.kind r.size) (reserved_ranges rs) in
    let here = kind_ranges_are frame r.size r.kind both.0 in
    let rest = ranges_are frame rs both.1 in
    omega arith

-- the guests of these places have ranges of whole pages
abbrev pub HavePages : Places → Type 0
HavePages places = (j : ℕ) (g : Guest) → guest_at places j ≡ Some g
    → All HasPages (reserved_ranges g.plan.regions)

abbrev pub range_sum : ℕ → Held → ℕ
range_sum frame h = sum_by (in_range frame) (reserved_ranges h.regions)

range_at : (frame : ℕ) (place : Option Guest)
    → ((g : Guest) → place ≡ Some g → All HasPages (reserved_ranges g.plan.regions))
    → amount_at (range_amount frame) place ≡ amount_at (range_sum frame) place
range_at frame None pages = refl
range_at frame (Some g) pages = ranges_are frame g.plan.regions (pages g refl)

pub range_amounts : (frame : ℕ) (places : Places) → HavePages places
    → amount_of (range_amount frame) places ≡ amount_of (range_sum frame) places
range_amounts frame [] pages = refl
range_amounts frame (place ∷ places) pages =
    let left = sum_by-cons (amount_at (range_amount frame)) place places in
    let right = sum_by-cons (amount_at (range_sum frame)) place places in
    let here = range_at frame place (λ g is. pages 0 g is) in
    let rest = range_amounts frame places (λ j g is. pages (suc j) g is) in
    omega arith

in_area : (frame : ℕ) (range area : Span) → LiesIn range area → 0 < in_range frame range
    → (area.start ≤ 4096 * frame) × (4096 * frame < range_end area)
in_area frame range area lies some =
    let has : has_address (4096 * frame) range ≡ true = counted (has_address (4096 * frame) range)
    some in
    let parts = and_parts (leb range.start (4096 * frame)) (ltb (4096 * frame) (range_end range))
    has in
    let low = leb-true range.start (4096 * frame) parts.0 in
    let high = ltb-true (4096 * frame) (range_end range) parts.1 in
    let outer = and_parts (leb area.start range.start) (leb (range_end range) (range_end area)) lies
    in
    let first = leb-true area.start range.start outer.0 in
    let last = leb-true (range_end range) (range_end area) outer.1 in
    (omega arith, omega arith)
  where
    counted : (b : Bool) → 0 < cond b 1 0 → b ≡ true
    counted true some = refl
    counted false some = absurd (omega arith)

pub range_in_area : (frame : ℕ) (ranges : List Span) (area : Span)
    → All (λ range. LiesIn range area) ranges → 0 < sum_by (in_range frame) ranges
    → (area.start ≤ 4096 * frame) × (4096 * frame < range_end area)
range_in_area frame [] area lie some = absurd (omega arith)
range_in_area frame (range ∷ ranges) area lie some =
    let parts = sum_by-cons (in_range frame) range ranges in
    elim (cases_lt 0 (in_range frame range)) [
      | inl here ↦ in_area frame range area (all_first (λ r. LiesIn r area) range ranges lie) here
      | inr none ↦ range_in_area frame ranges area
          (All-tail (λ r. LiesIn r area) range ranges lie) (omega arith)
    ]

-- ---- two places

pub two_places : (amount : Held → ℕ) (places : Places) (j k : ℕ) → j ≢ k → j < length places
    → k < length places
    → amount_at amount (guest_at places j) + amount_at amount (guest_at places k)
    ≤ amount_of amount places
two_places amount places j k apart within last =
    let without = set places k None in
    let moved = sum_by-set (amount_at amount) places k None None last in
    let rest : j < length without = rw (length-set places k None) within in
    let bound = get_or-le-sum_by (amount_at amount) without j None rest in
    let same = ap (amount_at amount) (get_or-set_other places k j None None apart) in
    omega arith

-- ---- a root whose guest isn't there

pub root_at_none : (frame i : ℕ) (places : Places) → HaveRoots i places → (k : ℕ)
    → guest_at places k ≡ None → frame / 4 ≡ i + k → amount_of (root_amount frame) places ≡ 0
root_at_none frame i [] have k none is = refl
root_at_none frame i (place ∷ places) have zero none is =
    let parts = sum_by-cons (amount_at (root_amount frame)) place places in
    let here : amount_at (root_amount frame) place ≡ 0 = ap (amount_at (root_amount frame)) none in
    let rest = root_below frame (suc i) places (later_roots i place places have)
    (omega (arith, is)) in
    omega arith
root_at_none frame i (place ∷ places) have (suc k) none is =
    let parts = sum_by-cons (amount_at (root_amount frame)) place places in
    let here = root_bound frame i place (λ g at. have 0 g at ∙ ap Some (omega arith)) in
    let past = hits-up_from_above frame (4 * i) 4 (omega (arith, is)) in
    let rest = root_at_none frame (suc i) places (later_roots i place places have) k none
    (omega (arith, is)) in
    omega arith

-- ---- ranges that share no byte

has_one : (frame : ℕ) (range : Span) → 0 < in_range frame range
    → has_address (4096 * frame) range ≡ true
has_one frame range some = go (has_address (4096 * frame) range) some
  where
    go : (b : Bool) → 0 < cond b 1 0 → b ≡ true
    go true some = refl
    go false some = absurd (omega arith)

bounds_of : (frame : ℕ) (range : Span) → 0 < in_range frame range
    → (range.start ≤ 4096 * frame) × (4096 * frame < range_end range)
bounds_of frame range some =
    let parts = and_parts (leb range.start (4096 * frame)) (ltb (4096 * frame) (range_end range))
    (has_one frame range some) in
    (leb-true range.start (4096 * frame) parts.0, ltb-true (4096 * frame) (range_end range) parts.1)

both_meet : (frame : ℕ) (a b : Span) → 0 < in_range frame a → 0 < in_range frame b
    → meets a b ≡ true
both_meet frame a b one two =
    let x = bounds_of frame a one in
    let y = bounds_of frame b two in
    lt-ltb (max a.start b.start) (min (range_end a) (range_end b))
    (omega (arith, x.0, x.1, y.0, y.1))

neither : (a b : Bool) → (a || b) ≡ false → (a ≡ false) × (b ≡ false)
neither true b is = cc
neither false b is = (refl, is)

none_meets : (frame : ℕ) (range : Span) (held : List Span) → 0 < in_range frame range
    → list_any (meets range) held ≡ false → sum_by (in_range frame) held ≡ 0
none_meets frame range [] some none = refl
none_meets frame range (h ∷ held) some none =
    let parts = neither (meets range h) (list_any (meets range) held) none in
    let sum = sum_by-cons (in_range frame) h held in
    let rest = none_meets frame range held some parts.1 in
    elim (cases_lt 0 (in_range frame h)) [
      | inl has ↦ absurd (clash (meets range h) parts.0 (both_meet frame range h some has))
      | inr misses ↦ omega arith
    ]
  where
    clash : (b : Bool) → b ≡ false → b ≡ true → ⊥
    clash true is_not is = cc
    clash false is_not is = cc

pub none_has : (frame : ℕ) (held ranges : List Span) → list_any (meets_one held) ranges ≡ false
    → 0 < sum_by (in_range frame) ranges → sum_by (in_range frame) held ≡ 0
none_has frame held [] apart some = absurd (omega arith)
none_has frame held (range ∷ ranges) apart some =
    let parts = neither (meets_one held range) (list_any (meets_one held) ranges) apart in
    let sum = sum_by-cons (in_range frame) range ranges in
    elim (cases_lt 0 (in_range frame range)) [
      | inl has ↦ none_meets frame range held has parts.0
      | inr none ↦ none_has frame held ranges parts.1 (omega arith)
    ]

-- a frame of a range of whole pages ends in the range
pub frame_fits : (frame : ℕ) (ranges : List Span) (area : Span)
    → All (λ range. LiesIn range area) ranges → All HasPages ranges
    → 0 < sum_by (in_range frame) ranges → 4096 * frame + 4096 ≤ range_end area
frame_fits frame [] area lie pages some = absurd (omega arith)
frame_fits frame (range ∷ ranges) area lie pages some =
    let sum = sum_by-cons (in_range frame) range ranges in
    elim (cases_lt 0 (in_range frame range)) [
      | inl has ↦
          (let at = bounds_of frame range has in
          let whole = all_first HasPages range ranges pages in
          let outer = and_parts (leb area.start range.start)
          (leb (range_end range) (range_end area))
          (all_first (λ r. LiesIn r area) range ranges lie) in
          let last = leb-true (range_end range) (range_end area) outer.1 in
          omega (arith, at.0, at.1, whole.start, whole.len))
      | inr none ↦ frame_fits frame ranges area (All-tail (λ r. LiesIn r area) range ranges lie)
          (All-tail HasPages range ranges pages) (omega arith)
    ]
