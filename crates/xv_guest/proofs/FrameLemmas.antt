-- How often a frame stands in lists of frames.
use Rattle.std.proofs.Common.{◌≡◌, ◌≢◌, ℕ, zero, suc, ◌+◌, ◌/◌, ◌<◌, ◌≤◌, ◌==◌, cond, List, []}
use Rattle.std.proofs.Common.{◌∷◌, ◌++◌, length, get_or, take, drop, refl, sym, subst}
use Rattle.std.proofs.Common.{arith, inl, inr}
use Rattle.std.specs.List.{sum_by}
use Rattle.std.proofs.lemmas.Bool.{cases_eq, eq-eqb, ne_eqb}
use Rattle.std.proofs.lemmas.List.Sums.{sum_by-cons, sum_by-append, sum_by-take-drop}
use Rattle.std.proofs.lemmas.List.Sums.{get_or-le-sum_by}
use Rattle.xv_pool.specs.FrameList.{up_from}
use Rattle.xv_region.specs.declared.plan.Kind.{Kind}
use Rattle.xv_region.specs.declared.plan.Kind.TheVariants.{Ram, Rom, Reserved, Alias, Device}
use Rattle.xv_region.specs.declared.plan.Region.{Region}
use Rattle.xv_region.specs.Need.{own_pages, own_size}
use Rattle.xv_region.specs.Rules.{page_size}
use Rattle.xv_gstage.specs.Own.{pages, kind_frames, region_frames, kind_reserved, reserved_frames}
use Rattle.xv_guest.specs.Frames.{hits}

-- the weight of one frame
abbrev pub hit : ℕ → ℕ → ℕ
hit frame other = cond (other == frame) 1 0

pub hit_same : (frame : ℕ) → hit frame frame ≡ 1
hit_same frame = rw (eq-eqb frame frame refl) refl

pub hit_other : (frame other : ℕ) → other ≢ frame → hit frame other ≡ 0
hit_other frame other apart = rw (ne_eqb other frame apart) refl

pub hits-cons : (frame x : ℕ) (xs : List ℕ) → hits frame (x ∷ xs) ≡ hit frame x + hits frame xs
hits-cons frame x xs = sum_by-cons (hit frame) x xs

pub hits-first : (frame : ℕ) (xs : List ℕ) → hits frame (frame ∷ xs) ≡ suc (hits frame xs)
hits-first frame xs =
    let parts = hits-cons frame frame xs in
    let here = hit_same frame in
    omega arith

pub hits-later : (frame x : ℕ) (xs : List ℕ) → hits frame xs ≤ hits frame (x ∷ xs)
hits-later frame x xs = let parts = hits-cons frame x xs in omega arith

pub hits-append : (frame : ℕ) (xs ys : List ℕ)
    → hits frame (xs ++ ys) ≡ hits frame xs + hits frame ys
hits-append frame xs ys = sum_by-append (hit frame) xs ys

pub hits-take-drop : (frame n : ℕ) (xs : List ℕ)
    → hits frame (take n xs) + hits frame (drop n xs) ≡ hits frame xs
hits-take-drop frame n xs = sum_by-take-drop (hit frame) xs n

-- what stands at a place of the list is hit
pub hits-get_or : (xs : List ℕ) (k d : ℕ) → k < length xs → 0 < hits (get_or xs k d) xs
hits-get_or xs k d within =
    let here = hit_same (get_or xs k d) in
    let le = get_or-le-sum_by (hit (get_or xs k d)) xs k d within in
    omega arith

pub hits-up_from_below : (frame first n : ℕ) → frame < first → hits frame (up_from first n) ≡ 0
unfolding up_from
hits-up_from_below frame first zero below = refl
hits-up_from_below frame first (suc n) below =
    let rest = hits-up_from_below frame (suc first) n (omega arith) in
    let parts = hits-cons frame first (up_from (suc first) n) in
    let here = hit_other frame first (omega arith) in
    omega arith

pub hits-up_from_above : (frame first n : ℕ) → first + n ≤ frame → hits frame (up_from first n) ≡ 0
unfolding up_from
hits-up_from_above frame first zero above = refl
hits-up_from_above frame first (suc n) above =
    let rest = hits-up_from_above frame (suc first) n (omega arith) in
    let parts = hits-cons frame first (up_from (suc first) n) in
    let here = hit_other frame first (omega arith) in
    omega arith

pub hits-up_from_inside : (frame first n : ℕ) → first ≤ frame → frame < first + n
    → hits frame (up_from first n) ≡ 1
unfolding up_from
hits-up_from_inside frame first zero low high = absurd (omega arith)
hits-up_from_inside frame first (suc n) low high =
    let parts = hits-cons frame first (up_from (suc first) n) in
    elim (cases_eq first frame) [
      | inl same ↦
          (let rest = hits-up_from_below frame (suc first) n (omega arith) in
          let here : hit frame first ≡ 1 =
          subst (λ (x : ℕ). hit frame x ≡ 1) (sym same) (hit_same frame) in
          omega arith)
      | inr apart ↦
          (let rest = hits-up_from_inside frame (suc first) n (omega arith) (omega arith) in
          let here = hit_other frame first apart in
          omega arith)
    ]

-- ---- the frames under regions

-- a region's frames are the first ones of the list, or its reserved ones
pub region-hits : (frame size : ℕ) (kind : Kind) (frames : List ℕ)
    → hits frame (kind_frames kind (size / page_size) frames)
    + hits frame (drop (own_size size kind / page_size) frames)
    ≡ hits frame frames + hits frame (kind_reserved kind (size / page_size))
region-hits frame size Ram frames =
    let parts = hits-take-drop frame (size / page_size) frames in omega arith
region-hits frame size Rom frames =
    let parts = hits-take-drop frame (size / page_size) frames in omega arith
region-hits frame size (Reserved host) frames = omega arith
region-hits frame size (Alias target) frames = omega arith
region-hits frame size (Device kind) frames = omega arith

-- so those of all regions are among the list and the reserved ones, and none is used twice
pub regions-hits : (frame : ℕ) (rs : List Region) (frames : List ℕ)
    → sum_by (hits frame) (region_frames rs frames)
    ≤ hits frame frames + hits frame (reserved_frames rs)
unfolding region_frames reserved_frames
regions-hits frame [] frames = omega arith
regions-hits frame (r ∷ rs) frames =
    let rest = regions-hits frame rs (drop (own_pages r) frames) in
    let here = region-hits frame r.size r.kind frames in
    let reserved = hits-append frame (kind_reserved r.kind (pages r)) (reserved_frames rs) in
    let parts = sum_by-cons (hits frame) (kind_frames r.kind (pages r) frames)
    (region_frames rs (drop (own_pages r) frames)) in
    omega arith
