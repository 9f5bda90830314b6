-- Frames of regions: which lists they stand in, and that a page of memory has one.
use Rattle.std.proofs.Common.{◌≡◌, ℕ, zero, suc, ◌+◌, ◌/◌, ◌<◌, ◌≤◌}
use Rattle.std.proofs.Common.{List, [], ◌∷◌, length, get_or}
use Rattle.std.proofs.Common.{take, drop, Option, Some, None, refl, sym, ap, ◌∙◌, subst, arith}
use Rattle.std.proofs.Common.{inl, inr, ◌⊎◌, length-take, length-drop}
use Rattle.std.specs.Prelude.{slice_get}
use Rattle.std.specs.List.{Contains}
use Rattle.std.proofs.lemmas.List.{drop_all, get_or-take, get_or-drop}
use Rattle.std.proofs.lemmas.List.Elements.{Contains-append_left, Contains-append_right}
use Rattle.std.proofs.lemmas.List.Sums.{sum_by-cons, sum_by_more_le}
use Rattle.std.proofs.lemmas.Option.{slice_get_past}
use Rattle.std.proofs.lemmas.Option.{slice_get-get_or}
use Rattle.xv_pool.specs.FrameList.{up_from}
use Rattle.xv_region.specs.declared.plan.Kind.{Kind}
use Rattle.xv_region.specs.declared.plan.Kind.TheVariants.{Ram, Rom, Reserved, Alias, Device}
use Rattle.xv_region.specs.declared.plan.Region.{Region}
use Rattle.xv_region.specs.Need.{own_pages, own_size}
use Rattle.xv_gstage.specs.Own.{frame_at, frame_of, kind_frames, kind_reserved, page_frames, pages}
use Rattle.xv_gstage.specs.Own.{pages_of, region_frames, reserved_frames}
use Rattle.xv_gstage.proofs.Lists.{from-get, in-take, to-take}

-- ---- numbers in a row

pub length-up : (first n : ℕ) → length (up_from first n) ≡ n
unfolding up_from
length-up first zero = refl
length-up first (suc n) = ap suc (length-up (suc first) n)

pub up-get : (first n i : ℕ) → i < n → slice_get (up_from first n) i ≡ Some (first + i)
unfolding up_from
up-get first zero i lt = absurd (omega arith)
up-get first (suc n) zero lt = ap (λ (k : ℕ). Some k) plus
  where
    plus : first ≡ first + 0
    plus = omega arith
up-get first (suc n) (suc i) lt =
    up-get (suc first) n i (omega arith) ∙ ap (λ (k : ℕ). Some k) plus
  where
    plus : suc first + i ≡ first + suc i
    plus = omega arith

drop_drop : (m n : ℕ) (xs : List ℕ) → drop n (drop m xs) ≡ drop (m + n) xs
drop_drop zero n xs =
    let e : n ≡ 0 + n = omega arith in ap (λ k. drop k xs) e
drop_drop (suc m) n [] =
    drop_all n [] (omega arith) ∙ sym (drop_all (suc m + n) [] (omega arith))
drop_drop (suc m) n (x ∷ xs) =
    let e : suc (m + n) ≡ suc m + n = omega arith in
    drop_drop m n xs ∙ ap (λ k. drop k (x ∷ xs)) e

-- ---- the frames of a region

pub frames-at : (regions : List Region) (fs : List ℕ) (n : ℕ) (d : Region) → n < length regions
    → slice_get (region_frames regions fs) n
    ≡ Some (kind_frames (get_or regions n d).kind (pages (get_or regions n d))
    (drop (pages_of (take n regions)) fs))
unfolding region_frames
frames-at [] fs n d lt = absurd (omega arith)
frames-at (r ∷ rs) fs zero d lt = refl
frames-at (r ∷ rs) fs (suc n) d lt =
    let at = get_or rs n d in
    let sum : own_pages r + pages_of (take n rs) ≡ pages_of (r ∷ take n rs) =
    sym (sum_by-cons own_pages r (take n rs)) in
    frames-at rs (drop (own_pages r) fs) n d (omega arith)
    ∙ ap (λ (xs : List ℕ). Some (kind_frames at.kind (pages at) xs))
    (drop_drop (own_pages r) (pages_of (take n rs)) fs
    ∙ ap (λ (k : ℕ). drop k fs) sum)

pub length_frames : (regions : List Region) (fs : List ℕ)
    → length (region_frames regions fs) ≡ length regions
unfolding region_frames
length_frames [] fs = refl
length_frames (r ∷ rs) fs = ap suc (length_frames rs (drop (own_pages r) fs))

pub frame-past : (regions : List Region) (fs : List ℕ) (n i : ℕ) → length regions ≤ n
    → frame_of regions fs n i ≡ None
unfolding frame_of
frame-past regions fs n i le =
    let long = length_frames regions fs in
    ap (λ (o : Option (List ℕ)). frame_at o i)
    (slice_get_past (region_frames regions fs) n (omega arith))

pub frame-in : (regions : List Region) (fs : List ℕ) (n i : ℕ) (d : Region) → n < length regions
    → frame_of regions fs n i
    ≡ slice_get (kind_frames (get_or regions n d).kind (pages (get_or regions n d))
    (drop (pages_of (take n regions)) fs)) i
unfolding frame_of
frame-in regions fs n i d lt =
    ap (λ (o : Option (List ℕ)). frame_at o i) (frames-at regions fs n d lt)

-- ---- where the frames stand

own_kind : (kind : Kind) (size more : ℕ) (fs : List ℕ) (i f : ℕ)
    → slice_get (kind_frames kind (size / 4096) fs) i ≡ Some f
    → Contains (take (own_size size kind / 4096 + more) fs) f
    ⊎ Contains (kind_reserved kind (size / 4096)) f
own_kind Ram size more fs i f e = inl (front (size / 4096) more fs i f e)
  where
    front : (n more : ℕ) (fs : List ℕ) (i f : ℕ) → slice_get (take n fs) i ≡ Some f
        → Contains (take (n + more) fs) f
    front n more fs i f e =
        let at = in-take n fs f (from-get (take n fs) i f e) in
        let low = at.1 in
        to-take (n + more) fs f at.0 (omega arith) at.2
own_kind Rom size more fs i f e = inl (front (size / 4096) more fs i f e)
  where
    front : (n more : ℕ) (fs : List ℕ) (i f : ℕ) → slice_get (take n fs) i ≡ Some f
        → Contains (take (n + more) fs) f
    front n more fs i f e =
        let at = in-take n fs f (from-get (take n fs) i f e) in
        let low = at.1 in
        to-take (n + more) fs f at.0 (omega arith) at.2
own_kind (Reserved host) size more fs i f e =
    inr (from-get (up_from (host / 4096) (size / 4096)) i f e)
own_kind (Alias target) size more fs i f e = cc
own_kind (Device kind) size more fs i f e = cc

shifted : (m n : ℕ) (fs : List ℕ) (f : ℕ) → Contains (take n (drop m fs)) f
    → Contains (take (m + n) fs) f
shifted m n fs f has =
    let at = in-take n (drop m fs) f has in
    let long = length-drop m fs in
    let low = at.1 in
    let within = at.2.within in
    to-take (m + n) fs f (m + at.0) (omega arith)
    (record { within = omega arith; is = sym (get_or-drop m fs at.0 0) ∙ at.2.is })

frame_from : (regions : List Region) (fs : List ℕ) (n i f : ℕ)
    → frame_at (slice_get (region_frames regions fs) n) i ≡ Some f
    → Contains (take (pages_of regions) fs) f ⊎ Contains (reserved_frames regions) f
unfolding region_frames reserved_frames
frame_from [] fs n i f e = cc
frame_from (r ∷ rs) fs zero i f e =
    let sum : own_pages r + pages_of rs ≡ pages_of (r ∷ rs) = sym (sum_by-cons own_pages r rs) in
    elim (own_kind r.kind r.size (pages_of rs) fs i f e) [
      | inl has ↦ inl (subst (λ k. Contains (take k fs) f) sum has)
      | inr has ↦
          inr (Contains-append_left (kind_reserved r.kind (pages r)) (reserved_frames rs) f has)
    ]
frame_from (r ∷ rs) fs (suc n) i f e =
    let sum : own_pages r + pages_of rs ≡ pages_of (r ∷ rs) = sym (sum_by-cons own_pages r rs) in
    elim (frame_from rs (drop (own_pages r) fs) n i f e) [
      | inl has ↦
          inl (subst (λ k. Contains (take k fs) f) sum
          (shifted (own_pages r) (pages_of rs) fs f has))
      | inr has ↦
          inr (Contains-append_right (kind_reserved r.kind (pages r)) (reserved_frames rs) f has)
    ]

-- a frame under a page is one of the list's pages, or reserved
pub frame-where : (regions : List Region) (fs : List ℕ) (n i f : ℕ)
    → frame_of regions fs n i ≡ Some f
    → Contains (page_frames regions fs) f ⊎ Contains (reserved_frames regions) f
unfolding frame_of
frame-where regions fs n i f e = frame_from regions fs n i f e

-- ---- the frame under a page of a region

module _ (fs : List ℕ) (first size i : ℕ) (low : i < size / 4096)
    (room : first + size / 4096 ≤ length fs) where
  -- an alloced one has the next of the list
  alloced : slice_get (take (size / 4096) (drop first fs)) i ≡ Some (get_or fs (first + i) 0)
  alloced =
      let short = length-take (size / 4096) (drop first fs) in
      let long = length-drop first fs in
      slice_get-get_or (take (size / 4096) (drop first fs)) i 0 (omega arith)
      ∙ ap (λ (k : ℕ). Some k) (get_or-take (size / 4096) (drop first fs) i 0 low
      ∙ get_or-drop first fs i 0)

  pub kind-ram : slice_get (kind_frames Ram (size / 4096) (drop first fs)) i
      ≡ Some (get_or fs (first + i) 0)
  kind-ram = alloced

  pub kind-rom : slice_get (kind_frames Rom (size / 4096) (drop first fs)) i
      ≡ Some (get_or fs (first + i) 0)
  kind-rom = alloced

pub kind-reserved : (fs : List ℕ) (host n i : ℕ) → i < n
    → slice_get (kind_frames (Reserved host) n fs) i ≡ Some (host / 4096 + i)
kind-reserved fs host n i low = up-get (host / 4096) n i low

-- past the pages of a region there is none
pub kind-past : (fs : List ℕ) (kind : Kind) (n i : ℕ) → n ≤ i
    → slice_get (kind_frames kind n fs) i ≡ None
kind-past fs Ram n i le =
    let short = length-take n fs in slice_get_past (take n fs) i (omega arith)
kind-past fs Rom n i le =
    let short = length-take n fs in slice_get_past (take n fs) i (omega arith)
kind-past fs (Reserved host) n i le =
    let short = length-up (host / 4096) n in
    slice_get_past (up_from (host / 4096) n) i (omega arith)
kind-past fs (Alias target) n i le = refl
kind-past fs (Device kind) n i le = refl

-- ---- a region that was read

module _ (regions : List Region) (fs : List ℕ) (n i : ℕ) (region : Region)
    (within : n < length regions) (read : region ≡ get_or regions n region) where
  abbrev first : ℕ
  first = pages_of (take n regions)

  pub frame-kind : (kind : Kind) → region.kind ≡ kind → frame_of regions fs n i
      ≡ slice_get (kind_frames kind (region.size / 4096) (drop first fs)) i
  frame-kind kind is =
      frame-in regions fs n i region within
      ∙ ap (λ (r : Region). slice_get (kind_frames r.kind (pages r) (drop first fs)) i) (sym read)
      ∙ ap (λ (k : Kind). slice_get (kind_frames k (region.size / 4096) (drop first fs)) i) is

  pub frame-none : region.size / 4096 ≤ i → None ≡ frame_of regions fs n i
  frame-none le =
      sym (frame-kind region.kind refl
      ∙ kind-past (drop first fs) region.kind (region.size / 4096) i le)

  module _ (low : i < region.size / 4096) where
    pub frame-reserved : (host : ℕ) → region.kind ≡ Reserved host
        → Some (host / 4096 + i) ≡ frame_of regions fs n i
    frame-reserved host is =
        sym (frame-kind (Reserved host) is
        ∙ kind-reserved (drop first fs) host (region.size / 4096) i low)

    pub frame-alias : (target : ℕ) → region.kind ≡ Alias target
        → None ≡ frame_of regions fs n i
    frame-alias target is = sym (frame-kind (Alias target) is)

    module _ (room : pages_of regions ≤ length fs) where
      fits : (kind : Kind) → region.kind ≡ kind
          → own_size region.size kind / 4096 ≡ region.size / 4096
          → first + region.size / 4096 ≤ length fs
      fits kind is own =
          let le = sum_by_more_le own_pages regions n region within in
          let here : own_pages (get_or regions n region) ≡ region.size / 4096 =
          ap own_pages (sym read) ∙ ap (λ (k : Kind). own_size region.size k / 4096) is ∙ own in
          omega arith

      pub frame-ram : region.kind ≡ Ram
          → Some (get_or fs (first + i) 0) ≡ frame_of regions fs n i
      frame-ram is =
          sym (frame-kind Ram is
          ∙ kind-ram fs first region.size i low (fits Ram is refl))

      pub frame-rom : region.kind ≡ Rom
          → Some (get_or fs (first + i) 0) ≡ frame_of regions fs n i
      frame-rom is =
          sym (frame-kind Rom is
          ∙ kind-rom fs first region.size i low (fits Rom is refl))
