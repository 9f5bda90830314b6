-- The bytes of a cell lie in the memory of its region, each of them under a frame.
use Rattle.std.proofs.Common.{◌≡◌, ℕ, zero, suc, ◌+◌, ◌-◌, ◌*◌, ◌/◌, ◌%◌, ◌^◌, ◌<◌, ◌≤◌, ◌⊎◌, cond}
use Rattle.std.proofs.Common.{Bool, true, false, List, [], ◌∷◌, ◌++◌, length, get_or, drop}
use Rattle.std.proofs.Common.{Some, refl, sym, ap, ◌∙◌, subst, arith, inl, inr}
use Rattle.std.proofs.Math.ListN.{get_or-map}
use Rattle.std.proofs.lemmas.Bool.{cases_lt}
use Rattle.std.proofs.lemmas.List.{get_or_past, length-append, length-drop, length-take-le}
use Rattle.std.proofs.lemmas.List.Sums.{get_or-le-sum_by, sum_by-cons}
use Rattle.std.proofs.lemmas.Option.{slice_get-get_or}
use Rattle.xv_mem.specs.Bytes.{put, range}
use Rattle.xv_mem.proofs.Puts.{length-range, range-range}
use Rattle.xv_pte.specs.GStage.{frame_bytes}
use Rattle.xv_pool.proofs.MarkLemmas.{length-up_from}
use Rattle.xv_region.specs.declared.cell.Cell.{Cell}
use Rattle.xv_region.specs.declared.cell.Cell.TheVariants as cells
use Rattle.xv_region.specs.declared.plan.Kind.{Kind}
use Rattle.xv_region.specs.declared.plan.Kind.TheVariants.{Ram, Rom, Reserved, Alias, Device}
use Rattle.xv_region.specs.declared.plan.Region.{Region}
use Rattle.xv_region.specs.Cell.{bytes_at, cell, cell_from, cell_within, holds, nowhere, one_hop}
use Rattle.xv_region.specs.Need.{is_mapped, own_pages, own_size}
use Rattle.xv_region.specs.Rules.{Accepted, is_real}
use Rattle.xv_lone.specs.Memory.{store_place}
use Rattle.xv_gstage.specs.Own.{frame_at, frame_of, kind_frames, pages_of, region_frames}
use Rattle.xv_gstage.proofs.CellsOf.{whole-at}
use Rattle.xv_gstage.proofs.OwnPages.{lies}
use Rattle.xv_guest.specs.Frames.{IsInside, bytes_under, hits}
use Rattle.xv_guest.specs.Held.{HasMemory, Held, WithinMemory, memory_of, region_bytes}
use Rattle.xv_guest.proofs.FrameLemmas.{hits-first, hits-get_or, hits-later}
use Rattle.xv_guest.proofs.HeldLemmas.{has_enough}
use Rattle.xv_guest.proofs.LawLemmas.{put_there, put_under}
use Rattle.xv_guest.proofs.MemoryLemmas.{under-held}
use Rattle.xv_guest.proofs.PutLemmas.{range-append_left, range-append_right}

-- ---- the region of a cell

-- a region of the list, which counts from i on, is memory of its own, and has n bytes from address
-- a on at this offset
record IsReal (i : ℕ) (rs : List Region) (a n region offset : ℕ) : Type 0 where
  place : ℕ
  within : place < length rs
  number : region ≡ i + place
  r : Region
  read : r ≡ get_or rs place r
  real : is_real r.kind ≡ true
  low : r.base ≤ a
  high : a + n ≤ r.base + r.size
  from : offset ≡ a - r.base

module _ (hop : ℕ → Cell) (a n region offset : ℕ) (writable : Bool) where
  -- or the hop of an alias leads there
  abbrev Leads : ℕ → List Region → Type 0
  Leads i rs =
      IsReal i rs a n region offset
      ⊎ ((b : ℕ) × (hop b ≡ cells.Memory region offset writable))

  first_is : (i : ℕ) (r : Region) (rs : List Region) → r.base ≤ a → a + n ≤ r.base + r.size
      → is_real r.kind ≡ true → region ≡ i → offset ≡ a - r.base → Leads i (r ∷ rs)
  first_is i r rs low high real number from = inl (record {
    place = 0;
    within = omega arith;
    number = omega arith;
    r = r;
    read = refl;
    real = real;
    low = low;
    high = high;
    from = from;
  })

  from_kind : (i : ℕ) (r : Region) (rs : List Region) → r.base ≤ a → a + n ≤ r.base + r.size
      → (kind : Kind) → r.kind ≡ kind
      → cell_within hop i (a - r.base) kind ≡ cells.Memory region offset writable
      → Leads i (r ∷ rs)
  from_kind i r rs low high Ram is e =
      let number : region ≡ i = cc in
      let from : offset ≡ a - r.base = cc in
      first_is i r rs low high (ap is_real is) number from
  from_kind i r rs low high Rom is e =
      let number : region ≡ i = cc in
      let from : offset ≡ a - r.base = cc in
      first_is i r rs low high (ap is_real is) number from
  from_kind i r rs low high (Reserved host) is e =
      let number : region ≡ i = cc in
      let from : offset ≡ a - r.base = cc in
      first_is i r rs low high (ap is_real is) number from
  from_kind i r rs low high (Alias target) is e = inr (target + (a - r.base), e)
  from_kind i r rs low high (Device kind) is e = cc

  later_is : (i : ℕ) (r : Region) (rs : List Region) → Leads (suc i) rs → Leads i (r ∷ rs)
  later_is i r rs (inl at) = inl (record {
    place = suc at.place;
    within = let within = at.within in omega arith;
    number = let number = at.number in omega arith;
    r = at.r;
    read = at.read;
    real = at.real;
    low = at.low;
    high = at.high;
    from = at.from;
  })
  later_is i r rs (inr hopped) = inr hopped

  from_cell : (i : ℕ) (rs : List Region)
      → cell_from hop i rs a n ≡ cells.Memory region offset writable → Leads i rs
  from_cell i [] e = cc
  from_cell i (r ∷ rs) e =
      by (holds (bytes_at a n) r) refl e (λ rest. later_is i r rs (from_cell (suc i) rs rest))
    where
      by : (b : Bool) → holds (bytes_at a n) r ≡ b
          → cond b (cell_within hop i (a - r.base) r.kind) (cell_from hop (suc i) rs a n)
          ≡ cells.Memory region offset writable
          → (cell_from hop (suc i) rs a n ≡ cells.Memory region offset writable
          → Leads i (r ∷ rs)) → Leads i (r ∷ rs)
      by true is e later =
          let bounds = lies a n r is in
          from_kind i r rs bounds.0 bounds.1 r.kind refl e
      by false is e later = later e

cell_real : (regions : List Region) (a n region offset : ℕ) (writable : Bool)
    → cell regions a n ≡ cells.Memory region offset writable
    → (b : ℕ) × IsReal 0 regions b n region offset
unfolding cell
cell_real regions a n region offset writable is =
    elim (from_cell (one_hop regions n) a n region offset writable 0 regions is) [
      | inl here ↦ (a, here)
      | inr hopped ↦
          elim (from_cell nowhere hopped.0 n region offset writable 0 regions hopped.1) [
            | inl there ↦ (hopped.0, there)
            | inr none ↦ absurd (let e = none.1 in cc)
          ]
    ]

-- ---- as many frames as pages

kind_size : (kind : Kind) (size : ℕ) (frames : List ℕ) → is_real kind ≡ true
    → own_size size kind / 4096 ≤ length frames
    → length (kind_frames kind (size / 4096) frames) ≡ size / 4096
kind_size Ram size frames real room = length-take-le (size / 4096) frames room
kind_size Rom size frames real room = length-take-le (size / 4096) frames room
kind_size (Reserved host) size frames real room = length-up_from (host / 4096) (size / 4096)
kind_size (Alias target) size frames real room = cc
kind_size (Device kind) size frames real room = cc

frames_size : (rs : List Region) (frames : List ℕ) (k : ℕ) (d : Region) → k < length rs
    → is_real (get_or rs k d).kind ≡ true → pages_of rs ≤ length frames
    → length (get_or (region_frames rs frames) k []) ≡ (get_or rs k d).size / 4096
unfolding region_frames
frames_size [] frames k d within real room = absurd (omega arith)
frames_size (r ∷ rs) frames zero d within real room =
    let sums = sum_by-cons own_pages r rs in
    kind_size r.kind r.size frames real (omega arith)
frames_size (r ∷ rs) frames (suc k) d within real room =
    let sums = sum_by-cons own_pages r rs in
    let left = length-drop (own_pages r) frames in
    frames_size rs (drop (own_pages r) frames) k d (omega arith) real (omega arith)

-- ---- bytes under frames

under_size : (bytes : List ℕ) (xs : List ℕ) → ((frame : ℕ) → 0 < hits frame xs
    → IsInside bytes frame) → length (bytes_under bytes xs) ≡ 4096 * length xs
unfolding bytes_under
under_size bytes [] inside = refl
under_size bytes (x ∷ xs) inside =
    let first = hits-first x xs in
    let here = length-range bytes (4096 * x) 4096 (inside x (omega arith)) in
    let rest = under_size bytes xs (λ frame some.
    let later = hits-later frame x xs in inside frame (omega arith)) in
    let both = length-append (frame_bytes bytes x) (bytes_under bytes xs) in
    omega arith

under_range : (bytes : List ℕ) (xs : List ℕ) (k offset len : ℕ) → ((frame : ℕ)
    → 0 < hits frame xs → IsInside bytes frame) → k < length xs → offset + len ≤ 4096
    → range (bytes_under bytes xs) (4096 * k + offset) len
    ≡ range bytes (4096 * get_or xs k 0 + offset) len
unfolding bytes_under
under_range bytes [] k offset len inside within fits = absurd (omega arith)
under_range bytes (x ∷ xs) zero offset len inside within fits =
    let first = hits-first x xs in
    let size : length (frame_bytes bytes x) ≡ 4096 =
    length-range bytes (4096 * x) 4096 (inside x (omega arith)) in
    let place : 4096 * 0 + offset ≡ offset = omega arith in
    ap (λ (at : ℕ). range (frame_bytes bytes x ++ bytes_under bytes xs) at len) place
    ∙ range-append_left (frame_bytes bytes x) (bytes_under bytes xs) offset len (omega arith)
    ∙ range-range bytes (4096 * x) 4096 offset len fits (inside x (omega arith))
under_range bytes (x ∷ xs) (suc k) offset len inside within fits =
    let first = hits-first x xs in
    let size : length (frame_bytes bytes x) ≡ 4096 =
    length-range bytes (4096 * x) 4096 (inside x (omega arith)) in
    let place : 4096 * suc k + offset ≡ length (frame_bytes bytes x) + (4096 * k + offset) =
    omega arith in
    ap (λ (at : ℕ). range (frame_bytes bytes x ++ bytes_under bytes xs) at len) place
    ∙ range-append_right (frame_bytes bytes x) (bytes_under bytes xs) (4096 * k + offset) len
    ∙ under_range bytes xs k offset len (λ frame some.
    let later = hits-later frame x xs in inside frame (omega arith)) (omega arith) fits

-- ---- the bytes of a region

-- the frames under it
abbrev pub frames_under : Held → ℕ → List ℕ
frames_under g region = get_or (region_frames g.regions g.frames) region []

pub region_under : (bytes : List ℕ) (g : Held) (region : ℕ)
    → region_bytes bytes g region ≡ bytes_under bytes (frames_under g region)
unfolding memory_of bytes_under
region_under bytes g region =
    get_or-map (bytes_under bytes) (region_frames g.regions g.frames) region []

module _ (bytes : List ℕ) (g : Held) (memory : HasMemory bytes g) (region : ℕ) where
  pub frames_inside : (frame : ℕ) → 0 < hits frame (frames_under g region)
      → IsInside bytes frame
  frames_inside frame some =
      let lists = region_frames g.regions g.frames in
      elim (cases_lt region (length lists)) [
        | inl within ↦
            (let among = get_or-le-sum_by (hits frame) lists region [] within in
            let all = under-held frame g in
            memory.inside frame (omega arith))
        | inr past ↦
            (let P : List ℕ → Type 0 = λ xs. 0 < hits frame xs in
            let none = subst P (get_or_past lists region [] past) some in
            absurd (omega arith))
      ]

  pub region_size : length (region_bytes bytes g region) ≡ 4096 * length (frames_under g region)
  region_size =
      ap length (region_under bytes g region)
      ∙ under_size bytes (frames_under g region) frames_inside

  -- a frame under a page of it
  pub frame_there : (index : ℕ) → index < length (frames_under g region)
      → frame_of g.regions g.frames region index ≡ Some (get_or (frames_under g region) index 0)
  unfolding frame_of
  frame_there index within =
      let lists = region_frames g.regions g.frames in
      elim (cases_lt region (length lists)) [
        | inl there ↦
            ap (λ o. frame_at o index) (slice_get-get_or lists region [] there)
            ∙ slice_get-get_or (get_or lists region []) index 0 within
        | inr past ↦
            (let none = ap length (get_or_past lists region [] past) in absurd (omega arith))
      ]

  -- a byte of it has a frame, which lies in the memory
  module _ (offset : ℕ) (within : offset < length (region_bytes bytes g region)) where
    abbrev pub frame : ℕ
    frame = get_or (frames_under g region) (offset / 4096) 0

    pub frame_here : frame_of g.regions g.frames region (offset / 4096) ≡ Some frame
    frame_here = let size = region_size in frame_there (offset / 4096) (omega arith)

    pub frame_inside : IsInside bytes frame
    frame_inside =
        let size = region_size in
        frames_inside frame
        (hits-get_or (frames_under g region) (offset / 4096) 0 (omega arith))

    -- and the bytes that are with it in the page stand there
    pub range_here : (len : ℕ) → offset % 4096 + len ≤ 4096
        → range (region_bytes bytes g region) offset len
        ≡ range bytes (4096 * frame + offset % 4096) len
    range_here len fits =
        let size = region_size in
        let place : offset ≡ 4096 * (offset / 4096) + offset % 4096 = omega arith in
        ap (λ (xs : List ℕ). range xs offset len) (region_under bytes g region)
        ∙ ap (λ (at : ℕ). range (bytes_under bytes (frames_under g region)) at len) place
        ∙ under_range bytes (frames_under g region) (offset / 4096) (offset % 4096) len
        frames_inside (omega arith) fits

-- the bytes of a cell lie in its region
module _ (bytes : List ℕ) (g : Held) (memory : HasMemory bytes g) (accepted : Accepted g.regions)
    (gpa n region offset : ℕ) (writable : Bool)
    (is : cell g.regions gpa n ≡ cells.Memory region offset writable) where
  pub cell_inside : (offset + n ≤ length (region_bytes bytes g region)) × (offset + n ≤ 2 ^ 41)
  cell_inside =
      let found = cell_real g.regions gpa n region offset writable is in
      let at = found.1 in
      let r = at.r in
      let number : at.place ≡ region = omega arith in
      let P : Region → Type 0 = λ x. is_real x.kind ≡ true in
      let pages : length (frames_under g at.place) ≡ r.size / 4096 =
      frames_size g.regions g.frames at.place r at.within (subst P at.read at.real)
      (has_enough bytes g memory) ∙ ap (λ (x : Region). x.size / 4096) (sym at.read) in
      let Q : ℕ → Type 0 = λ k. length (frames_under g k) ≡ r.size / 4096 in
      let here = subst Q number pages in
      let size = region_size bytes g memory region in
      let whole = whole-at g.regions accepted at.place r at.within at.read in
      let len = whole.len (mapped r.kind at.real) in
      let end = whole.end in
      let low = at.low in
      let high = at.high in
      let from = at.from in
      (omega arith, omega arith)
    where
      mapped : (kind : Kind) → is_real kind ≡ true → is_mapped kind ≡ true
      mapped Ram real = refl
      mapped Rom real = refl
      mapped (Reserved host) real = refl
      mapped (Alias target) real = cc
      mapped (Device kind) real = cc

-- a piece that is put into one page
module _ (bytes : List ℕ) (g : Held) (memory : HasMemory bytes g) (region offset at : ℕ)
    (piece : List ℕ)
    (under : frame_of g.regions g.frames region (offset / 4096) ≡ Some (at / 4096))
    (place : at % 4096 ≡ offset % 4096) (fits : offset % 4096 + length piece ≤ 4096) where
  host_is : 4096 * (at / 4096) + offset % 4096 ≡ at
  host_is = omega arith

  pub page_put : memory_of (put bytes at piece) g
      ≡ store_place (memory_of bytes g) (record { region = region; offset = offset }) piece
  page_put =
      let here : 4096 * (offset / 4096) + offset % 4096 ≡ offset = omega arith in
      ap (λ (n : ℕ). memory_of (put bytes n piece) g) (sym host_is)
      ∙ put_there g region (offset / 4096) (at / 4096) under bytes memory (offset % 4096) piece fits
      ∙ ap (λ (n : ℕ). store_place (memory_of bytes g)
      (record { region = region; offset = n }) piece) here

  pub page_under : WithinMemory g bytes (put bytes at piece)
  page_under =
      subst (λ (n : ℕ). WithinMemory g bytes (put bytes n piece)) host_is
      (put_under g region (offset / 4096) (at / 4096) under bytes memory (offset % 4096) piece fits)

-- bytes that are read from one page
pub page_range : (bytes : List ℕ) (g : Held) (memory : HasMemory bytes g) (region offset at : ℕ)
    → offset < length (region_bytes bytes g region)
    → frame_of g.regions g.frames region (offset / 4096) ≡ Some (at / 4096)
    → at % 4096 ≡ offset % 4096 → (len : ℕ) → offset % 4096 + len ≤ 4096
    → range bytes at len ≡ range (region_bytes bytes g region) offset len
page_range bytes g memory region offset at within under place len fits =
    let here = frame_here bytes g memory region offset within in
    let same : at / 4096 ≡ frame bytes g memory region offset within = cc in
    let host : at ≡ 4096 * (at / 4096) + offset % 4096 = omega arith in
    ap (λ (n : ℕ). range bytes n len) host
    ∙ ap (λ (f : ℕ). range bytes (4096 * f + offset % 4096) len) same
    ∙ sym (range_here bytes g memory region offset within len fits)
