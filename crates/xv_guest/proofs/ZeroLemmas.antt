-- The memory of a guest under frames of zeros.
use Rattle.std.proofs.Common.{◌≡◌, ℕ, suc, ◌+◌, ◌*◌, ◌/◌, ◌%◌, ◌<◌, ◌≤◌, ◌==◌, true}
use Rattle.std.proofs.Common.{cond, List, [], ◌∷◌, ◌++◌, length, take, drop, map, replicate}
use Rattle.std.proofs.Common.{refl, ap, ◌∙◌, arith, inl, inr}
use Rattle.std.specs.List.{sum_by, list_all}
use Rattle.std.proofs.lemmas.Bool.{and_parts, eqb-true, cases_eq}
use Rattle.std.proofs.lemmas.List.{length-take-le, length-drop, replicate-append-replicate}
use Rattle.std.proofs.lemmas.List.{take-take, drop-take}
use Rattle.std.proofs.lemmas.List.Sums.{sum_by-cons}
use Rattle.xv_pool.specs.FrameList.{up_from}
use Rattle.xv_pool.proofs.MarkLemmas.{length-up_from}
use Rattle.xv_region.specs.declared.plan.Kind.{Kind}
use Rattle.xv_region.specs.declared.plan.Kind.TheVariants.{Ram, Rom, Reserved, Alias, Device}
use Rattle.xv_region.specs.declared.plan.Region.{Region}
use Rattle.xv_region.specs.Need.{own_pages, own_size}
use Rattle.xv_region.specs.Rules.{is_real, is_sound, is_sound_kind, unit_of}
use Rattle.xv_lone.specs.Memory.{zeros_of}
use Rattle.xv_gstage.specs.Memory.{IsZero}
use Rattle.xv_gstage.specs.Own.{pages, pages_of, page_frames, kind_frames}
use Rattle.xv_gstage.specs.Own.{region_frames, reserved_frames}
use Rattle.xv_guest.specs.Frames.{hits, bytes_under}
use Rattle.xv_guest.specs.Held.{Held, memory_of}
use Rattle.xv_guest.proofs.FrameLemmas.{hits-first, hits-later, regions-hits}

module _ (bytes : List ℕ) where
  under_zero : (frames : List ℕ) → ((frame : ℕ) → 0 < hits frame frames → IsZero bytes frame)
      → bytes_under bytes frames ≡ replicate (4096 * length frames) 0
  unfolding bytes_under
  under_zero [] zeros = refl
  under_zero (x ∷ xs) zeros =
      let first = hits-first x xs in
      let size : 4096 + 4096 * length xs ≡ 4096 * suc (length xs) = omega arith in
      ap (λ (front : List ℕ). front ++ bytes_under bytes xs) (zeros x (omega arith))
      ∙ ap (λ (back : List ℕ). replicate 4096 0 ++ back)
      (under_zero xs (λ frame some.
      let later = hits-later frame x xs in zeros frame (omega arith)))
      ∙ replicate-append-replicate 4096 (4096 * length xs) 0
      ∙ ap (λ (n : ℕ). replicate n 0) size

  sized : (size : ℕ) (frames : List ℕ) → length frames ≡ size / 4096 → size % 4096 ≡ 0
      → ((frame : ℕ) → 0 < hits frame frames → IsZero bytes frame)
      → bytes_under bytes frames ≡ replicate size 0
  sized size frames count whole zeros =
      let all : 4096 * length frames ≡ size = omega arith in
      under_zero frames zeros ∙ ap (λ (n : ℕ). replicate n 0) all

  kind_zero : (size : ℕ) (kind : Kind) (frames : List ℕ) → size % unit_of kind ≡ 0
      → own_size size kind / 4096 ≤ length frames
      → ((frame : ℕ) → 0 < hits frame (kind_frames kind (size / 4096) frames)
      → IsZero bytes frame)
      → bytes_under bytes (kind_frames kind (size / 4096) frames)
      ≡ cond (is_real kind) (replicate size 0) []
  unfolding bytes_under
  kind_zero size Ram frames whole room zeros =
      sized size (take (size / 4096) frames) (length-take-le (size / 4096) frames room)
      whole zeros
  kind_zero size Rom frames whole room zeros =
      sized size (take (size / 4096) frames) (length-take-le (size / 4096) frames room)
      whole zeros
  kind_zero size (Reserved host) frames whole room zeros =
      sized size (up_from (host / 4096) (size / 4096))
      (length-up_from (host / 4096) (size / 4096))
      whole zeros
  kind_zero size (Alias target) frames whole room zeros = refl
  kind_zero size (Device kind) frames whole room zeros = refl

  whole_size : (r : Region) → is_sound r ≡ true → r.size % unit_of r.kind ≡ 0
  whole_size r sound =
      let front = (and_parts _ (is_sound_kind r.kind) sound).0 in
      let aligned = (and_parts _ _ front).0 in
      eqb-true (r.size % unit_of r.kind) 0
      (and_parts (r.base % unit_of r.kind == 0) (r.size % unit_of r.kind == 0) aligned).1

  pub regions_zero : (rs : List Region) (frames : List ℕ) → list_all is_sound rs ≡ true
      → pages_of rs ≤ length frames
      → ((frame : ℕ) → 0 < sum_by (hits frame) (region_frames rs frames) → IsZero bytes frame)
      → map (bytes_under bytes) (region_frames rs frames) ≡ map zeros_of rs
  unfolding region_frames
  regions_zero [] frames sound room zeros = refl
  regions_zero (r ∷ rs) frames sound room zeros =
      let sounds = and_parts (is_sound r) (list_all is_sound rs) sound in
      let sums = sum_by-cons own_pages r rs in
      let rest = drop (own_pages r) frames in
      let left = length-drop (own_pages r) frames in
      ap (λ (first : List ℕ). first ∷ map (bytes_under bytes) (region_frames rs rest))
      (kind_zero r.size r.kind frames (whole_size r sounds.0) (omega arith) (λ frame some.
      let parts = sum_by-cons (hits frame) (kind_frames r.kind (pages r) frames)
      (region_frames rs rest) in zeros frame (omega arith)))
      ∙ ap (λ (others : List (List ℕ)). zeros_of r ∷ others)
      (regions_zero rs rest sounds.1 (omega arith) (λ frame some.
      let parts = sum_by-cons (hits frame) (kind_frames r.kind (pages r) frames)
      (region_frames rs rest) in zeros frame (omega arith)))

-- ---- only the frames of pages stand under regions

kind_taken : (size more : ℕ) (kind : Kind) (frames : List ℕ)
    → kind_frames kind (size / 4096) (take (own_size size kind / 4096 + more) frames)
    ≡ kind_frames kind (size / 4096) frames
kind_taken size more Ram frames = take-take (size / 4096) (size / 4096 + more) frames (omega arith)
kind_taken size more Rom frames = take-take (size / 4096) (size / 4096 + more) frames (omega arith)
kind_taken size more (Reserved host) frames = refl
kind_taken size more (Alias target) frames = refl
kind_taken size more (Device kind) frames = refl

regions_taken : (rs : List Region) (frames : List ℕ)
    → region_frames rs (take (pages_of rs) frames) ≡ region_frames rs frames
unfolding region_frames
regions_taken [] frames = refl
regions_taken (r ∷ rs) frames =
    let sums = sum_by-cons own_pages r rs in
    ap (λ (n : ℕ). kind_frames r.kind (pages r) (take n frames)
    ∷ region_frames rs (drop (own_pages r) (take n frames))) sums
    ∙ ap (λ (first : List ℕ).
    first ∷ region_frames rs (drop (own_pages r) (take (own_pages r + pages_of rs) frames)))
    (kind_taken r.size (pages_of rs) r.kind frames)
    ∙ ap (λ (rest : List ℕ). kind_frames r.kind (pages r) frames ∷ region_frames rs rest)
    (drop-take (own_pages r) (pages_of rs) frames)
    ∙ ap (λ (others : List (List ℕ)). kind_frames r.kind (pages r) frames ∷ others)
    (regions_taken rs (drop (own_pages r) frames))

pub pages-hits : (frame : ℕ) (rs : List Region) (frames : List ℕ)
    → sum_by (hits frame) (region_frames rs frames)
    ≤ hits frame (page_frames rs frames) + hits frame (reserved_frames rs)
pages-hits frame rs frames =
    let bound = regions-hits frame rs (page_frames rs frames) in
    let same = ap (sum_by (hits frame)) (regions_taken rs frames) in
    omega arith

pub memory_zero : (bytes : List ℕ) (g : Held) → list_all is_sound g.regions ≡ true
    → pages_of g.regions ≤ length g.frames
    → ((frame : ℕ) → 0 < hits frame (page_frames g.regions g.frames) → IsZero bytes frame)
    → ((frame : ℕ) → 0 < hits frame (reserved_frames g.regions) → IsZero bytes frame)
    → memory_of bytes g ≡ map zeros_of g.regions
unfolding memory_of
memory_zero bytes g sound room of_pages reserved =
    regions_zero bytes g.regions g.frames sound room (λ frame some.
    let bound = pages-hits frame g.regions g.frames in
    elim (cases_eq (hits frame (reserved_frames g.regions)) 0) [
      | inl none ↦ of_pages frame (omega arith)
      | inr there ↦ reserved frame (omega arith)
    ])
