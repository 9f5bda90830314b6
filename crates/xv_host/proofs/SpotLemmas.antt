-- Bytes under lists of frames, by the place of their frame.
use Rattle.std.proofs.Common.{◌≡◌, ◌≢◌, ℕ, zero, suc, ◌+◌, ◌*◌, ◌/◌, ◌%◌, ◌<◌, ◌≤◌}
use Rattle.std.proofs.Common.{List, [], ◌∷◌, ◌++◌, length, get_or, take, drop, map, refl}
use Rattle.std.proofs.Common.{sym, ap, ◌∙◌, subst, arith, Option, Some, None, option_map}
use Rattle.std.specs.Prelude.{slice_get}
use Rattle.std.specs.List.{sum_by}
use Rattle.std.proofs.lemmas.Bool.{eq-eqb, ne_eqb}
use Rattle.std.proofs.lemmas.List.Sums.{sum_by-cons}
use Rattle.std.proofs.Math.Seq.{take-append_seam, drop-append-add}
use Rattle.xv_mem.specs.Bytes.{range, word_at}
use Rattle.xv_mem.proofs.Puts.{length-range}
use Rattle.xv_mem.proofs.Words.{word_at_same_range}
use Rattle.xv_pte.specs.GStage.{frame_bytes}
use Rattle.xv_lone.specs.Memory.{Place}
use Rattle.xv_gstage.specs.Own.{frame_at}
use Rattle.xv_guest.specs.Frames.{IsInside, bytes_under, hits}
use Rattle.xv_guest.proofs.FrameLemmas.{hit, hits-cons, hits-first, hits-later, hit_same}
use Rattle.xv_host.specs.Spots.{index_of, place_in, placed}

-- a list has the frame at this place
abbrev pub IsAt : List ℕ → (frame index : ℕ) → Type 0
IsAt frames frame index = slice_get frames index ≡ Some frame

hit_at : (xs : List ℕ) (frame i : ℕ) → IsAt xs frame i → 0 < hits frame xs
hit_at [] frame i is = cc
hit_at (x ∷ xs) frame zero is =
    let same : x ≡ frame = cc in
    let here = hit_same frame in
    let one : hit frame x ≡ 1 = subst (λ (y : ℕ). hit frame y ≡ 1) (sym same) here in
    let parts = hits-cons frame x xs in
    omega arith
hit_at (x ∷ xs) frame (suc i) is =
    let later = hit_at xs frame i is in
    let more = hits-later frame x xs in
    omega arith

pub index_found : (xs : List ℕ) (frame i : ℕ) → hits frame xs ≤ 1 → IsAt xs frame i
    → index_of frame xs ≡ Some i
unfolding index_of
index_found [] frame i once is = cc
index_found (x ∷ xs) frame zero once is =
    let same : x ≡ frame = cc in
    rw (eq-eqb x frame same) refl
index_found (x ∷ xs) frame (suc i) once is =
    let later = hit_at xs frame i is in
    let first = hits-first x xs in
    let apart : x ≢ frame =
    λ same. (let P : ℕ → Type 0 = λ y. hits frame (y ∷ xs) ≤ 1 in
    let only = subst P same once in
    let here = hits-first frame xs in
    omega arith) in
    let less = hits-later frame x xs in
    rw (ne_eqb x frame apart) (ap (option_map suc) (index_found xs frame i (omega arith) is))

index_none : (xs : List ℕ) (frame : ℕ) → hits frame xs ≡ 0 → index_of frame xs ≡ None
unfolding index_of
index_none [] frame none = refl
index_none (x ∷ xs) frame none =
    let apart : x ≢ frame =
    λ same. (let P : ℕ → Type 0 = λ y. hits frame (y ∷ xs) ≡ 0 in
    let only = subst P same none in
    let here = hits-first frame xs in
    omega arith) in
    let less = hits-later frame x xs in
    rw (ne_eqb x frame apart) (ap (option_map suc) (index_none xs frame (omega arith)))

-- the lists have the frame at this place of this one
abbrev pub IsIn : List (List ℕ) → (region index frame : ℕ) → Type 0
IsIn lists region index frame = frame_at (slice_get lists region) index ≡ Some frame

pub in_hit : (lists : List (List ℕ)) (region index frame : ℕ) → IsIn lists region index frame
    → 0 < sum_by (hits frame) lists
in_hit [] region index frame is = cc
in_hit (xs ∷ lists) zero index frame is =
    let here = hit_at xs frame index is in
    let parts = sum_by-cons (hits frame) xs lists in
    omega arith
in_hit (xs ∷ lists) (suc region) index frame is =
    let later = in_hit lists region index frame is in
    let parts = sum_by-cons (hits frame) xs lists in
    omega arith

abbrev pub spot : (region offset : ℕ) → Place
spot region offset = record { region = region; offset = offset }

pub place_found : (first : ℕ) (lists : List (List ℕ)) (region index frame offset : ℕ)
    → sum_by (hits frame) lists ≤ 1 → IsIn lists region index frame → offset < 4096
    → place_in first lists (4096 * frame + offset)
    ≡ spot (first + region) (4096 * index + offset)
unfolding place_in
place_found first [] region index frame offset once is less = cc
place_found first (xs ∷ lists) zero index frame offset once is less =
    let parts = sum_by-cons (hits frame) xs lists in
    let number : (4096 * frame + offset) / 4096 ≡ frame = omega arith in
    let rest : (4096 * frame + offset) % 4096 ≡ offset = omega arith in
    let later = place_in (suc first) lists (4096 * frame + offset) in
    let here : first ≡ first + 0 = omega arith in
    ap (λ (f : ℕ). placed first (4096 * frame + offset) (index_of f xs) later) number
    ∙ ap (λ (i : Option ℕ). placed first (4096 * frame + offset) i later)
    (index_found xs frame index (omega arith) is)
    ∙ ap (λ (o : ℕ). spot first (4096 * index + o)) rest
    ∙ ap (λ (r : ℕ). spot r (4096 * index + offset)) here
place_found first (xs ∷ lists) (suc region) index frame offset once is less =
    let parts = sum_by-cons (hits frame) xs lists in
    let some = in_hit lists region index frame is in
    let number : (4096 * frame + offset) / 4096 ≡ frame = omega arith in
    let later = place_in (suc first) lists (4096 * frame + offset) in
    let place : suc first + region ≡ first + suc region = omega arith in
    ap (λ (f : ℕ). placed first (4096 * frame + offset) (index_of f xs) later) number
    ∙ ap (λ (i : Option ℕ). placed first (4096 * frame + offset) i later)
    (index_none xs frame (omega arith))
    ∙ place_found (suc first) lists region index frame offset (omega arith) is less
    ∙ ap (λ (r : ℕ). spot r (4096 * index + offset)) place

-- ---- what stands there

under_range : (bytes : List ℕ) (frames : List ℕ) (index frame : ℕ)
    → ((other : ℕ) → 0 < hits other frames → IsInside bytes other) → IsAt frames frame index
    → range (bytes_under bytes frames) (4096 * index) 4096 ≡ frame_bytes bytes frame
unfolding bytes_under range
under_range bytes [] index frame inside is = cc
under_range bytes (x ∷ xs) zero frame inside is =
    let same : x ≡ frame = cc in
    let first = hits-first x xs in
    let size = length-range bytes (4096 * x) 4096 (inside x (omega arith)) in
    let whole = range bytes (4096 * x) 4096 ++ bytes_under bytes xs in
    let none : 4096 * 0 ≡ 0 = omega arith in
    ap (λ (n : ℕ). take 4096 (drop n (range bytes (4096 * x) 4096 ++ bytes_under bytes xs))) none
    ∙ ap (λ (n : ℕ). take n (range bytes (4096 * x) 4096 ++ bytes_under bytes xs)) (sym size)
    ∙ take-append_seam (range bytes (4096 * x) 4096) (bytes_under bytes xs)
    ∙ ap (λ (f : ℕ). range bytes (4096 * f) 4096) same
under_range bytes (x ∷ xs) (suc index) frame inside is =
    let first = hits-first x xs in
    let size = length-range bytes (4096 * x) 4096 (inside x (omega arith)) in
    let past : 4096 * suc index ≡ length (range bytes (4096 * x) 4096) + 4096 * index = omega arith
    in
    ap (λ (n : ℕ). take 4096 (drop n (range bytes (4096 * x) 4096 ++ bytes_under bytes xs))) past
    ∙ ap (λ (zs : List ℕ). take 4096 zs)
    (drop-append-add (range bytes (4096 * x) 4096) (bytes_under bytes xs) (4096 * index))
    ∙ under_range bytes xs index frame (λ other some.
    let later = hits-later other x xs in inside other (omega arith)) is

-- the bytes of a region, by its number
pub region_at : (bytes : List ℕ) (lists : List (List ℕ)) (region index frame : ℕ)
    → ((other : ℕ) → 0 < sum_by (hits other) lists → IsInside bytes other)
    → IsIn lists region index frame
    → range (get_or (map (bytes_under bytes) lists) region []) (4096 * index) 4096
    ≡ frame_bytes bytes frame
region_at bytes [] region index frame inside is = cc
region_at bytes (xs ∷ lists) zero index frame inside is =
    under_range bytes xs index frame (λ other some.
    let parts = sum_by-cons (hits other) xs lists in inside other (omega arith)) is
region_at bytes (xs ∷ lists) (suc region) index frame inside is =
    region_at bytes lists region index frame (λ other some.
    let parts = sum_by-cons (hits other) xs lists in inside other (omega arith)) is

-- a word in one frame
pub word_under : (width : ℕ) (bytes : List ℕ) (lists : List (List ℕ))
    (region index frame offset : ℕ)
    → ((other : ℕ) → 0 < sum_by (hits other) lists → IsInside bytes other)
    → IsIn lists region index frame → offset + width ≤ 4096
    → word_at width (get_or (map (bytes_under bytes) lists) region []) (4096 * index + offset)
    ≡ word_at width bytes (4096 * frame + offset)
word_under width bytes lists region index frame offset inside is fits =
    word_at_same_range width (get_or (map (bytes_under bytes) lists) region []) bytes (4096 * index)
    (4096 * frame) 4096 offset
    (region_at bytes lists region index frame inside is) fits
