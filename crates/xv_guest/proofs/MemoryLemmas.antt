-- A guest's memory under what it holds: where the bytes of that stay it stays, and what is put into
-- one of its frames is put there in its memory, and nowhere else.
use Rattle.std.proofs.Common.{◌≡◌, ◌≢◌, ℕ, zero, suc, ◌+◌, ◌*◌, ◌<◌, ◌≤◌, List, [], ◌∷◌, ◌++◌}
use Rattle.std.proofs.Common.{length, get_or, map, refl, sym, ap, ◌∙◌, subst, arith}
use Rattle.std.proofs.Common.{inl, inr}
use Rattle.std.proofs.Math.ListN.{set}
use Rattle.std.specs.List.{sum_by}
use Rattle.std.proofs.lemmas.Bool.{cases_lt}
use Rattle.std.proofs.lemmas.List.Sums.{sum_by-cons, get_or-le-sum_by}
use Rattle.xv_mem.specs.Bytes.{put}
use Rattle.xv_mem.proofs.Puts.{range-put_inside, range-put_outside, length-range}
use Rattle.xv_pte.specs.GStage.{frame_bytes}
use Rattle.xv_gstage.specs.Own.{region_frames}
use Rattle.xv_guest.specs.Frames.{hits, bytes_under, IsInside}
use Rattle.xv_guest.specs.Held.{Held, holds, memory_of, Same}
use Rattle.xv_guest.proofs.FrameLemmas.{hit, hits-cons, hits-first, hits-later, hit_same}
use Rattle.xv_guest.proofs.FrameLemmas.{hits-get_or, regions-hits}
use Rattle.xv_guest.proofs.PutLemmas.{put-append_left, put-append_right}

-- ---- memories that have the same frames

module _ (old new : List ℕ) where
  pub under_same : (frames : List ℕ) → ((frame : ℕ) → 0 < hits frame frames
      → frame_bytes new frame ≡ frame_bytes old frame)
      → bytes_under new frames ≡ bytes_under old frames
  unfolding bytes_under
  under_same [] same = refl
  under_same (x ∷ xs) same =
      let first = hits-first x xs in
      ap (λ (bytes : List ℕ). bytes ++ bytes_under new xs) (same x (omega arith))
      ∙ ap (λ (bytes : List ℕ). frame_bytes old x ++ bytes)
      (under_same xs (λ frame some.
      let later = hits-later frame x xs in same frame (omega arith)))

  pub lists_same : (lists : List (List ℕ)) → ((frame : ℕ) → 0 < sum_by (hits frame) lists
      → frame_bytes new frame ≡ frame_bytes old frame)
      → map (bytes_under new) lists ≡ map (bytes_under old) lists
  lists_same [] same = refl
  lists_same (xs ∷ lists) same =
      ap (λ (bytes : List ℕ). bytes ∷ map (bytes_under new) lists)
      (under_same xs (λ frame some.
      let parts = sum_by-cons (hits frame) xs lists in same frame (omega arith)))
      ∙ ap (λ (others : List (List ℕ)). bytes_under old xs ∷ others)
      (lists_same lists (λ frame some.
      let parts = sum_by-cons (hits frame) xs lists in same frame (omega arith)))

-- what stands under regions is held
pub under-held : (frame : ℕ) (g : Held)
    → sum_by (hits frame) (region_frames g.regions g.frames) ≤ holds frame g
under-held frame g = let all = regions-hits frame g.regions g.frames in omega arith

pub memory_same : (old new : List ℕ) (g : Held) → Same old new g
    → memory_of new g ≡ memory_of old g
unfolding memory_of
memory_same old new g same =
    lists_same old new (region_frames g.regions g.frames) (λ frame some.
    let held = under-held frame g in same frame (omega arith))

-- ---- a piece that is put into one frame

module _ (bytes : List ℕ) (frame offset : ℕ) (piece : List ℕ) (inside : IsInside bytes frame)
    (fits : offset + length piece ≤ 4096) where
  pub frame-put : frame_bytes (put bytes (4096 * frame + offset) piece) frame
      ≡ put (frame_bytes bytes frame) offset piece
  frame-put = range-put_inside bytes (4096 * frame) 4096 offset piece fits inside

  pub frame-put_other : (other : ℕ) → IsInside bytes other → other ≢ frame
      → frame_bytes (put bytes (4096 * frame + offset) piece) other ≡ frame_bytes bytes other
  frame-put_other other within apart =
      range-put_outside bytes (4096 * frame + offset) piece (4096 * other) 4096 (omega arith) within
      (elim (cases_lt other frame) [
        | inl below ↦ inl (omega arith)
        | inr above ↦ inr (omega arith)
      ])

  under-put_other : (frames : List ℕ) → ((other : ℕ) → 0 < hits other frames
      → IsInside bytes other) → hits frame frames ≡ 0
      → bytes_under (put bytes (4096 * frame + offset) piece) frames ≡ bytes_under bytes frames
  under-put_other frames within none =
      under_same bytes (put bytes (4096 * frame + offset) piece) frames (λ other some.
      frame-put_other other (within other some) (λ same.
      let P : ℕ → Type 0 = λ f. 0 < hits f frames in
      let here = subst P same some in omega arith))

  lists-put_other : (lists : List (List ℕ)) → ((other : ℕ) → 0 < sum_by (hits other) lists
      → IsInside bytes other) → sum_by (hits frame) lists ≡ 0
      → map (bytes_under (put bytes (4096 * frame + offset) piece)) lists
      ≡ map (bytes_under bytes) lists
  lists-put_other lists within none =
      lists_same bytes (put bytes (4096 * frame + offset) piece) lists (λ other some.
      frame-put_other other (within other some) (λ same.
      let P : ℕ → Type 0 = λ f. 0 < sum_by (hits f) lists in
      let here = subst P same some in omega arith))

  under-put : (frames : List ℕ) (k : ℕ) → ((other : ℕ) → 0 < hits other frames
      → IsInside bytes other) → hits frame frames ≤ 1 → k < length frames
      → get_or frames k 0 ≡ frame
      → bytes_under (put bytes (4096 * frame + offset) piece) frames
      ≡ put (bytes_under bytes frames) (4096 * k + offset) piece
  unfolding bytes_under
  under-put [] k within once lt here = absurd (omega arith)
  under-put (x ∷ xs) zero within once lt here =
      let first = hits-first frame xs in
      let P : ℕ → Type 0 = λ y. hits frame (y ∷ xs) ≤ 1 in
      let only = subst P here once in
      let Q : ℕ → Type 0 = λ y. IsInside bytes y in
      let size : length (frame_bytes bytes x) ≡ 4096 =
      length-range bytes (4096 * x) 4096 (subst Q (sym here) inside) in
      let R : ℕ → Type 0 =
      λ y. frame_bytes (put bytes (4096 * frame + offset) piece) y
      ≡ put (frame_bytes bytes y) offset piece in
      let place : 4096 * 0 + offset ≡ offset = omega arith in
      ap (λ (front : List ℕ). front
      ++ bytes_under (put bytes (4096 * frame + offset) piece) xs) (subst R (sym here) frame-put)
      ∙ ap (λ (back : List ℕ). put (frame_bytes bytes x) offset piece ++ back)
      (under-put_other xs (λ other some.
      let later = hits-later other x xs in within other (omega arith)) (omega arith))
      ∙ sym (put-append_left (frame_bytes bytes x) (bytes_under bytes xs) offset piece
      (omega arith))
      ∙ ap (λ (n : ℕ). put (frame_bytes bytes x ++ bytes_under bytes xs) n piece) (sym place)
  under-put (x ∷ xs) (suc k) within once lt here =
      let parts = hits-cons frame x xs in
      let first = hits-first x xs in
      let some_here = hits-get_or xs k 0 (omega arith) in
      let P : ℕ → Type 0 = λ y. 0 < hits y xs in
      let there = subst P here some_here in
      let apart : x ≢ frame =
      λ same. (let one = hit_same frame in
      let Q : ℕ → Type 0 = λ y. hit frame y ≡ 1 in
      let here_too = subst Q (sym same) one in omega arith) in
      let size : length (frame_bytes bytes x) ≡ 4096 =
      length-range bytes (4096 * x) 4096 (within x (omega arith)) in
      let place : 4096 * suc k + offset ≡ length (frame_bytes bytes x) + (4096 * k + offset) =
      omega arith in
      ap (λ (front : List ℕ). front
      ++ bytes_under (put bytes (4096 * frame + offset) piece) xs)
      (frame-put_other x (within x (omega arith)) apart)
      ∙ ap (λ (back : List ℕ). frame_bytes bytes x ++ back)
      (under-put xs k (λ other some.
      let later = hits-later other x xs in within other (omega arith)) (omega arith)
      (omega arith) here)
      ∙ sym (put-append_right (frame_bytes bytes x) (bytes_under bytes xs) (4096 * k + offset)
      piece)
      ∙ ap (λ (n : ℕ). put (frame_bytes bytes x ++ bytes_under bytes xs) n piece) (sym place)

  pub lists-put : (lists : List (List ℕ)) (i k : ℕ) → ((other : ℕ) → 0 < sum_by (hits other) lists
      → IsInside bytes other) → sum_by (hits frame) lists ≤ 1 → i < length lists
      → k < length (get_or lists i []) → get_or (get_or lists i []) k 0 ≡ frame
      → map (bytes_under (put bytes (4096 * frame + offset) piece)) lists
      ≡ set (map (bytes_under bytes) lists) i
      (put (get_or (map (bytes_under bytes) lists) i []) (4096 * k + offset) piece)
  lists-put [] i k within once lt ltk here = absurd (omega arith)
  lists-put (xs ∷ lists) zero k within once lt ltk here =
      let parts = sum_by-cons (hits frame) xs lists in
      let some_here = hits-get_or xs k 0 ltk in
      let P : ℕ → Type 0 = λ y. 0 < hits y xs in
      let there = subst P here some_here in
      ap (λ (front : List ℕ). front
      ∷ map (bytes_under (put bytes (4096 * frame + offset) piece)) lists)
      (under-put xs k (λ other some.
      let split = sum_by-cons (hits other) xs lists in within other (omega arith)) (omega arith)
      ltk here)
      ∙ ap (λ (others : List (List ℕ)).
      put (bytes_under bytes xs) (4096 * k + offset) piece ∷ others)
      (lists-put_other lists (λ other some.
      let split = sum_by-cons (hits other) xs lists in within other (omega arith)) (omega arith))
  lists-put (xs ∷ lists) (suc i) k within once lt ltk here =
      let parts = sum_by-cons (hits frame) xs lists in
      let some_here = hits-get_or (get_or lists i []) k 0 ltk in
      let P : ℕ → Type 0 = λ y. 0 < hits y (get_or lists i []) in
      let there = subst P here some_here in
      let among = get_or-le-sum_by (hits frame) lists i [] (omega arith) in
      ap (λ (front : List ℕ). front
      ∷ map (bytes_under (put bytes (4096 * frame + offset) piece)) lists)
      (under-put_other xs (λ other some.
      let split = sum_by-cons (hits other) xs lists in within other (omega arith)) (omega arith))
      ∙ ap (λ (others : List (List ℕ)). bytes_under bytes xs ∷ others)
      (lists-put lists i k (λ other some.
      let split = sum_by-cons (hits other) xs lists in within other (omega arith)) (omega arith)
      (omega arith) ltk here)
