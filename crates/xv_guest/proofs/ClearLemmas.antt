-- Frames that are made zeros, one after another.
use Rattle.std.proofs.Common.{◌≡◌, ℕ, zero, suc, ◌+◌, ◌*◌, ◌-◌, ◌<◌, ◌≤◌, List, [], ◌∷◌, ◌++◌}
use Rattle.std.proofs.Common.{length, get_or, take, drop, min, replicate, refl, sym, ap, ◌∙◌, subst}
use Rattle.std.proofs.Common.{arith, inl, inr}
use Rattle.std.proofs.lemmas.Bool.{cases_eq, cases_lt}
use Rattle.std.proofs.lemmas.List.{length-take, length-drop, length-replicate}
use Rattle.std.proofs.lemmas.List.{take_more, append-nil}
use Rattle.std.specs.List.{flat_map}
use Rattle.std.proofs.lemmas.List.Concat.{flat_map-append}
use Rattle.xv_mem.specs.Bytes.{cleared, range}
use Rattle.xv_mem.proofs.Puts.{length-cleared, range-cleared_inside, range-cleared_outside}
use Rattle.xv_pool.specs.FrameList.{up_from}
use Rattle.xv_pte.specs.GStage.{frame_bytes}
use Rattle.xv_gstage.specs.Memory.{IsZero}
use Rattle.xv_gstage.specs.Own.{pages, kind_reserved, reserved_frames}
use Rattle.xv_region.specs.declared.plan.Region.{Region}
use Rattle.xv_guest.specs.Frames.{hits, IsInside, AreCleared}
use Rattle.xv_guest.proofs.FrameLemmas.{hits-cons, hits-first, hit_other, hits-append}
use Rattle.xv_guest.proofs.FrameLemmas.{hits-up_from_inside}

-- a frame of zeros lies in the memory
pub zero_inside : (bytes : List ℕ) (frame : ℕ) → IsZero bytes frame → IsInside bytes frame
unfolding range
zero_inside bytes frame is =
    let size : length (replicate {A = ℕ} 4096 0) ≡ 4096 =
    length-replicate {A = ℕ} 4096 0 in
    let whole : length (frame_bytes bytes frame) ≡ 4096 = ap length is ∙ size in
    let taken : length (frame_bytes bytes frame) ≡ min 4096 (length (drop (4096 * frame) bytes)) =
    length-take 4096 (drop (4096 * frame) bytes) in
    let rest = length-drop (4096 * frame) bytes in
    omega arith

pub cleared_none : (bytes : List ℕ) → AreCleared bytes bytes []
cleared_none bytes = record {
  whole = refl;
  zero = λ frame some. absurd (omega arith);
  others = λ frame inside none. refl;
}

pub cleared_one : (bytes : List ℕ) (frame : ℕ) → IsInside bytes frame
    → AreCleared bytes (cleared bytes (4096 * frame) 4096) (frame ∷ [])
cleared_one bytes frame inside = record {
  whole = length-cleared bytes (4096 * frame) 4096 inside;
  zero = λ other some.
      elim (cases_eq frame other) [
        | inl same ↦
            (let P : ℕ → Type 0 = λ f. IsZero (cleared bytes (4096 * frame) 4096) f in
            subst P same
            (range-cleared_inside bytes (4096 * frame) 4096 (4096 * frame) 4096 inside
            (omega arith) (omega arith)))
        | inr apart ↦
            (let parts = hits-cons other frame [] in
            let none = hit_other other frame apart in absurd (omega arith))
      ];
  others = λ other within none.
      range-cleared_outside bytes (4096 * frame) 4096 (4096 * other) 4096 inside within
      (elim (cases_lt other frame) [
        | inl below ↦ inl (omega arith)
        | inr above ↦
            elim (cases_eq frame other) [
              | inl same ↦
                  (let here = hits-first frame [] in
                  let P : ℕ → Type 0 = λ f. hits f (frame ∷ []) ≡ 0 in
                  let nothing = subst P (sym same) none in
                  absurd (omega arith))
              | inr apart ↦ inr (omega arith)
            ]
      ]);
}

pub cleared_joined : (first middle last : List ℕ) (xs ys : List ℕ) → AreCleared first middle xs
    → AreCleared middle last ys → AreCleared first last (xs ++ ys)
cleared_joined first middle last xs ys one two = record {
  whole = two.whole ∙ one.whole;
  zero = λ frame some.
      let both = hits-append frame xs ys in
      elim (cases_eq (hits frame ys) 0) [
        | inl none ↦
            (let was = one.zero frame (omega arith) in
            two.others frame (zero_inside middle frame was) none ∙ was)
        | inr there ↦ two.zero frame (omega arith)
      ];
  others = λ frame inside none.
      let both = hits-append frame xs ys in
      let same = one.whole in
      two.others frame (omega arith) (omega arith) ∙ one.others frame inside (omega arith);
}

-- ---- frames from a first one on

pub up_from-push : (first n : ℕ) → up_from first n ++ (first + n) ∷ [] ≡ up_from first (n + 1)
unfolding up_from
up_from-push first zero =
    let here : first + 0 ≡ first = omega arith in
    ap (λ (x : ℕ). x ∷ []) here
up_from-push first (suc n) =
    let here : suc first + n ≡ first + suc n = omega arith in
    let next : suc n + 1 ≡ suc (n + 1) = omega arith in
    ap (λ (x : ℕ). first ∷ (up_from (suc first) n ++ x ∷ [])) (sym here)
    ∙ ap (λ (xs : List ℕ). first ∷ xs) (up_from-push (suc first) n)
    ∙ ap (up_from first) (sym next)

pub cleared_more : (first middle last : List ℕ) (from n : ℕ)
    → AreCleared first middle (up_from from n) → AreCleared middle last ((from + n) ∷ [])
    → AreCleared first last (up_from from (n + 1))
cleared_more first middle last from n one two =
    subst (AreCleared first last) (up_from-push from n)
    (cleared_joined first middle last (up_from from n) ((from + n) ∷ []) one two)

-- the last of them lies in the memory
pub last_inside : (bytes : List ℕ) (from n : ℕ) → 0 < n → ((frame : ℕ)
    → 0 < hits frame (up_from from n) → IsInside bytes frame) → 4096 * (from + n) ≤ length bytes
last_inside bytes from n some inside =
    let here = hits-up_from_inside (from + n - 1) from n (omega arith) (omega arith) in
    let last = inside (from + n - 1) (omega arith) in
    omega arith

-- ---- reserved frames

abbrev reserved_of : Region → List ℕ
reserved_of r = kind_reserved r.kind (pages r)

reserved_is : (rs : List Region) → reserved_frames rs ≡ flat_map reserved_of rs
unfolding reserved_frames
reserved_is [] = refl
reserved_is (r ∷ rs) = ap (λ (xs : List ℕ). reserved_of r ++ xs) (reserved_is rs)

one_region : (r : Region) → flat_map reserved_of (r ∷ []) ≡ reserved_of r
one_region r = append-nil (reserved_of r)

pub reserved-more : (rs : List Region) (i : ℕ) (d : Region) → i < length rs
    → reserved_frames (take i rs) ++ reserved_of (get_or rs i d) ≡ reserved_frames (take (i + 1) rs)
reserved-more rs i d within =
    let r = get_or rs i d in
    ap (λ (xs : List ℕ). xs ++ reserved_of r) (reserved_is (take i rs))
    ∙ ap (λ (xs : List ℕ). flat_map reserved_of (take i rs) ++ xs) (sym (one_region r))
    ∙ sym (flat_map-append reserved_of (take i rs) (r ∷ []))
    ∙ ap (flat_map reserved_of) (sym (take_more rs i d within))
    ∙ sym (reserved_is (take (i + 1) rs))

-- a region's frames are among all
pub reserved-among : (frame : ℕ) (rs : List Region) (i : ℕ) (d : Region) → i < length rs
    → hits frame (reserved_of (get_or rs i d)) ≤ hits frame (reserved_frames rs)
unfolding reserved_frames
reserved-among frame [] i d within = absurd (omega arith)
reserved-among frame (r ∷ rs) zero d within =
    let both = hits-append frame (reserved_of r) (reserved_frames rs) in omega arith
reserved-among frame (r ∷ rs) (suc i) d within =
    let both = hits-append frame (reserved_of r) (reserved_frames rs) in
    let later = reserved-among frame rs i d (omega arith) in omega arith

module _ (first middle last : List ℕ) (rs : List Region) (i : ℕ) (r : Region)
    (within : i < length rs) (read : r ≡ get_or rs i r) where
  pub cleared_region : AreCleared first middle (reserved_frames (take i rs))
      → AreCleared middle last (reserved_of r)
      → AreCleared first last (reserved_frames (take (i + 1) rs))
  cleared_region one two =
      let P : Region → Type 0 = λ x. AreCleared middle last (reserved_of x) in
      subst (AreCleared first last) (reserved-more rs i r within)
      (cleared_joined first middle last (reserved_frames (take i rs)) (reserved_of (get_or rs i r))
      one (subst P read two))

  pub region_inside : AreCleared first middle (reserved_frames (take i rs)) → ((frame : ℕ)
      → 0 < hits frame (reserved_frames rs) → IsInside first frame) → (frame : ℕ)
      → 0 < hits frame (reserved_of r) → IsInside middle frame
  region_inside one inside frame some =
      let P : Region → Type 0 = λ x. 0 < hits frame (reserved_of x) in
      let there = subst P read some in
      let among = reserved-among frame rs i r within in
      let was = inside frame (omega arith) in
      let same = one.whole in
      omega arith
