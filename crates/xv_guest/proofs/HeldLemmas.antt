-- Frames in lists: by how often they are hit, or by the words for lists; and what a guest needs of
-- them.
use Rattle.std.proofs.Common.{◌≡◌, ◌≢◌, ℕ, zero, suc, ◌+◌, ◌*◌, ◌/◌, ◌<◌, ◌≤◌, true, false}
use Rattle.std.proofs.Common.{List, [], ◌∷◌, length, get_or, take, min, refl, sym}
use Rattle.std.proofs.Common.{subst, arith, inl, inr, max}
use Rattle.std.specs.List.{Contains, AllPairs, list_any}
use Rattle.std.specs.List.Sorted.{IsStrictlyIncreasing}
use Rattle.std.proofs.lemmas.Bool.{cases_eq, cases_lt, lt-ltb, both_ways, or_parts}
use Rattle.xv_base.specs.Range.{meets}
use Rattle.xv_pool.specs.FrameList.{up_from}
use Rattle.xv_region.specs.declared.plan.Kind.{Kind}
use Rattle.xv_region.specs.declared.plan.Kind.TheVariants.{Ram, Rom, Reserved, Alias, Device}
use Rattle.xv_region.specs.declared.plan.Region.{Region}
use Rattle.xv_region.specs.Cell.{bytes_at}
use Rattle.xv_region.specs.Rules.{meets_host, meets_host_of}
use Rattle.xv_gstage.specs.Own.{pages, pages_of, kind_reserved, reserved_frames}
use Rattle.xv_gstage.proofs.Room.{need-pages}
use Rattle.xv_guest.specs.Frames.{hits, root_frames}
use Rattle.xv_guest.specs.Held.{Held, HasMemory}
use Rattle.xv_guest.proofs.FrameLemmas.{hit, hit_same, hit_other, hits-cons, hits-first, hits-later}
use Rattle.xv_guest.proofs.FrameLemmas.{hits-append, hits-get_or, hits-up_from_below}
use Rattle.xv_guest.proofs.FrameLemmas.{hits-up_from_above, hits-up_from_inside, hits-take-drop}

pub hits-Contains : (frame : ℕ) (frames : List ℕ) → Contains frames frame → 0 < hits frame frames
hits-Contains frame frames found =
    let P : ℕ → Type 0 = λ f. 0 < hits f frames in
    subst P found.2 (hits-get_or frames found.0 frame found.1)

pub Contains-hits : (frame : ℕ) (frames : List ℕ) → 0 < hits frame frames → Contains frames frame
Contains-hits frame [] some = absurd (omega arith)
Contains-hits frame (x ∷ xs) some =
    elim (cases_eq x frame) [
      | inl same ↦ (0, omega arith, same)
      | inr apart ↦
          (let parts = hits-cons frame x xs in
          let none = hit_other frame x apart in
          let found = Contains-hits frame xs (omega arith) in
          (suc found.0, omega arith, found.2))
    ]

-- a frame from a first one on is no less, and none of the last
pub up_from-bounds : (frame first n : ℕ) → 0 < hits frame (up_from first n)
    → (first ≤ frame) × (frame < first + n)
up_from-bounds frame first n some =
    elim (cases_lt frame first) [
      | inl below ↦ (let none = hits-up_from_below frame first n below in absurd (omega arith))
      | inr least ↦ elim (cases_lt frame (first + n)) [
        | inl most ↦ (least, most)
        | inr above ↦ (let none = hits-up_from_above frame first n above in absurd (omega arith))
      ]
    ]

pub up_from-once : (frame first n : ℕ) → hits frame (up_from first n) ≤ 1
up_from-once frame first n =
    elim (cases_eq (hits frame (up_from first n)) 0) [
      | inl none ↦ omega arith
      | inr some ↦
          (let bounds = up_from-bounds frame first n (omega arith) in
          let one = hits-up_from_inside frame first n bounds.0 bounds.1 in omega arith)
    ]

-- the frames of a root, by their numbers
pub root-hits : (frame root : ℕ) → frame / 4 ≡ root → 0 < hits frame (root_frames root)
root-hits frame root is =
    let one = hits-up_from_inside frame (4 * root) 4 (omega arith) (omega arith) in omega arith

pub root-place : (frame root : ℕ) → 0 < hits frame (root_frames root) → frame / 4 ≡ root
root-place frame root some = let bounds = up_from-bounds frame (4 * root) 4 some in omega arith

-- ---- lists in which no frame stands twice

increasing-tail : (x : ℕ) (xs : List ℕ) → IsStrictlyIncreasing (x ∷ xs) → IsStrictlyIncreasing xs
increasing-tail x xs rising = λ k within.
    let next : suc k + 1 ≡ suc (k + 1) = omega arith in
    let P : ℕ → Type 0 = λ n. get_or xs k 0 < get_or (x ∷ xs) n 0 in
    subst P next (rising (suc k) (omega arith))

below-all : (x : ℕ) (xs : List ℕ) → IsStrictlyIncreasing (x ∷ xs) → (frame : ℕ) → frame ≤ x
    → hits frame xs ≡ 0
below-all x [] rising frame le = refl
below-all x (y ∷ ys) rising frame le =
    let first = rising 0 (omega arith) in
    let parts = hits-cons frame y ys in
    let none = hit_other frame y (omega arith) in
    let later = below-all y ys (increasing-tail x (y ∷ ys) rising) frame (omega arith) in
    omega arith

pub increasing-once : (frames : List ℕ) → IsStrictlyIncreasing frames → (frame : ℕ)
    → hits frame frames ≤ 1
increasing-once [] rising frame = omega arith
increasing-once (x ∷ xs) rising frame =
    let parts = hits-cons frame x xs in
    elim (cases_eq x frame) [
      | inl same ↦
          (let none = below-all x xs rising frame (omega arith) in
          let here = hit_same frame in
          let P : ℕ → Type 0 = λ y. hit frame y ≡ 1 in
          let one = subst P (sym same) here in omega arith)
      | inr apart ↦
          (let none = hit_other frame x apart in
          let rest = increasing-once xs (increasing-tail x xs rising) frame in omega arith)
    ]

pub take-hits : (frame n : ℕ) (frames : List ℕ) → hits frame (take n frames) ≤ hits frame frames
take-hits frame n frames = let parts = hits-take-drop frame n frames in omega arith

two-hits : (xs : List ℕ) (i j d : ℕ) → i < j → j < length xs → get_or xs i d ≡ get_or xs j d
    → 2 ≤ hits (get_or xs i d) xs
two-hits [] i j d order within same = absurd (omega arith)
two-hits (x ∷ xs) zero zero d order within same = absurd (omega arith)
two-hits (x ∷ xs) zero (suc j) d order within same =
    let there = hits-get_or xs j d (omega arith) in
    let P : ℕ → Type 0 = λ y. 0 < hits y xs in
    let here = subst P (sym same) there in
    let first = hits-first x xs in
    omega arith
two-hits (x ∷ xs) (suc i) zero d order within same = absurd (omega arith)
two-hits (x ∷ xs) (suc i) (suc j) d order within same =
    let rest = two-hits xs i j d (omega arith) (omega arith) same in
    let later = hits-later (get_or xs i d) x xs in
    omega arith

pub once-pairs : (frames : List ℕ) → ((frame : ℕ) → hits frame frames ≤ 1)
    → AllPairs (λ a b. a ≢ b) frames
once-pairs frames once = λ i j d order within same.
    let two = two-hits frames i j d order within same in
    let one = once (get_or frames i d) in
    omega arith

-- ---- a frame for each page

pub has_enough : (bytes : List ℕ) (g : Held) → HasMemory bytes g
    → pages_of g.regions ≤ length g.frames
has_enough bytes g memory =
    let pages = need-pages g.regions in let size = memory.size in omega arith

-- ---- reserved frames

-- two ranges of whole frames that both have a frame share a byte
frame-meets : (frame host size other length : ℕ) → host / 4096 ≤ frame
    → frame < host / 4096 + size / 4096 → other / 4096 ≤ frame
    → frame < other / 4096 + length / 4096
    → meets (bytes_at host size) (bytes_at other length) ≡ true
frame-meets frame host size other length low high least most =
    lt-ltb (max host other) (min (host + size) (other + length)) (omega arith)

kind-apart : (frame host size : ℕ) → host / 4096 ≤ frame → frame < host / 4096 + size / 4096
    → (kind : Kind) (length : ℕ) → meets_host_of (bytes_at host size) length kind ≡ false
    → hits frame (kind_reserved kind (length / 4096)) ≡ 0
kind-apart frame host size low high Ram length apart = refl
kind-apart frame host size low high Rom length apart = refl
kind-apart frame host size low high (Reserved other) length apart =
    elim (cases_eq (hits frame (up_from (other / 4096) (length / 4096))) 0) [
      | inl none ↦ none
      | inr some ↦
          (let bounds = up_from-bounds frame (other / 4096) (length / 4096) (omega arith) in
          absurd (both_ways (meets (bytes_at host size) (bytes_at other length)) apart
          (frame-meets frame host size other length low high bounds.0 bounds.1)))
    ]
kind-apart frame host size low high (Alias target) length apart = refl
kind-apart frame host size low high (Device kind) length apart = refl

pub regions-apart : (frame host size : ℕ) → host / 4096 ≤ frame
    → frame < host / 4096 + size / 4096 → (rs : List Region)
    → list_any (meets_host (bytes_at host size)) rs ≡ false → hits frame (reserved_frames rs) ≡ 0
unfolding reserved_frames
regions-apart frame host size low high [] apart = refl
regions-apart frame host size low high (r ∷ rs) apart =
    let parts = or_parts (meets_host (bytes_at host size) r)
    (list_any (meets_host (bytes_at host size)) rs) apart in
    let here = kind-apart frame host size low high r.kind r.size parts.0 in
    let later = regions-apart frame host size low high rs parts.1 in
    let both = hits-append frame (kind_reserved r.kind (pages r)) (reserved_frames rs) in
    omega arith
