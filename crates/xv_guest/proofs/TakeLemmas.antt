-- What a guest has after it took: its frames are apart, and its memory is zero.
use Rattle.std.proofs.Common.{◌≡◌, ◌≢◌, ℕ, zero, suc, ◌+◌, ◌*◌, ◌/◌, ◌<◌, ◌≤◌, Bool, true}
use Rattle.std.proofs.Common.{false, not}
use Rattle.std.proofs.Common.{List, [], ◌∷◌, length, get_or, take, map}
use Rattle.std.proofs.Common.{refl, sym, ap, ◌∙◌, subst, arith, inl, inr, Some}
use Rattle.std.specs.List.{Contains, list_any, slice_get}
use Rattle.std.proofs.lemmas.Bool.{cases_eq}
use Rattle.std.proofs.lemmas.Option.{get_or_from_slice_get, slice_get_within}
use Rattle.std.proofs.lemmas.List.{length-take-le, take_all}
use Rattle.std.proofs.lemmas.List.Sums.{position_or_len_is}
use Rattle.xv_mem.proofs.Puts.{range_same}
use Rattle.xv_pool.specs.Resources.{Resources, IsSound}
use Rattle.xv_pte.specs.GStage.{frame_bytes, led}
use Rattle.xv_region.specs.declared.plan.Kind.{Kind}
use Rattle.xv_region.specs.declared.plan.Kind.TheVariants.{Ram, Rom, Reserved, Alias, Device}
use Rattle.xv_region.specs.declared.plan.Region.{Region}
use Rattle.xv_region.specs.Cell.{bytes_at}
use Rattle.xv_region.specs.Need.{need}
use Rattle.xv_region.specs.Rules.{Accepted, meets_host}
use Rattle.xv_region.proofs.RuleLemmas.{sound-each}
use Rattle.xv_lone.specs.Memory.{zeros_of}
use Rattle.xv_gstage.specs.Memory.{IsZero, IsZeroRoot, AreZero, HasFrames, AreApart, SameOutside}
use Rattle.xv_gstage.specs.Own.{pages, pages_of, page_frames, table_frames, kind_reserved}
use Rattle.xv_gstage.specs.Own.{own, reserved_frames}
use Rattle.xv_gstage.specs.Tidy.{IsTidy}
use Rattle.xv_guest.specs.Frames.{hits, root_frames, IsInside}
use Rattle.xv_guest.specs.Held.{Held, holds, memory_of, HasMemory, IsHeld}
use Rattle.xv_guest.specs.Take.{MayTake, least_root}
use Rattle.xv_guest.proofs.FrameLemmas.{hits-append, hits-take-drop}
use Rattle.xv_guest.proofs.HeldLemmas.{hits-Contains, Contains-hits, up_from-bounds}
use Rattle.xv_guest.proofs.HeldLemmas.{up_from-once, root-place, increasing-once}
use Rattle.xv_guest.proofs.HeldLemmas.{take-hits, once-pairs, regions-apart, has_enough}
use Rattle.xv_guest.proofs.ClearLemmas.{zero_inside, reserved-more}
use Rattle.xv_guest.proofs.RangeLemmas.{host_apart}
use Rattle.xv_guest.proofs.ZeroLemmas.{memory_zero}

-- the root that a pool hands out
pub least_is : (roots : List Bool) (root : ℕ) → slice_get roots root ≡ Some false
    → ((k : ℕ) → k < root → slice_get roots k ≡ Some true) → least_root roots ≡ root
least_is roots root is before =
    let within = slice_get_within roots root false is in
    position_or_len_is not roots root false (omega arith)
    (λ k below. ap not (get_or_from_slice_get roots k true false (before k below)))
    (λ lt. ap not (get_or_from_slice_get roots root false false is))

-- ---- reserved frames are apart

kind_once : (frame size : ℕ) (earlier : List Region) (kind : Kind) → ((host : ℕ)
    → kind ≡ Reserved host → list_any (meets_host (bytes_at host size)) earlier ≡ false)
    → hits frame (reserved_frames earlier) ≤ 1
    → hits frame (reserved_frames earlier) + hits frame (kind_reserved kind (size / 4096)) ≤ 1
kind_once frame size earlier Ram apart once = omega arith
kind_once frame size earlier Rom apart once = omega arith
kind_once frame size earlier (Reserved host) apart once =
    elim (cases_eq (hits frame (kind_reserved (Reserved host) (size / 4096))) 0) [
      | inl none ↦ omega arith
      | inr some ↦
          (let bounds = up_from-bounds frame (host / 4096) (size / 4096) (omega arith) in
          let one = up_from-once frame (host / 4096) (size / 4096) in
          let none = regions-apart frame host size bounds.0 bounds.1 earlier (apart host refl) in
          omega arith)
    ]
kind_once frame size earlier (Alias target) apart once = omega arith
kind_once frame size earlier (Device kind) apart once = omega arith

module _ (rs : List Region) (accepted : Accepted rs) (frame : ℕ) (d : Region) where
  front_once : (i : ℕ) → i ≤ length rs → hits frame (reserved_frames (take i rs)) ≤ 1
  unfolding reserved_frames
  front_once zero within = omega arith
  front_once (suc i) within =
      let r = get_or rs i d in
      let rest = front_once i (omega arith) in
      let both = hits-append frame (reserved_frames (take i rs)) (kind_reserved r.kind (pages r)) in
      let once = kind_once frame r.size (take i rs) r.kind
      (host_apart rs i d (omega arith) accepted) rest in
      let more = ap (hits frame) (reserved-more rs i d (omega arith)) in
      let next : i + 1 ≡ suc i = omega arith in
      let P : ℕ → Type 0 = λ n. hits frame (reserved_frames (take n rs)) ≤ 1 in
      subst P next (omega arith)

pub reserved_once : (rs : List Region) → Accepted rs → (frame : ℕ)
    → hits frame (reserved_frames rs) ≤ 1
unfolding reserved_frames
reserved_once [] accepted frame = omega arith
reserved_once (r ∷ rs) accepted frame =
    let P : List Region → Type 0 = λ xs. hits frame (reserved_frames xs) ≤ 1 in
    subst P (take_all (length (r ∷ rs)) (r ∷ rs) (omega arith))
    (front_once (r ∷ rs) accepted frame r (length (r ∷ rs)) (omega arith))

-- ---- what is taken

pub same_frame : (old new : List ℕ) (root : ℕ) (frames : List ℕ) (frame : ℕ)
    → SameOutside old new root frames → IsInside old frame → frame / 4 ≢ root
    → ¬ Contains frames frame → frame_bytes new frame ≡ frame_bytes old frame
same_frame old new root frames frame same inside apart out =
    let whole = same.whole in
    range_same new old (4096 * frame) (4096 * frame) 4096 (omega arith) inside (λ i lt.
    let place : (4096 * frame + i) / 4096 ≡ frame = omega arith in
    let block : (4096 * frame + i) / 16384 ≡ frame / 4 = omega arith in
    let P : ℕ → Type 0 = λ f. ¬ Contains frames f in
    let Q : ℕ → Type 0 = λ f. f ≢ root in
    same.bytes (4096 * frame + i) (subst Q (sym block) apart) (subst P (sym place) out))

-- what regions take of a pool
abbrev pub taken_held : Resources → List Region → Held
taken_held pool regions = record {
  root = least_root pool.roots;
  regions = regions;
  frames = take (need regions) pool.free;
}

module _ (bytes : List ℕ) (pool : Resources) (regions : List Region) (sound : IsSound pool)
    (accepted : Accepted regions) (may : MayTake bytes pool regions)
    (small : least_root pool.roots < 16) where
  list_le : (frame : ℕ) → hits frame (take (need regions) pool.free) ≤ hits frame pool.free
  list_le frame = take-hits frame (need regions) pool.free

  -- a frame of the root is none of the others
  root_low : (frame : ℕ) → 0 < hits frame (root_frames (least_root pool.roots)) → frame < 64
  root_low frame some = let place = root-place frame (least_root pool.roots) some in omega arith

  free_high : (frame : ℕ) → frame < 64 → hits frame pool.free ≡ 0
  free_high frame low =
      elim (cases_eq (hits frame pool.free) 0) [
        | inl none ↦ none
        | inr some ↦ (let high = (may.free frame (omega arith)).0 in absurd (omega arith))
      ]

  reserved_high : (frame : ℕ) → frame < 64 → hits frame (reserved_frames regions) ≡ 0
  reserved_high frame low =
      elim (cases_eq (hits frame (reserved_frames regions)) 0) [
        | inl none ↦ none
        | inr some ↦ (let high = (may.reserved frame (omega arith)).0 in absurd (omega arith))
      ]

  taken_once : (frame : ℕ) → holds frame (taken_held pool regions) ≤ 1
  taken_once frame =
      let of_root = up_from-once frame (4 * least_root pool.roots) 4 in
      let of_free = increasing-once pool.free sound.rising frame in
      let of_list = list_le frame in
      let of_regions = reserved_once regions accepted frame in
      elim (cases_eq (hits frame (root_frames (least_root pool.roots))) 0) [
        | inl no_root ↦ elim (cases_eq (hits frame (reserved_frames regions)) 0) [
          | inl none ↦ omega arith
          | inr some ↦ (let not_free = (may.reserved frame (omega arith)).1 in omega arith)
        ]
        | inr in_root ↦
            (let low = root_low frame (omega arith) in
            let not_free = free_high frame low in
            let not_reserved = reserved_high frame low in omega arith)
      ]

  taken_zero : (frame : ℕ) → 0 < holds frame (taken_held pool regions) → IsZero bytes frame
  taken_zero frame some =
      let of_list = list_le frame in
      elim (cases_eq (hits frame (root_frames (least_root pool.roots))) 0) [
        | inl no_root ↦ elim (cases_eq (hits frame (reserved_frames regions)) 0) [
          | inl none ↦ (may.free frame (omega arith)).1
          | inr there ↦ (may.reserved frame (omega arith)).2
        ]
        | inr in_root ↦
            may.root frame (root-place frame (least_root pool.roots) (omega arith))
      ]

  module _ (room : need regions ≤ length pool.free) where
    pub taken_count : length (take (need regions) pool.free) ≡ need regions
    taken_count = length-take-le (need regions) pool.free room

    in_list : (frame : ℕ) → Contains (take (need regions) pool.free) frame
        → (64 ≤ frame) × IsZero bytes frame
    in_list frame found =
        let hit = hits-Contains frame (take (need regions) pool.free) found in
        let of_list = list_le frame in
        may.free frame (omega arith)

    in_reserved : (frame : ℕ) → Contains (reserved_frames regions) frame
        → (64 ≤ frame) × (hits frame pool.free ≡ 0) × IsZero bytes frame
    in_reserved frame found =
        may.reserved frame (hits-Contains frame (reserved_frames regions) found)

    pub has_frames : HasFrames (length bytes) (least_root pool.roots) regions
        (take (need regions) pool.free)
    has_frames = record {
      lie = record {
        root_inside =
            let last = zero_inside bytes (4 * least_root pool.roots + 3)
            (may.root (4 * least_root pool.roots + 3) (omega arith)) in
            omega arith;
        inside = λ frame found. zero_inside bytes frame (in_list frame found).1;
      };
      enough = taken_count;
      once = once-pairs (take (need regions) pool.free) (λ frame.
          let of_list = list_le frame in
          let of_free = increasing-once pool.free sound.rising frame in omega arith);
      off_root = λ frame found same. (let high = (in_list frame found).0 in omega arith);
      reserved = λ frame found. zero_inside bytes frame (in_reserved frame found).2;
    }

    pub are_apart : AreApart (least_root pool.roots) regions (take (need regions) pool.free)
    are_apart = record {
      from_root = λ frame found same. (let high = (in_reserved frame found).0 in omega arith);
      from_list = λ frame found listed.
          (let none = (in_reserved frame found).1 in
          let hit = hits-Contains frame (take (need regions) pool.free) listed in
          let of_list = list_le frame in omega arith);
    }

    pub zero_tables : AreZero bytes (table_frames regions (take (need regions) pool.free))
    zero_tables = λ frame found.
        let frames = take (need regions) pool.free in
        let hit = hits-Contains frame (table_frames regions frames) found in
        let split = hits-take-drop frame (pages_of regions) frames in
        let of_list = list_le frame in
        (may.free frame (omega arith)).1

    module _ (new : List ℕ)
        (outside : SameOutside bytes new (least_root pool.roots)
        (table_frames regions (take (need regions) pool.free))) where
      pub taken_memory : HasMemory new (taken_held pool regions)
      taken_memory = record {
        once = taken_once;
        inside = λ frame some.
            let was = zero_inside bytes frame (taken_zero frame some) in
            let whole = outside.whole in omega arith;
        size = taken_count;
      }

      reserved_zero : (frame : ℕ) → 0 < hits frame (reserved_frames regions) → IsZero new frame
      reserved_zero frame some =
          let frames = take (need regions) pool.free in
          let facts = may.reserved frame some in
          same_frame bytes new (least_root pool.roots) (table_frames regions frames) frame outside
          (zero_inside bytes frame facts.2)
          (λ same. (let high = facts.0 in omega arith))
          (λ found.
          (let hit = hits-Contains frame (table_frames regions frames) found in
          let split = hits-take-drop frame (pages_of regions) frames in
          let of_list = list_le frame in
          let none = facts.1 in omega arith)) ∙ facts.2

      pub taken_zeros : ((frame : ℕ)
          → Contains (page_frames regions (take (need regions) pool.free)) frame
          → frame_bytes new frame ≡ frame_bytes bytes frame)
          → memory_of new (taken_held pool regions) ≡ map zeros_of regions
      taken_zeros same =
          let frames = take (need regions) pool.free in
          memory_zero new (taken_held pool regions) (sound-each regions accepted.sound)
          (has_enough new (taken_held pool regions) taken_memory)
          (λ frame some.
          let found = Contains-hits frame (page_frames regions frames) some in
          let split = hits-take-drop frame (pages_of regions) frames in
          let of_list = list_le frame in
          same frame found ∙ (may.free frame (omega arith)).1) reserved_zero

-- ---- the same of the numbers that were read

held_with : List Region → ℕ → List ℕ → Held
held_with regions root frames = record { root = root; regions = regions; frames = frames }

module _ (bytes : List ℕ) (pool : Resources) (regions : List Region) (sound : IsSound pool)
    (accepted : Accepted regions) (may : MayTake bytes pool regions) (root : ℕ)
    (frames : List ℕ) (root_is : root ≡ least_root pool.roots)
    (frames_are : frames ≡ take (need regions) pool.free) (small : root < 16)
    (room : need regions ≤ length pool.free) where
  low : least_root pool.roots < 16
  low = omega arith

  is_taken : record { root = root; regions = regions; frames = frames } ≡ taken_held pool regions
  unfolding held_with
  is_taken =
      ap (λ (r : ℕ). held_with regions r frames) root_is
      ∙ ap (held_with regions (least_root pool.roots)) frames_are

  pub read_frames : HasFrames (length bytes) root regions frames
  read_frames =
      let P : Held → Type 0 = λ g. HasFrames (length bytes) g.root g.regions g.frames in
      subst P (sym is_taken) (has_frames bytes pool regions sound accepted may low room)

  pub read_apart : AreApart root regions frames
  read_apart =
      let P : Held → Type 0 = λ g. AreApart g.root g.regions g.frames in
      subst P (sym is_taken) (are_apart bytes pool regions sound accepted may low room)

  pub read_tables : AreZero bytes (table_frames regions frames)
  read_tables =
      let P : Held → Type 0 = λ g. AreZero bytes (table_frames g.regions g.frames) in
      subst P (sym is_taken) (zero_tables bytes pool regions sound accepted may low room)

  pub read_root : IsZeroRoot bytes root
  read_root =
      let P : ℕ → Type 0 = λ r. IsZeroRoot bytes r in
      subst P (sym root_is) may.root

  module _ (new : List ℕ) (outside : SameOutside bytes new root (table_frames regions frames)) where
    outside_taken : SameOutside bytes new (least_root pool.roots)
        (table_frames regions (take (need regions) pool.free))
    outside_taken =
        let P : Held → Type 0 =
        λ g. SameOutside bytes new g.root (table_frames g.regions g.frames) in
        subst P is_taken outside

    pub read_held : ((page : ℕ) → led new root page ≡ own regions frames page)
        → IsTidy new root regions frames
        → IsHeld new (record { root = root; regions = regions; frames = frames })
    read_held is_led tidy = record {
      memory =
          let P : Held → Type 0 = λ g. HasMemory new g in
          subst P (sym is_taken)
          (taken_memory bytes pool regions sound accepted may low room new outside_taken);
      order = record { led = is_led; tidy = tidy };
    }

    pub read_memory : ((frame : ℕ) → Contains (page_frames regions frames) frame
        → frame_bytes new frame ≡ frame_bytes bytes frame)
        → memory_of new (record { root = root; regions = regions; frames = frames })
        ≡ map zeros_of regions
    read_memory same =
        let Q : Held → Type 0 =
        λ g. (frame : ℕ) → Contains (page_frames g.regions g.frames) frame
        → frame_bytes new frame ≡ frame_bytes bytes frame in
        ap (memory_of new) is_taken
        ∙ taken_zeros bytes pool regions sound accepted may low room new outside_taken
        (subst Q is_taken same)
