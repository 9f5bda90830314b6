-- The bytes of a guest's regions, one frame and one region after another.
use Rattle.std.proofs.Common.{◌≡◌, ℕ, ◌+◌, ◌/◌, ◌^◌, ◌<◌, ◌≤◌, List, [], ◌∷◌, ◌++◌, length, get_or}
use Rattle.std.proofs.Common.{take, drop}
use Rattle.std.proofs.Common.{Some, None, refl, sym, ap, ◌∙◌, subst, arith, inl, inr, append_assoc}
use Rattle.std.specs.List.{concat}
use Rattle.std.proofs.lemmas.Bool.{cases_lt}
use Rattle.std.proofs.lemmas.List.{append-nil, length-map, take_all, take_more}
use Rattle.std.proofs.lemmas.List.Folds.{concat-append}
use Rattle.std.proofs.lemmas.Option.{slice_get-get_or, slice_get_past}
use Rattle.xv_pte.specs.GStage.{frame_bytes}
use Rattle.xv_region.specs.declared.plan.Kind.TheVariants.{Ram}
use Rattle.xv_region.specs.declared.plan.Region.{Region}
use Rattle.xv_region.specs.Rules.{Accepted}
use Rattle.xv_region.proofs.RuleLemmas.{sound-bounded}
use Rattle.xv_gstage.specs.Own.{frame_at, frame_of, pages_of, region_frames}
use Rattle.xv_gstage.proofs.OwnLemmas.{frame-in, frame-past, kind-past, length_frames}
use Rattle.xv_guest.specs.Frames.{IsInside, bytes_under}
use Rattle.xv_guest.specs.Held.{HasMemory, Held, memory_of, region_bytes}
use Rattle.xv_guest.proofs.CellLemmas.{frame_there, frames_inside, frames_under, region_under}
use Rattle.xv_guest.proofs.FrameLemmas.{hits-get_or}

-- ---- which pages have a frame

module _ (g : Held) (region index : ℕ) where
  past_frames : length (frames_under g region) ≤ index
      → frame_of g.regions g.frames region index ≡ None
  unfolding frame_of
  past_frames past =
      let lists = region_frames g.regions g.frames in
      elim (cases_lt region (length lists)) [
        | inl within ↦
            ap (λ o. frame_at o index) (slice_get-get_or lists region [] within)
            ∙ slice_get_past (get_or lists region []) index past
        | inr beyond ↦ ap (λ o. frame_at o index) (slice_get_past lists region beyond)
      ]

  module _ (frame : ℕ) (is : frame_of g.regions g.frames region index ≡ Some frame) where
    pub index_within : index < length (frames_under g region)
    index_within = elim (cases_lt index (length (frames_under g region))) [
      | inl within ↦ within
      | inr past ↦ absurd (let none = past_frames past in cc)
    ]

    pub index_small : Accepted g.regions → index < 2 ^ 41
    index_small accepted = elim (cases_lt region (length g.regions)) [
      | inl within ↦
          (let r = get_or g.regions region no_region in
          let end = sound-bounded g.regions region no_region accepted.sound within in
          elim (cases_lt index (r.size / 4096)) [
            | inl low ↦ omega arith
            | inr past ↦
                absurd (let here = frame-in g.regions g.frames region index no_region within in
                let none = kind-past (drop (pages_of (take region g.regions)) g.frames) r.kind
                (r.size / 4096) index past in
                cc)
          ])
      | inr beyond ↦
          absurd (let none = frame-past g.regions g.frames region index beyond in cc)
    ]
      where
        no_region : Region
        no_region = record { name = []; base = 0; size = 0; kind = Ram }

    module _ (bytes : List ℕ) (memory : HasMemory bytes g) where
      pub frame_is : frame ≡ get_or (frames_under g region) index 0
      frame_is = let there = frame_there bytes g memory region index index_within in cc

      pub frame_lies : IsInside bytes frame
      frame_lies =
          subst (IsInside bytes) (sym frame_is)
          (frames_inside bytes g memory region (get_or (frames_under g region) index 0)
          (hits-get_or (frames_under g region) index 0 index_within))

-- ---- a region, frame after frame

under_append : (bytes xs ys : List ℕ)
    → bytes_under bytes (xs ++ ys) ≡ bytes_under bytes xs ++ bytes_under bytes ys
unfolding bytes_under
under_append bytes [] ys = refl
under_append bytes (x ∷ xs) ys =
    ap (λ (rest : List ℕ). frame_bytes bytes x ++ rest) (under_append bytes xs ys)
    ∙ sym (append_assoc (frame_bytes bytes x) (bytes_under bytes xs) (bytes_under bytes ys))

pub fed_none : (bytes xs fed : List ℕ) → fed ≡ fed ++ bytes_under bytes (take 0 xs)
unfolding bytes_under
fed_none bytes xs fed = sym (append-nil fed)

pub fed_more : (bytes xs fed : List ℕ) (index frame : ℕ) → index < length xs
    → frame ≡ get_or xs index 0
    → fed ++ bytes_under bytes (take index xs) ++ frame_bytes bytes frame
    ≡ fed ++ bytes_under bytes (take (index + 1) xs)
unfolding bytes_under
fed_more bytes xs fed index frame within is =
    append_assoc fed (bytes_under bytes (take index xs)) (frame_bytes bytes frame)
    ∙ ap (λ (f : ℕ). fed ++ (bytes_under bytes (take index xs) ++ frame_bytes bytes f)) is
    ∙ ap (λ (next : List ℕ). fed ++ (bytes_under bytes (take index xs) ++ next))
    (sym (append-nil (frame_bytes bytes (get_or xs index 0))))
    ∙ ap (λ (all : List ℕ). fed ++ all)
    (sym (under_append bytes (take index xs) (get_or xs index 0 ∷ [])))
    ∙ ap (λ (ys : List ℕ). fed ++ bytes_under bytes ys) (sym (take_more xs index 0 within))

pub fed_all : (bytes : List ℕ) (g : Held) (memory : HasMemory bytes g) (region index : ℕ)
    (fed : List ℕ) → frame_of g.regions g.frames region index ≡ None
    → fed ++ bytes_under bytes (take index (frames_under g region))
    ≡ fed ++ region_bytes bytes g region
fed_all bytes g memory region index fed none =
    let xs = frames_under g region in
    ap (λ (ys : List ℕ). fed ++ bytes_under bytes ys) (take_all index xs most)
    ∙ ap (λ (all : List ℕ). fed ++ all) (sym (region_under bytes g region))
  where
    most : length (frames_under g region) ≤ index
    most = elim (cases_lt index (length (frames_under g region))) [
      | inl within ↦
          absurd (let some = frame_there bytes g memory region index within in cc)
      | inr past ↦ past
    ]

-- ---- region after region

pub concat_more : (lists : List (List ℕ)) (k : ℕ) → k < length lists
    → concat (take k lists) ++ get_or lists k [] ≡ concat (take (k + 1) lists)
concat_more lists k within =
    ap (λ (last : List ℕ). concat (take k lists) ++ last) (sym (append-nil (get_or lists k [])))
    ∙ sym (concat-append (take k lists) (get_or lists k [] ∷ []))
    ∙ ap concat (sym (take_more lists k [] within))

pub memory_length : (bytes : List ℕ) (g : Held)
    → length (memory_of bytes g) ≡ length g.regions
unfolding memory_of
memory_length bytes g =
    length-map (region_frames g.regions g.frames) (bytes_under bytes)
    ∙ length_frames g.regions g.frames
