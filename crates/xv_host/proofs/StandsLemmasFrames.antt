-- The frames of one guest: each one under its regions is led to, and its cells' permission is that
-- of their region.
use Rattle.std.proofs.Common.{◌≡◌, ℕ, suc, ◌+◌, ◌-◌, ◌*◌, ◌/◌, ◌<◌}
use Rattle.std.proofs.Common.{Bool, true, false, cond, List, [], ◌∷◌, length, get_or, drop}
use Rattle.std.proofs.Common.{Option, Some, None, refl, sym, ap, ◌∙◌, subst, arith, inl, inr}
use Rattle.std.specs.Prelude.{slice_get}
use Rattle.std.specs.List.{sum_by}
use Rattle.std.proofs.lemmas.Bool.{cases_lt, cases_eq}
use Rattle.std.proofs.lemmas.List.{drop-drop, get_or_default}
use Rattle.std.proofs.lemmas.List.Sums.{sum_by-cons}
use Rattle.xv_pte.specs.declared.g_entry.Mapping.{Mapping}
use Rattle.xv_region.specs.declared.cell.Cell.{Cell}
use Rattle.xv_region.specs.declared.cell.Cell.TheVariants as cells
use Rattle.xv_region.specs.declared.plan.Kind.{Kind}
use Rattle.xv_region.specs.declared.plan.Kind.TheVariants.{Ram, Rom, Reserved, Alias, Device}
use Rattle.xv_region.specs.declared.plan.Region.{Region}
use Rattle.xv_region.specs.Cell.{bytes_at, cell, cell_from, cell_within, holds, nowhere, one_hop}
use Rattle.xv_region.specs.Need.{is_mapped, own_pages}
use Rattle.xv_region.specs.Rules.{Accepted}
use Rattle.xv_gstage.specs.Own.{frame_of, kind_frames, kind_reserved, mapping_of, own, own_of}
use Rattle.xv_gstage.specs.Own.{pages, pages_of, region_frames, reserved_frames, table_frames}
use Rattle.xv_gstage.proofs.CellsOf.{cell-at, to-holds, whole-at}
use Rattle.xv_gstage.proofs.OwnLemmas.{frame-alias, frame-kind, frame-none, frame-past}
use Rattle.xv_guest.specs.Frames.{hits}
use Rattle.xv_guest.proofs.FrameLemmas.{hit_other, hits-append, hits-cons, region-hits}
use Rattle.xv_host.proofs.SpotLemmas.{IsIn}

-- ---- frames under regions

hit_found : (frame : ℕ) (xs : List ℕ) → 0 < hits frame xs
    → (i : ℕ) × (slice_get xs i ≡ Some frame)
hit_found frame [] some = absurd (omega arith)
hit_found frame (x ∷ xs) some = elim (cases_eq x frame) [
  | inl same ↦ (0, ap (λ (n : ℕ). Some n) same)
  | inr apart ↦
      (let parts = hits-cons frame x xs in
      let none = hit_other frame x apart in
      let found = hit_found frame xs (omega arith) in
      (suc found.0, found.1))
]

pub in_found : (frame : ℕ) (lists : List (List ℕ)) → 0 < sum_by (hits frame) lists
    → (region : ℕ) × (index : ℕ) × IsIn lists region index frame
in_found frame [] some = absurd (omega arith)
in_found frame (xs ∷ lists) some =
    let parts = sum_by-cons (hits frame) xs lists in
    elim (cases_lt 0 (hits frame xs)) [
      | inl here ↦ (let found = hit_found frame xs here in (0, found.0, found.1))
      | inr none ↦
          (let found = in_found frame lists (omega arith) in
          (suc found.0, found.1, found.2))
    ]

-- the frames of a list and the reserved ones stand under the regions or are those of tables
pub regions_all : (frame : ℕ) (rs : List Region) (frames : List ℕ)
    → sum_by (hits frame) (region_frames rs frames) + hits frame (table_frames rs frames)
    ≡ hits frame frames + hits frame (reserved_frames rs)
unfolding region_frames reserved_frames
regions_all frame [] frames = omega arith
regions_all frame (r ∷ rs) frames =
    let rest = regions_all frame rs (drop (own_pages r) frames) in
    let here = region-hits frame r.size r.kind frames in
    let reserved = hits-append frame (kind_reserved r.kind (pages r)) (reserved_frames rs) in
    let parts = sum_by-cons (hits frame) (kind_frames r.kind (pages r) frames)
    (region_frames rs (drop (own_pages r) frames)) in
    let last = ap (hits frame) (drop-drop (pages_of rs) (own_pages r) frames
    ∙ ap (λ (n : ℕ). drop n frames) (sym (sum_by-cons own_pages r rs))) in
    omega arith

-- ---- a frame under a region is the own frame of a page

pub record IsOwnFrame (regions : List Region) (frames : List ℕ) (frame : ℕ) : Type 0 where
  pub page : ℕ
  pub mapping : Mapping
  pub own_is : own regions frames page ≡ Some mapping
  pub frame_is : mapping.frame ≡ frame

clash : {X Y : Type 0} {x : X} {o : Option X} → o ≡ Some x → o ≡ None → Y
clash some none = cc

module _ (regions : List Region) (accepted : Accepted regions) (frames : List ℕ)
    (n i frame : ℕ) (under : frame_of regions frames n i ≡ Some frame) where
  module _ (r : Region) (within : n < length regions) (read : r ≡ get_or regions n r)
      (low : i < r.size / 4096) where
    real : (kind : Kind) (writable : Bool) → r.kind ≡ kind → is_mapped kind ≡ true
        → ((hop : ℕ → Cell) (o : ℕ) → cell_within hop n o kind ≡ cells.Memory n o writable)
        → IsOwnFrame regions frames frame
    unfolding cell own
    real kind writable is mapped plain =
        let page = r.base / 4096 + i in
        let whole = whole-at regions accepted n r within read in
        let start = whole.start (ap is_mapped is ∙ mapped) in
        let here = to-holds (4096 * (r.base / 4096 + i)) r (omega arith) (omega arith) in
        let at = cell-at regions accepted (one_hop regions 1) (4096 * page) n r within read here
        ∙ ap (λ (k : Kind). cell_within (one_hop regions 1) n (4096 * page - r.base) k) is
        ∙ plain (one_hop regions 1) (4096 * page - r.base) in
        let index : (4096 * (r.base / 4096 + i) - r.base) / 4096 ≡ i = omega arith in
        record {
          page = page;
          mapping = record { frame = frame; writable = writable };
          own_is =
              ap (own_of regions frames) at
              ∙ ap (λ (k : ℕ). mapping_of writable (frame_of regions frames n k)) index
              ∙ ap (mapping_of writable) under;
          frame_is = refl;
        }

    by_kind : (kind : Kind) → r.kind ≡ kind → IsOwnFrame regions frames frame
    by_kind Ram is = real Ram true is refl (λ hop o. refl)
    by_kind Rom is = real Rom false is refl (λ hop o. refl)
    by_kind (Reserved host) is = real (Reserved host) true is refl (λ hop o. refl)
    by_kind (Alias target) is =
        clash under (sym (frame-alias regions frames n i r within read low target is))
    by_kind (Device kind) is =
        clash under (frame-kind regions frames n i r within read (Device kind) is)

  pub own_frame : IsOwnFrame regions frames frame
  own_frame = elim (cases_lt n (length regions)) [
    | inl within ↦
        (let r = get_or regions n first in
        let read = get_or_default regions n first r within in
        elim (cases_lt i (r.size / 4096)) [
          | inl low ↦ by_kind r within read low r.kind refl
          | inr past ↦
              clash under (sym (frame-none regions frames n i r within read past))
        ])
    | inr past ↦ clash under (frame-past regions frames n i past)
  ]
    where
      first : Region
      first = record { name = []; base = 0; size = 0; kind = Ram }

-- ---- the permission of a cell

abbrev writes : Kind → Bool
writes Ram = true
writes Rom = false
writes (Reserved host) = true
writes (Alias target) = false
writes (Device kind) = false

abbrev pub writes_in : Option Region → Bool
writes_in None = false
writes_in (Some r) = writes r.kind

module _ (writable_at : ℕ → Bool) where
  abbrev Keeps : Cell → Type 0
  Keeps (cells.Memory region offset writable) = writable ≡ writable_at region
  Keeps (cells.Device region offset) = Unit {0}
  Keeps cells.Nothing = Unit {0}

  module _ (hop : ℕ → Cell) (hops : (a : ℕ) → Keeps (hop a)) where
    keeps_within : (i offset : ℕ) (kind : Kind) → writable_at i ≡ writes kind
        → Keeps (cell_within hop i offset kind)
    keeps_within i offset Ram is = sym is
    keeps_within i offset Rom is = sym is
    keeps_within i offset (Reserved host) is = sym is
    keeps_within i offset (Alias target) is = hops (target + offset)
    keeps_within i offset (Device kind) is = tt

    keeps_from : (i : ℕ) (rs : List Region) → ((k : ℕ) (r : Region) → slice_get rs k ≡ Some r
        → writable_at (i + k) ≡ writes r.kind) → (a n : ℕ) → Keeps (cell_from hop i rs a n)
    keeps_from i [] each a n = tt
    keeps_from i (r ∷ rs) each a n =
        let here : i + 0 ≡ i = omega arith in
        either (holds (bytes_at a n) r) (cell_within hop i (a - r.base) r.kind)
        (cell_from hop (suc i) rs a n)
        (keeps_within i (a - r.base) r.kind
        (ap writable_at (sym here) ∙ each 0 r refl))
        (keeps_from (suc i) rs (λ k s is.
        let next : suc i + k ≡ i + suc k = omega arith in
        ap writable_at next ∙ each (suc k) s is) a n)
      where
        either : (b : Bool) (c d : Cell) → Keeps c → Keeps d → Keeps (cond b c d)
        either true c d one other = one
        either false c d one other = other

pub cell_writes : (regions : List Region) (gpa region offset : ℕ) (writable : Bool)
    → cell regions gpa 1 ≡ cells.Memory region offset writable
    → writable ≡ writes_in (slice_get regions region)
unfolding cell
cell_writes regions gpa region offset writable is =
    subst (Keeps at) is
    (keeps_from at (one_hop regions 1)
    (λ a. keeps_from at nowhere (λ b. tt) 0 regions each a 1) 0 regions each gpa 1)
  where
    at : ℕ → Bool
    at n = writes_in (slice_get regions n)

    each : (k : ℕ) (r : Region) → slice_get regions k ≡ Some r
        → writes_in (slice_get regions (0 + k)) ≡ writes r.kind
    each k r is =
        let same : 0 + k ≡ k = omega arith in
        ap (λ (n : ℕ). writes_in (slice_get regions n)) same ∙ ap writes_in is
