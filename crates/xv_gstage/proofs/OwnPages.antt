-- A page of memory has an own frame, which is the frame of its cells; every other page has none.
use Rattle.std.proofs.Common.{◌≡◌, ℕ, ◌+◌, ◌-◌, ◌*◌, ◌/◌, ◌%◌, ◌<◌, ◌≤◌, ◌==◌}
use Rattle.std.proofs.Common.{Bool, true, false, leb, List, [], length, get_or, take}
use Rattle.std.proofs.Common.{Option, Some, None, refl, sym, ap, ◌∙◌, subst, arith, ◌⊎◌}
use Rattle.std.specs.Prelude.{slice_get}
use Rattle.std.specs.List.{Contains, list_any, position}
use Rattle.std.proofs.lemmas.Bool.Decides.{nat_tests}
use Rattle.std.proofs.lemmas.List.{get_or_default}
use Rattle.std.proofs.lemmas.List.Quantifiers.{position-Some}
use Rattle.std.proofs.lemmas.Option.{get_or_from_slice_get}
use Rattle.xv_pte.specs.declared.g_entry.Mapping.{Mapping}
use Rattle.xv_region.specs.declared.cell.Cell.{Cell}
use Rattle.xv_region.specs.declared.cell.Cell.TheVariants as cells
use Rattle.xv_region.specs.declared.fault.RegionFault.{RegionFault}
use Rattle.xv_region.specs.declared.plan.Kind.{Kind}
use Rattle.xv_region.specs.declared.plan.Kind.TheVariants.{Ram, Rom, Reserved, Alias, Device}
use Rattle.xv_region.specs.declared.plan.Region.{Region}
use Rattle.xv_region.specs.Cell.{bytes_at, cell, cell_from, cell_within, holds, nowhere, one_hop}
use Rattle.xv_region.specs.Need.{is_mapped}
use Rattle.xv_region.specs.Rules.{Accepted, holds_own, is_good_alias, is_good_host, is_real}
use Rattle.xv_region.specs.Rules.{kind_fault, unless}
use Rattle.xv_region.proofs.CellLemmas.{cell-none}
use Rattle.xv_region.proofs.RuleLemmas.{both, kind-kept}
use Rattle.xv_gstage.specs.Own.{IsWhole, frame_of, is_memory_page, maps_page, mapping_of, own}
use Rattle.xv_gstage.specs.Own.{own_of}
use Rattle.xv_gstage.specs.Own.{page_frames, pages_of, reserved_frames}
use Rattle.xv_gstage.proofs.CellsOf.{any-at, cell-at, holds-parts, some-at, to-holds}
use Rattle.xv_gstage.proofs.CellsOf.{whole-at}
use Rattle.xv_gstage.proofs.OwnLemmas.{frame-ram, frame-reserved, frame-rom, frame-where}

-- the cells of a page that begin at an offset of a region, and the frame under them
pub record IsUnder (regions : List Region) (frames : List ℕ) (region offset : ℕ)
    (mapping : Mapping) : Type 0 where
  pub frame : frame_of regions frames region (offset / 4096) ≡ Some mapping.frame
  pub reserved : (r : Region) (host : ℕ) → slice_get regions region ≡ Some r
      → r.kind ≡ Reserved host → 4096 * mapping.frame ≡ host + offset

pub record IsOwn (regions : List Region) (frames : List ℕ) (page region offset : ℕ)
    (mapping : Mapping) : Type 0 where
  pub under : IsUnder regions frames region offset mapping
  pub cells : (i : ℕ) → i < 4096
      → cell regions (4096 * page + i) 1 ≡ cells.Memory region (offset + i) mapping.writable

pub unless-kept : (b : Bool) (fault : RegionFault) → unless b fault ≡ None → b ≡ true
unless-kept true fault is = refl
unless-kept false fault is = absurd cc

pub zero_of : (n : ℕ) → (n == 0) ≡ true → n ≡ 0
zero_of n is = grind (arith, nat_tests)

-- bytes that lie in a region
pub lies : (a n : ℕ) (r : Region) → holds (bytes_at a n) r ≡ true
    → (r.base ≤ a) × (a + n ≤ r.base + r.size)
lies a n r is =
    let parts = both (leb r.base a) (leb (a + n) (r.base + r.size)) is in
    let low = parts.0 in
    let high = parts.1 in
    let one : r.base ≤ a = grind (arith, nat_tests) in
    let two : a + n ≤ r.base + r.size = grind (arith, nat_tests) in
    (one, two)

real_mapped : (kind : Kind) → is_real kind ≡ true → is_mapped kind ≡ true
real_mapped Ram is = refl
real_mapped Rom is = refl
real_mapped (Reserved host) is = refl
real_mapped (Alias target) is = cc
real_mapped (Device kind) is = cc

module _ (regions : List Region) (accepted : Accepted regions) (frames : List ℕ)
    (room : pages_of regions ≤ length frames) where
  -- what its own kind's rule says of a region
  rule : (n : ℕ) (r : Region) (kind : Kind) → n < length regions → r ≡ get_or regions n r
      → r.kind ≡ kind → kind_fault accepted.area regions (take n regions) n r.size kind ≡ None
  rule n r kind lt read is =
      let P : Region → Type 0 =
      λ x. kind_fault accepted.area regions (take n regions) n x.size x.kind ≡ None in
      let Q : Kind → Type 0 =
      λ k. kind_fault accepted.area regions (take n regions) n r.size k ≡ None in
      subst Q is
      (subst P (sym read) (kind-kept accepted.area regions accepted.faultless n r lt))

  host_whole : (n host : ℕ) (r : Region) → n < length regions → r ≡ get_or regions n r
      → r.kind ≡ Reserved host → host % 4096 ≡ 0
  host_whole n host r lt read is =
      let good = unless-kept (is_good_host accepted.area (take n regions) host r.size) _
      (rule n r (Reserved host) lt read is) in
      zero_of (host % 4096) (both (host % 4096 == 0) _ good).0

  -- the kind of a region that the list has there
  kind_is : (n host : ℕ) (r s : Region) → n < length regions → r ≡ get_or regions n r
      → slice_get regions n ≡ Some s → s ≡ r
  kind_is n host r s lt read at = sym (get_or_from_slice_get regions n s r at) ∙ sym read

  -- a page of a region that is memory of its own, from byte b on
  module _ (n b : ℕ) (r : Region) (lt : n < length regions) (read : r ≡ get_or regions n r)
      (real : is_real r.kind ≡ true) (low : r.base ≤ b) (high : b + 4096 ≤ r.base + r.size)
      (even : b % 4096 ≡ 0) where
    offset : ℕ
    offset = b - r.base

    cells_at : (kind : Kind) (writable : Bool) → r.kind ≡ kind
        → ((hop : ℕ → Cell) (o : ℕ) → cell_within hop n o kind ≡ cells.Memory n o writable)
        → (hop : ℕ → Cell) (i : ℕ) → i < 4096
        → cell_from hop 0 regions (b + i) 1 ≡ cells.Memory n (b - r.base + i) writable
    cells_at kind writable is plain hop i less =
        let place : b + i - r.base ≡ b - r.base + i = omega arith in
        cell-at regions accepted hop (b + i) n r lt read
        (to-holds (b + i) r (omega arith) (omega arith))
        ∙ ap (λ (k : Kind). cell_within hop n (b + i - r.base) k) is
        ∙ plain hop (b + i - r.base)
        ∙ ap (λ (o : ℕ). cells.Memory n o writable) place

    base_whole : r.base % 4096 ≡ 0
    base_whole = (whole-at regions accepted n r lt read).start (real_mapped r.kind real)

    below : (b - r.base) / 4096 < r.size / 4096
    below =
        let start = base_whole in
        let len = (whole-at regions accepted n r lt read).len (real_mapped r.kind real) in
        omega arith

    record Real : Type 0 where
      mapping : Mapping
      under : IsUnder regions frames n (b - r.base) mapping
      cells : (hop : ℕ → Cell) (i : ℕ) → i < 4096 → cell_from hop 0 regions (b + i) 1
          ≡ cells.Memory n (b - r.base + i) mapping.writable

    not_reserved : (kind : Kind) → r.kind ≡ kind
        → ((host : ℕ) → kind ≡ Reserved host → ⊥) → (frame : ℕ) (s : Region) (host : ℕ)
        → slice_get regions n ≡ Some s → s.kind ≡ Reserved host
        → 4096 * frame ≡ host + (b - r.base)
    not_reserved kind is other frame s host at reserved =
        let same = kind_is n host r s lt read at in
        let kinds : kind ≡ Reserved host =
        sym is ∙ ap (λ (x : Region). x.kind) (sym same) ∙ reserved in
        absurd (other host kinds)

    from_list : (kind : Kind) (writable : Bool) → r.kind ≡ kind
        → ((hop : ℕ → Cell) (o : ℕ) → cell_within hop n o kind ≡ cells.Memory n o writable)
        → ((host : ℕ) → kind ≡ Reserved host → ⊥) → (frame : ℕ)
        → Some frame ≡ frame_of regions frames n ((b - r.base) / 4096) → Real
    from_list kind writable is plain other frame at = record {
      mapping = record { frame = frame; writable = writable };
      under = record { frame = sym at; reserved = not_reserved kind is other frame };
      cells = cells_at kind writable is plain;
    }

    of_kind : (kind : Kind) → r.kind ≡ kind → is_real kind ≡ true → Real
    of_kind Ram is real =
        from_list Ram true is (λ hop o. refl) (λ host e. cc) _
        (frame-ram regions frames n ((b - r.base) / 4096) r lt read below room is)
    of_kind Rom is real =
        from_list Rom false is (λ hop o. refl) (λ host e. cc) _
        (frame-rom regions frames n ((b - r.base) / 4096) r lt read below room is)
    of_kind (Reserved host) is real = record {
      mapping = record { frame = host / 4096 + (b - r.base) / 4096; writable = true };
      under = record {
        frame = sym (frame-reserved regions frames n ((b - r.base) / 4096) r lt read below host is);
        reserved = λ s other at reserved.
            let same = kind_is n host r s lt read at in
            let kinds : Reserved host ≡ Reserved other =
            sym is ∙ ap (λ (x : Region). x.kind) (sym same) ∙ reserved in
            let hosts : host ≡ other = cc in
            let even_host = host_whole n host r lt read is in
            let start = base_whole in
            omega arith;
      };
      cells = cells_at (Reserved host) true is (λ hop o. refl);
    }
    of_kind (Alias target) is real = cc
    of_kind (Device kind) is real = cc

    real-page : Real
    real-page = of_kind r.kind refl real

  -- ---- a page of memory

  module _ (page : ℕ) where
    pub record Owned : Type 0 where
      pub mapping : Mapping
      pub region : ℕ
      pub offset : ℕ
      pub whole : offset % 4096 ≡ 0
      pub own : IsOwn regions frames page region offset mapping

    module _ (n : ℕ) (r : Region) (lt : n < length regions) (read : r ≡ get_or regions n r)
        (mapped : is_mapped r.kind ≡ true) (here : holds (bytes_at (4096 * page) 1) r ≡ true)
      where
        whole : IsWhole r
        whole = whole-at regions accepted n r lt read

        bounds : (r.base ≤ 4096 * page) × (4096 * page + 4096 ≤ r.base + r.size)
        bounds =
            let parts = holds-parts (4096 * page) r here in
            let low = parts.0 in
            let high = parts.1 in
            let start = whole.start mapped in
            let len = whole.len mapped in
            (low, omega arith)

        direct : is_real r.kind ≡ true → Owned
        unfolding cell
        direct real =
            let even : 4096 * page % 4096 ≡ 0 = omega arith in
            let start = whole.start mapped in
            let low = bounds.0 in
            let found = real-page n (4096 * page) r lt read real bounds.0 bounds.1 even in
            record {
              mapping = found.mapping;
              region = n;
              offset = 4096 * page - r.base;
              whole = omega arith;
              own = record {
                under = found.under;
                cells = λ i less. found.cells (one_hop regions 1) i less;
              };
            }

        -- the region that an alias leads into
        through : (target : ℕ) → r.kind ≡ Alias target → Owned
        unfolding cell
        through target is =
            let good = unless-kept (is_good_alias regions target r.size) _
            (rule n r (Alias target) lt read is) in
            let parts = both (target % 4096 == 0)
            (list_any (holds_own (bytes_at target r.size)) regions) good in
            let even : target % 4096 ≡ 0 = zero_of (target % 4096) parts.0 in
            let found = some-at (holds_own (bytes_at target r.size)) regions parts.1 in
            let m = found.0 in
            let s = found.1 in
            let facts = both (is_real s.kind) (holds (bytes_at target r.size) s) found.4 in
            let inside = lies target r.size s facts.1 in
            let start = whole.start mapped in
            let len = whole.len mapped in
            let low = bounds.0 in
            let high = bounds.1 in
            let s_low = inside.0 in
            let s_high = inside.1 in
            let s_start =
            (whole-at regions accepted m s found.2 found.3).start (real_mapped s.kind facts.0) in
            let b = target + (4096 * page - r.base) in
            let b_even : (target + (4096 * page - r.base)) % 4096 ≡ 0 = omega arith in
            let at = real-page m (target + (4096 * page - r.base)) s found.2 found.3 facts.0
            (omega arith) (omega arith) b_even in
            record {
              mapping = at.mapping;
              region = m;
              offset = target + (4096 * page - r.base) - s.base;
              whole = omega arith;
              own = record {
                under = at.under;
                cells = λ i less.
                    let place : target + (4096 * page + i - r.base)
                    ≡ target + (4096 * page - r.base) + i = omega arith in
                    cell-at regions accepted (one_hop regions 1) (4096 * page + i) n r lt read
                    (to-holds (4096 * page + i) r (omega arith) (omega arith))
                    ∙ ap (λ (k : Kind).
                    cell_within (one_hop regions 1) n (4096 * page + i - r.base) k) is
                    ∙ ap (λ (a : ℕ). cell_from nowhere 0 regions a 1) place
                    ∙ at.cells nowhere i less;
              };
            }

        by_kind : (kind : Kind) → r.kind ≡ kind → is_mapped kind ≡ true → Owned
        by_kind Ram is m = direct (ap is_real is)
        by_kind Rom is m = direct (ap is_real is)
        by_kind (Reserved host) is m = direct (ap is_real is)
        by_kind (Alias target) is m = through target is
        by_kind (Device kind) is m = cc

    pub own-page : is_memory_page regions page ≡ true → Owned
    unfolding is_memory_page
    own-page memory =
        let found = some-at (maps_page page) regions memory in
        let r = found.1 in
        let parts = both (is_mapped r.kind) (holds (bytes_at (4096 * page) 1) r) found.4 in
        by_kind found.0 r found.2 found.3 parts.0 parts.1 r.kind refl parts.0

    own_from : (o : Owned) → own regions frames page ≡ Some o.mapping
    unfolding own
    own_from o =
        let place : 4096 * page + 0 ≡ 4096 * page = omega arith in
        let whole : o.offset + 0 ≡ o.offset = omega arith in
        let here : cell regions (4096 * page) 1
        ≡ cells.Memory o.region o.offset o.mapping.writable =
        ap (λ (a : ℕ). cell regions a 1) (sym place)
        ∙ o.own.cells 0 (omega arith)
        ∙ ap (λ (k : ℕ). cells.Memory o.region k o.mapping.writable) whole in
        ap (own_of regions frames) here
        ∙ ap (mapping_of o.mapping.writable) o.own.under.frame

    pub own-is : (memory : is_memory_page regions page ≡ true)
        → own regions frames page ≡ Some (own-page memory).mapping
    own-is memory = own_from (own-page memory)

    -- where an own frame stands
    pub own-where : (mapping : Mapping) → own regions frames page ≡ Some mapping
        → Contains (page_frames regions frames) mapping.frame
        ⊎ Contains (reserved_frames regions) mapping.frame
    unfolding own
    own-where mapping e = from_cell (cell regions (4096 * page) 1) e
      where
        from_frame : (writable : Bool) (n i : ℕ) (o : Option ℕ) → frame_of regions frames n i ≡ o
            → mapping_of writable o ≡ Some mapping
            → Contains (page_frames regions frames) mapping.frame
            ⊎ Contains (reserved_frames regions) mapping.frame
        from_frame writable n i None at e = cc
        from_frame writable n i (Some frame) at e =
            let same : frame ≡ mapping.frame = ap (λ (m : Mapping). m.frame) (some_injective e) in
            frame-where regions frames n i mapping.frame
            (at ∙ ap (λ (k : ℕ). Some k) same)
          where
            some_injective : {x y : Mapping} → Some x ≡ Some y → x ≡ y
            some_injective e = cc

        from_cell : (c : Cell) → own_of regions frames c ≡ Some mapping
            → Contains (page_frames regions frames) mapping.frame
            ⊎ Contains (reserved_frames regions) mapping.frame
        from_cell (cells.Memory n offset writable) e =
            from_frame writable n (offset / 4096) (frame_of regions frames n (offset / 4096)) refl
            e
        from_cell (cells.Device n offset) e = cc
        from_cell cells.Nothing e = cc

-- ---- a page that is none of the memory

module _ (regions : List Region) (accepted : Accepted regions) where
  device-cell : (hop : ℕ → Cell) (n o : ℕ) (kind : Kind) → is_mapped kind ≡ false
      → cell_within hop n o kind ≡ cells.Device n o
  device-cell hop n o Ram is = cc
  device-cell hop n o Rom is = cc
  device-cell hop n o (Reserved host) is = cc
  device-cell hop n o (Alias target) is = cc
  device-cell hop n o (Device kind) is = refl

  -- no cell of memory but in a page of it
  pub memory-cell : (gpa region offset : ℕ) (writable : Bool)
      → cell regions gpa 1 ≡ cells.Memory region offset writable
      → is_memory_page regions (gpa / 4096) ≡ true
  unfolding cell is_memory_page
  memory-cell gpa region offset writable e = by (position (holds (bytes_at gpa 1)) regions) refl
    where
      mapped : (n : ℕ) (r : Region) → n < length regions → r ≡ get_or regions n r
          → holds (bytes_at gpa 1) r ≡ true → (b : Bool) → is_mapped r.kind ≡ b
          → is_mapped r.kind ≡ true
      mapped n r lt read here true is = is
      mapped n r lt read here false is =
          let none : cell_from (one_hop regions 1) 0 regions gpa 1 ≡ cells.Device n (gpa - r.base) =
          cell-at regions accepted (one_hop regions 1) gpa n r lt read here
          ∙ device-cell (one_hop regions 1) n (gpa - r.base) r.kind is in
          cc

      by : (o : Option ℕ) → position (holds (bytes_at gpa 1)) regions ≡ o
          → list_any (maps_page (gpa / 4096)) regions ≡ true
      by None at = let none = cell-none (one_hop regions 1) gpa 1 regions at in cc
      by (Some n) at =
          let found = position-Some (holds (bytes_at gpa 1)) regions n first at in
          let r = get_or regions n first in
          let read : r ≡ get_or regions n r = get_or_default regions n first r found.0 in
          let is = mapped n r found.0 read found.1 (is_mapped r.kind) refl in
          let start = (whole-at regions accepted n r found.0 read).start is in
          let parts = holds-parts gpa r found.1 in
          let low = parts.0 in
          let high = parts.1 in
          let here = to-holds (4096 * (gpa / 4096)) r (omega arith) (omega arith) in
          any-at (maps_page (gpa / 4096)) regions n r found.0 read (rw (is, here) refl)
        where
          first : Region
          first = record { name = []; base = 0; size = 0; kind = Ram }

  pub own-none : (frames : List ℕ) (page : ℕ) → is_memory_page regions page ≡ false
      → own regions frames page ≡ None
  unfolding own
  own-none frames page outside = by (cell regions (4096 * page) 1) refl
    where
      by : (c : Cell) → cell regions (4096 * page) 1 ≡ c → own_of regions frames c ≡ None
      by (cells.Memory n offset writable) e =
          let place : 4096 * page / 4096 ≡ page = omega arith in
          let yes' = memory-cell (4096 * page) n offset writable e in
          let same = ap (is_memory_page regions) place in
          cc
      by (cells.Device n offset) e = refl
      by cells.Nothing e = refl
