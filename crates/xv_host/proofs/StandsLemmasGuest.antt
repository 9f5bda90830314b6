-- One guest: its tables lead to its own memory and to nothing else.
use Rattle.std.proofs.Common.{◌≡◌, ◌↔◌, ℕ, ◌+◌, ◌*◌, ◌/◌, ◌%◌, ◌<◌, ◌≤◌}
use Rattle.std.proofs.Common.{Bool, true, false, List, [], get_or, map, drop}
use Rattle.std.proofs.Common.{Some, refl, sym, ap, ◌∙◌, subst, arith, inl, inr}
use Rattle.std.specs.Prelude.{slice_get}
use Rattle.std.specs.List.{sum_by}
use Rattle.std.proofs.lemmas.Bool.{cases_lt}
use Rattle.xv_mem.proofs.Puts.{get_or-range}
use Rattle.xv_pte.specs.declared.g_entry.Mapping.{Mapping}
use Rattle.xv_pte.specs.declared.g_stage.Leaf.{Leaf}
use Rattle.xv_pte.specs.GStage.{IsTableOf, leaf_at, led, walked}
use Rattle.xv_pte.proofs.WalkPages.{page_of_leaf}
use Rattle.xv_region.specs.declared.cell.Cell.TheVariants as cells
use Rattle.xv_region.specs.declared.plan.Kind.TheVariants.{Reserved}
use Rattle.xv_region.specs.declared.plan.Region.{Region}
use Rattle.xv_region.specs.Cell.{cell}
use Rattle.xv_region.specs.Rules.{Accepted}
use Rattle.xv_gstage.specs.Memory.{IsZero}
use Rattle.xv_gstage.specs.Own.{frame_of, is_memory_page, own, pages_of, region_frames}
use Rattle.xv_gstage.specs.Own.{table_frames}
use Rattle.xv_gstage.specs.Stands.{Filled, IsUnled, RightCell}
use Rattle.xv_gstage.specs.Tidy.{used_tables}
use Rattle.xv_gstage.proofs.OwnPages.{memory-cell, own-is, own-none, own-page}
use Rattle.xv_lone.specs.Memory.{Place}
use Rattle.xv_guest.specs.Frames.{IsInside, bytes_under, hits, root_frames}
use Rattle.xv_guest.specs.Held.{Held, IsHeld, holds, memory_of}
use Rattle.xv_guest.proofs.FrameLemmas.{hits-take-drop}
use Rattle.xv_guest.proofs.HeldLemmas.{has_enough, Contains-hits, hits-Contains, take-hits}
use Rattle.xv_guest.proofs.MemoryLemmas.{under-held}
use Rattle.xv_guest.proofs.ZeroLemmas.{pages-hits}
use Rattle.xv_host.specs.Spots.{place_in}
use Rattle.xv_host.proofs.SpotLemmas.{IsIn, in_hit, place_found, region_at, spot}
use Rattle.xv_host.proofs.StandsLemmasFrames.{cell_writes, in_found, own_frame}
use Rattle.xv_host.proofs.StandsLemmasFrames.{regions_all, writes_in}

pub some_same : {X : Type 0} {x y : X} → Some x ≡ Some y → x ≡ y
some_same e = cc

-- a byte of a frame that stands under a region
byte_under : (bytes : List ℕ) (lists : List (List ℕ)) (region index frame i : ℕ)
    → ((other : ℕ) → 0 < sum_by (hits other) lists → IsInside bytes other)
    → IsIn lists region index frame → i < 4096
    → get_or (get_or (map (bytes_under bytes) lists) region []) (4096 * index + i) 0
    ≡ get_or bytes (4096 * frame + i) 0
byte_under bytes lists region index frame i inside is less =
    sym (get_or-range (get_or (map (bytes_under bytes) lists) region []) (4096 * index) 4096 i 0
    less)
    ∙ ap (λ (piece : List ℕ). get_or piece i 0)
    (region_at bytes lists region index frame inside is)
    ∙ get_or-range bytes (4096 * frame) 4096 i 0 less

module _ (g : Held) (bytes : List ℕ) (accepted : Accepted g.regions) (held : IsHeld bytes g) where
  -- ---- where an address is led

  -- the cell of an address that is led, and the frame that it stands in
  pub record IsLed (gpa : ℕ) (leaf : Leaf) : Type 0 where
    pub region : ℕ
    pub index : ℕ
    pub frame : ℕ
    pub under : IsIn (region_frames g.regions g.frames) region index frame
    pub host : leaf.host ≡ 4096 * frame + gpa % 4096
    pub cell_is : cell g.regions gpa 1
        ≡ cells.Memory region (4096 * index + gpa % 4096) leaf.writable
    pub reserved : (r : Region) (first : ℕ) → slice_get g.regions region ≡ Some r
        → r.kind ≡ Reserved first → leaf.host ≡ first + (4096 * index + gpa % 4096)

  in_lists : (region index frame : ℕ) → frame_of g.regions g.frames region index ≡ Some frame
      → IsIn (region_frames g.regions g.frames) region index frame
  unfolding frame_of
  in_lists region index frame is = is

  to_lists : (region index frame : ℕ) → IsIn (region_frames g.regions g.frames) region index frame
      → frame_of g.regions g.frames region index ≡ Some frame
  unfolding frame_of
  to_lists region index frame is = is

  -- a page that has an own frame is one of memory
  memory_page : (page : ℕ) (mapping : Mapping) → own g.regions g.frames page ≡ Some mapping
      → is_memory_page g.regions page ≡ true
  memory_page page mapping e = by (is_memory_page g.regions page) refl
    where
      by : (b : Bool) → is_memory_page g.regions page ≡ b → is_memory_page g.regions page ≡ true
      by true is = is
      by false is = let none = own-none g.regions accepted g.frames page is in cc

  pub led_at : (gpa : ℕ) (leaf : Leaf) → walked bytes g.root gpa ≡ Some leaf → IsLed gpa leaf
  led_at gpa leaf e =
      let at = page_of_leaf gpa (led bytes g.root (gpa / 4096)) leaf e in
      let own_is : own g.regions g.frames (gpa / 4096) ≡ Some at.0 =
      sym (held.order.led (gpa / 4096)) ∙ at.1 in
      let memory = memory_page (gpa / 4096) at.0 own_is in
      let room = has_enough bytes g held.memory in
      let o = own-page g.regions accepted g.frames room (gpa / 4096) memory in
      let is = own-is g.regions accepted g.frames room (gpa / 4096) memory in
      let same : o.mapping ≡ at.0 = some_same (sym is ∙ own_is) in
      let frame : o.mapping.frame ≡ at.0.frame = ap (λ (m : Mapping). m.frame) same in
      let writable : o.mapping.writable ≡ leaf.writable =
      ap (λ (m : Mapping). m.writable) same ∙ sym at.2.writable in
      let split : gpa ≡ 4096 * (gpa / 4096) + gpa % 4096 = omega arith in
      let offset : o.offset + gpa % 4096 ≡ 4096 * (o.offset / 4096) + gpa % 4096 =
      omega (arith, o.whole) in
      let host : leaf.host ≡ 4096 * o.mapping.frame + gpa % 4096 =
      omega (arith, frame, at.2.frame, at.2.offset) in
      record {
        region = o.region;
        index = o.offset / 4096;
        frame = o.mapping.frame;
        under = in_lists o.region (o.offset / 4096) o.mapping.frame o.own.under.frame;
        host = host;
        cell_is =
            ap (λ (a : ℕ). cell g.regions a 1) split
            ∙ o.own.cells (gpa % 4096) (omega arith)
            ∙ ap (λ (k : ℕ). cells.Memory o.region k o.mapping.writable) offset
            ∙ ap (λ (w : Bool).
            cells.Memory o.region (4096 * (o.offset / 4096) + gpa % 4096) w) writable;
        reserved = λ r first read kind.
            let first_is = o.own.under.reserved r first read kind in
            omega (arith, first_is, host, offset);
      }

  pub right_cell : RightCell bytes g.root g.regions
  right_cell gpa leaf e =
      let l = led_at gpa leaf e in (
        l.region,
        4096 * l.index + gpa % 4096,
        record { cell = l.cell_is; reserved = l.reserved },
      )

  pub filled : Filled bytes g.root g.regions
  filled gpa region offset writable e =
      let memory = memory-cell g.regions accepted gpa region offset writable e in
      let room = has_enough bytes g held.memory in
      let o = own-page g.regions accepted g.frames room (gpa / 4096) memory in
      let is = own-is g.regions accepted g.frames room (gpa / 4096) memory in (
        record {
          host = 4096 * o.mapping.frame + gpa % 4096;
          writable = o.mapping.writable;
        },
        ap (leaf_at gpa) (held.order.led (gpa / 4096) ∙ is),
      )

  -- ---- the byte there

  pub same_byte : (gpa : ℕ) (leaf : Leaf) → walked bytes g.root gpa ≡ Some leaf
      → (region offset : ℕ) (writable : Bool)
      → cell g.regions gpa 1 ≡ cells.Memory region offset writable
      → get_or (get_or (memory_of bytes g) region []) offset 0 ≡ get_or bytes leaf.host 0
  unfolding memory_of
  same_byte gpa leaf e region offset writable is =
      let l = led_at gpa leaf e in
      let one : cells.Memory region offset writable
      ≡ cells.Memory l.region (4096 * l.index + gpa % 4096) leaf.writable = sym is ∙ l.cell_is in
      let regions : region ≡ l.region = cc in
      let offsets : offset ≡ 4096 * l.index + gpa % 4096 = cc in
      ap (λ (r : ℕ). get_or (get_or (memory_of bytes g) r []) offset 0) regions
      ∙ ap (λ (o : ℕ). get_or (get_or (memory_of bytes g) l.region []) o 0) offsets
      ∙ byte_under bytes (region_frames g.regions g.frames) l.region l.index l.frame (gpa % 4096)
      (λ other some. let under = under-held other g in held.memory.inside other (omega arith))
      l.under (omega arith)
      ∙ ap (λ (a : ℕ). get_or bytes a 0) (sym l.host)

  -- ---- two addresses

  once : (frame : ℕ) → sum_by (hits frame) (region_frames g.regions g.frames) ≤ 1
  once frame =
      let under = under-held frame g in
      let most = held.memory.once frame in
      omega arith

  place_is : (gpa : ℕ) (leaf : Leaf) (l : IsLed gpa leaf)
      → place_in 0 (region_frames g.regions g.frames) leaf.host
      ≡ spot (0 + l.region) (4096 * l.index + gpa % 4096)
  place_is gpa leaf l =
      ap (place_in 0 (region_frames g.regions g.frames)) l.host
      ∙ place_found 0 (region_frames g.regions g.frames) l.region l.index l.frame (gpa % 4096)
      (once l.frame) l.under (omega arith)

  pub one_cell : (a b : ℕ) (l m : Leaf) → walked bytes g.root a ≡ Some l
      → walked bytes g.root b ≡ Some m
      → (l.host ≡ m.host) ↔ (cell g.regions a 1 ≡ cell g.regions b 1)
  one_cell a b l m one two =
      let x = led_at a l one in
      let y = led_at b m two in (
        λ same. same_cell x y same,
        λ same. same_host x y (sym x.cell_is ∙ same ∙ y.cell_is),
      )
    where
      same_cell : (x : IsLed a l) (y : IsLed b m) → l.host ≡ m.host
          → cell g.regions a 1 ≡ cell g.regions b 1
      same_cell x y same =
          let places : spot (0 + x.region) (4096 * x.index + a % 4096)
          ≡ spot (0 + y.region) (4096 * y.index + b % 4096) =
          sym (place_is a l x)
          ∙ ap (place_in 0 (region_frames g.regions g.frames)) same
          ∙ place_is b m y in
          let from_regions = ap (λ (p : Place). p.region) places in
          let regions : x.region ≡ y.region = omega arith in
          let offsets = ap (λ (p : Place). p.offset) places in
          let writable : l.writable ≡ m.writable =
          cell_writes g.regions a x.region (4096 * x.index + a % 4096) l.writable x.cell_is
          ∙ ap (λ (n : ℕ). writes_at n) regions
          ∙ sym (cell_writes g.regions b y.region (4096 * y.index + b % 4096) m.writable
          y.cell_is) in
          x.cell_is
          ∙ ap (λ (r : ℕ). cells.Memory r (4096 * x.index + a % 4096) l.writable) regions
          ∙ ap (λ (o : ℕ). cells.Memory y.region o l.writable) offsets
          ∙ ap (λ (w : Bool). cells.Memory y.region (4096 * y.index + b % 4096) w) writable
          ∙ sym y.cell_is
        where
          writes_at : ℕ → Bool
          writes_at n = writes_in (slice_get g.regions n)

      same_host : (x : IsLed a l) (y : IsLed b m)
          → cells.Memory x.region (4096 * x.index + a % 4096) l.writable
          ≡ cells.Memory y.region (4096 * y.index + b % 4096) m.writable
          → l.host ≡ m.host
      same_host x y same =
          let regions : x.region ≡ y.region = cc in
          let offsets : 4096 * x.index + a % 4096 ≡ 4096 * y.index + b % 4096 = cc in
          let index : x.index ≡ y.index = omega arith in
          let there : frame_of g.regions g.frames y.region y.index ≡ Some x.frame =
          ap (λ (r : ℕ). frame_of g.regions g.frames r y.index) (sym regions)
          ∙ (ap (λ (i : ℕ). frame_of g.regions g.frames x.region i) (sym index)
          ∙ to_lists x.region x.index x.frame x.under) in
          let frame : x.frame ≡ y.frame =
          some_same (sym there ∙ to_lists y.region y.index y.frame y.under) in
          omega (arith, x.host, y.host)

  -- ---- frames

  -- a frame that is led to is held, and is none of the root's or of the tables'
  pub record IsApart (frame : ℕ) : Type 0 where
    pub is_held : 0 < holds frame g
    pub root : hits frame (root_frames g.root) ≡ 0
    pub tables : hits frame (table_frames g.regions g.frames) ≡ 0

  pub led_apart : (gpa : ℕ) (leaf : Leaf) → walked bytes g.root gpa ≡ Some leaf
      → IsApart (leaf.host / 4096)
  led_apart gpa leaf e =
      let l = led_at gpa leaf e in
      let there : l.frame ≡ leaf.host / 4096 = omega (arith, l.host) in
      let some = in_hit (region_frames g.regions g.frames) l.region l.index l.frame l.under in
      let under = under-held l.frame g in
      let most = held.memory.once l.frame in
      let of_pages = pages-hits l.frame g.regions g.frames in
      let parts = hits-take-drop l.frame (pages_of g.regions) g.frames in
      subst IsApart there (record {
        is_held = omega arith;
        root = omega arith;
        tables = omega arith;
      })

  pub table_hits : (table : ℕ) → IsTableOf bytes g.root table
      → 0 < hits table (table_frames g.regions g.frames)
  table_hits table is =
      let used = held.order.tidy.0 in
      let among = (held.order.tidy.1.tables table).0 is in
      let some = hits-Contains table (used_tables g.regions g.frames used) among in
      let all = take-hits table used (table_frames g.regions g.frames) in
      omega arith

  pub table_held : (table : ℕ) → IsTableOf bytes g.root table → 0 < holds table g
  table_held table is =
      let some = table_hits table is in
      let parts = hits-take-drop table (pages_of g.regions) g.frames in
      omega arith

  -- a frame that is held and no root's is a table, or zero, or led to
  pub held_zero : (frame : ℕ) → 0 < holds frame g → hits frame (root_frames g.root) ≡ 0
      → (IsTableOf bytes g.root frame → ⊥) → IsUnled bytes g.root frame → IsZero bytes frame
  held_zero frame some off_root no_table unled =
      elim (cases_lt 0 (hits frame (table_frames g.regions g.frames))) [
        | inl of_tables ↦
            (let parts = hits-take-drop frame used (table_frames g.regions g.frames) in
            elim (cases_lt 0 (hits frame (used_tables g.regions g.frames used))) [
              | inl in_use ↦
                  absurd (no_table ((held.order.tidy.1.tables frame).1
                  (Contains-hits frame (used_tables g.regions g.frames used) in_use)))
              | inr spare ↦
                  held.order.tidy.1.spare frame
                  (Contains-hits frame (drop used (table_frames g.regions g.frames))
                  (omega arith))
            ])
        | inr none ↦
            (let all = regions_all frame g.regions g.frames in
            let found = in_found frame (region_frames g.regions g.frames) (omega arith) in
            let o = own_frame g.regions accepted g.frames found.0 found.1 frame
            (to_lists found.0 found.1 frame found.2) in
            absurd (led_there o.page o.mapping o.own_is o.frame_is))
      ]
    where
      used : ℕ
      used = held.order.tidy.0

      led_there : (page : ℕ) (mapping : Mapping) → own g.regions g.frames page ≡ Some mapping
          → mapping.frame ≡ frame → ⊥
      led_there page mapping own_is frame_is =
          let place : 4096 * page / 4096 ≡ page = omega arith in
          let walk : walked bytes g.root (4096 * page) ≡ Some (record {
            host = 4096 * mapping.frame + 4096 * page % 4096;
            writable = mapping.writable;
          }) = ap (λ (p : ℕ). leaf_at (4096 * page) (led bytes g.root p)) place
          ∙ ap (leaf_at (4096 * page)) (held.order.led page ∙ own_is) in
          unled (4096 * page) _ walk (omega (arith, frame_is))
