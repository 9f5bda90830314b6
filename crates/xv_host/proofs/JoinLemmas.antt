-- Host memory through a guest's tables is the memory of its lone machine.
use Rattle.std.proofs.Common.{◌≡◌, ◌≢◌, ℕ, ◌+◌, ◌*◌, ◌/◌, ◌%◌, ◌<◌, ◌≤◌, ◌==◌, ◌&&◌}
use Rattle.std.proofs.Common.{Bool, true, false, List, [], length, get_or, set, refl, sym, ap, ◌∙◌}
use Rattle.std.proofs.Common.{subst, arith, inl, inr, Some, None, option_map}
use Rattle.std.specs.List.{sum_by}
use Rattle.std.proofs.lemmas.Bool.{cases_eq, eq-eqb, ne_eqb}
use Rattle.xv_mem.specs.Bytes.{word_at, put, put_word}
use Rattle.xv_mem.proofs.Words.{put_word_is, length-little_bytes}
use Rattle.xv_pte.specs.declared.g_stage.Leaf.{Leaf}
use Rattle.xv_pte.specs.GStage.{leaf_at, walked}
use Rattle.xv_step.specs.Bus.{Spot}
use Rattle.xv_step.proofs.BusLemmas.{AreJoined, Nothing}
use Rattle.xv_step.proofs.WidthLemmas.{IsWidth, One, Two, Four, Eight, IsAccess}
use Rattle.xv_region.specs.declared.cell.Cell.{Cell}
use Rattle.xv_region.specs.declared.cell.Cell.TheVariants as cells
use Rattle.xv_region.specs.declared.plan.Region.{Region}
use Rattle.xv_region.specs.Cell.{cell}
use Rattle.xv_region.specs.Plan.{Plan}
use Rattle.xv_region.specs.Rules.{Accepted}
use Rattle.xv_lone.specs.Memory as lone
use Rattle.xv_lone.specs.Memory.{Memory, Place, load_place, put_place, store_place, spot_at}
use Rattle.xv_lone.specs.Step.{lone_bus, same_place}
use Rattle.xv_gstage.specs.Own.{frame_of, is_memory_page, region_frames}
use Rattle.xv_gstage.proofs.OwnPages.{Owned, own-page, own-is, own-none, memory-cell}
use Rattle.xv_guest.specs.Frames.{hits, IsInside}
use Rattle.xv_guest.specs.Held.{Held, IsHeld, Within, memory_of}
use Rattle.byteorder.specs.Endian.{little_bytes}
use Rattle.std.proofs.Math.Bool.{and-false}
use Rattle.xv_guest.proofs.HeldLemmas.{has_enough}
use Rattle.xv_guest.proofs.MemoryLemmas.{under-held}
use Rattle.xv_guest.proofs.LawLemmas.{put_there, put_within, put_held}
use Rattle.xv_host.specs.Join.{StandsIn, IsGoodFor}
use Rattle.xv_host.specs.Spots.{place_of}
use Rattle.xv_hart.specs.Stage.{spot_of, stage_bus}
use Rattle.xv_host.proofs.CellWidths.{accepted_bounds, cell_first}
use Rattle.xv_host.proofs.SpotLemmas.{IsIn, in_hit, place_found, spot, word_under}

-- an aligned access ends in its page
in_page : (width gpa : ℕ) → IsAccess width gpa → gpa % 4096 + width ≤ 4096
in_page width gpa access = go width access.bytes access.aligned
  where
    go : (w : ℕ) → IsWidth w → gpa % w ≡ 0 → gpa % 4096 + w ≤ 4096
    go _ One aligned = omega arith
    go _ Two aligned = omega arith
    go _ Four aligned = omega arith
    go _ Eight aligned = omega arith

some_width : {w : ℕ} → IsWidth w → 0 < w
some_width One = omega arith
some_width Two = omega arith
some_width Four = omega arith
some_width Eight = omega arith

some_same : {X : Type 0} {x y : X} → Some x ≡ Some y → x ≡ y
some_same e = cc

same_self : (p : Place) → same_place p p ≡ true
same_self p = rw (eq-eqb p.region p.region refl, eq-eqb p.offset p.offset refl) refl

fits_piece : {g : Held} {at : ℕ} (width value : ℕ) (s : StandsIn g width at)
    → s.offset + length (little_bytes width value) ≤ 4096
fits_piece width value s =
    let size = length-little_bytes width value in omega (arith, s.fits)

pub within_both : {g : Held} (first middle last : List ℕ) → Within g first middle
    → Within g middle last → Within g first last
within_both first middle last one two = record {
  whole = two.whole ∙ one.whole;
  others = λ frame inside none.
      two.others frame (omega (arith, one.whole, inside)) none ∙ one.others frame inside none;
}

abbrev spot_with : Place → Bool → Spot Place
spot_with place writable = record { place = place; writable = writable }

module _ (g : Held) (plan : Plan) (bytes : List ℕ) (same : plan.regions ≡ g.regions)
    (accepted : Accepted g.regions) (held : IsHeld bytes g) where
  lists : List (List ℕ)
  lists = region_frames g.regions g.frames

  seen : ℕ → Place
  seen at = place_of g at

  once : (frame : ℕ) → sum_by (hits frame) (region_frames g.regions g.frames) ≤ 1
  once frame =
      let under = under-held frame g in
      let most = held.memory.once frame in
      omega arith

  in_lists : (region index frame : ℕ) → frame_of g.regions g.frames region index ≡ Some frame
      → IsIn (region_frames g.regions g.frames) region index frame
  unfolding frame_of
  in_lists region index frame is = is

  -- the place of a byte that stands in the guest's frames
  seen_at : (width at : ℕ) (s : StandsIn g width at)
      → place_of g at ≡ spot s.region (4096 * s.index + s.offset)
  seen_at width at s =
      ap (place_of g) s.place
      ∙ place_found 0 (region_frames g.regions g.frames) s.region s.index s.frame s.offset
      (once s.frame) (in_lists s.region s.index s.frame s.under) (omega (arith, s.fits, s.some))
      ∙ ap (λ (r : ℕ). spot r (4096 * s.index + s.offset)) (omega arith)

  -- ---- where an access finds its bytes

  abbrev seen_spot : Spot ℕ → Spot Place
  seen_spot s = record { place = place_of g s.place; writable = s.writable }

  -- a page of memory
  module _ (width gpa : ℕ) (access : IsAccess width gpa)
      (memory : is_memory_page g.regions (gpa / 4096) ≡ true) where
    abbrev owned : Owned g.regions accepted g.frames (has_enough bytes g held.memory) (gpa / 4096)
    owned = own-page g.regions accepted g.frames (has_enough bytes g held.memory) (gpa / 4096)
        memory

    leaf_is : walked bytes g.root gpa ≡ Some (record {
      host = 4096 * owned.mapping.frame + gpa % 4096;
      writable = owned.mapping.writable;
    })
    leaf_is =
        ap (leaf_at gpa) (held.order.led (gpa / 4096)
        ∙ own-is g.regions accepted g.frames (has_enough bytes g held.memory) (gpa / 4096) memory)

    cell_is : cell g.regions gpa 1
        ≡ cells.Memory owned.region (owned.offset + gpa % 4096) owned.mapping.writable
    cell_is =
        ap (λ (a : ℕ). cell g.regions a 1) split ∙ owned.own.cells (gpa % 4096) (omega arith)
      where
        split : gpa ≡ 4096 * (gpa / 4096) + gpa % 4096
        split = omega arith

    abbrev stands_here : StandsIn g width (4096 * owned.mapping.frame + gpa % 4096)
    stands_here = record {
      some = some_width access.bytes;
      region = owned.region;
      index = owned.offset / 4096;
      frame = owned.mapping.frame;
      offset = gpa % 4096;
      under = owned.own.under.frame;
      place = refl;
      fits = in_page width gpa access;
    }

    place_is : place_of g (4096 * owned.mapping.frame + gpa % 4096)
        ≡ spot owned.region (owned.offset + gpa % 4096)
    place_is =
        let there : 4096 * (owned.offset / 4096) + gpa % 4096 ≡ owned.offset + gpa % 4096 =
        omega (arith, owned.whole) in
        seen_at width (4096 * owned.mapping.frame + gpa % 4096) stands_here
        ∙ ap (λ (o : ℕ). spot owned.region o) there

  -- the two buses find alike
  to_spot : (region offset : ℕ) (writable : Bool) (at : ℕ)
      → place_of g at ≡ spot region offset
      → lone.spot_of (cells.Memory region offset writable)
      ≡ Some (seen_spot (record { place = at; writable = writable }))
  to_spot region offset writable at is =
      ap (λ (p : Place). Some (spot_with p writable)) (sym is)

  no_cell : (gpa : ℕ) → is_memory_page g.regions (gpa / 4096) ≡ false
      → lone.spot_of (cell g.regions gpa 1) ≡ None
  no_cell gpa outside = go (cell g.regions gpa 1) refl
    where
      clash : (b : Bool) → b ≡ false → b ≡ true → {X : Type 0} → X
      clash true is_not is = cc
      clash false is_not is = cc

      go : (c : Cell) → cell g.regions gpa 1 ≡ c → lone.spot_of c ≡ None
      go (cells.Memory region offset writable) is =
          clash (is_memory_page g.regions (gpa / 4096)) outside
          (memory-cell g.regions accepted gpa region offset writable is)
      go (cells.Device region offset) is = refl
      go cells.Nothing is = refl

  unled : (gpa : ℕ) → is_memory_page g.regions (gpa / 4096) ≡ false → walked bytes g.root gpa ≡ None
  unled gpa outside =
      ap (leaf_at gpa) (held.order.led (gpa / 4096)
      ∙ own-none g.regions accepted g.frames (gpa / 4096) outside)

  find_same : (width gpa : ℕ) → IsAccess width gpa → spot_at plan width gpa
      ≡ option_map seen_spot (option_map spot_of (walked bytes g.root gpa))
  find_same width gpa access =
      ap (λ (rs : List Region). lone.spot_of (cell rs gpa width)) same
      ∙ ap lone.spot_of (cell_first g.regions width gpa (accepted_bounds g.regions accepted) access)
      ∙ by_page (is_memory_page g.regions (gpa / 4096)) refl
    where
      by_page : (b : Bool) → is_memory_page g.regions (gpa / 4096) ≡ b
          → lone.spot_of (cell g.regions gpa 1)
          ≡ option_map seen_spot (option_map spot_of (walked bytes g.root gpa))
      by_page true memory =
          ap lone.spot_of (cell_is width gpa access memory)
          ∙ to_spot (owned width gpa access memory).region
          ((owned width gpa access memory).offset + gpa % 4096)
          (owned width gpa access memory).mapping.writable
          (4096 * (owned width gpa access memory).mapping.frame + gpa % 4096)
          (place_is width gpa access memory)
          ∙ sym (ap (λ l. option_map seen_spot (option_map spot_of l))
          (leaf_is width gpa access memory))
      by_page false outside =
          no_cell gpa outside
          ∙ sym (ap (λ l. option_map seen_spot (option_map spot_of l)) (unled gpa outside))

  stands_found : (width gpa : ℕ) (found : Spot ℕ) → IsAccess width gpa
      → option_map spot_of (walked bytes g.root gpa) ≡ Some found → StandsIn g width found.place
  stands_found width gpa found access is = by_page (is_memory_page g.regions (gpa / 4096)) refl
    where
      by_page : (b : Bool) → is_memory_page g.regions (gpa / 4096) ≡ b
          → StandsIn g width found.place
      by_page true memory =
          let host = 4096 * (owned width gpa access memory).mapping.frame + gpa % 4096 in
          let led = ap (option_map spot_of) (leaf_is width gpa access memory) in
          let there : host ≡ found.place = cc in
          subst (StandsIn g width) there (stands_here width gpa access memory)
      by_page false outside =
          let led = ap (option_map spot_of) (unled gpa outside) in
          cc

  -- the frame to which an address is led lies in the memory
  pub leaf_inside : (gpa : ℕ) (leaf : Leaf) → walked bytes g.root gpa ≡ Some leaf
      → IsInside bytes (leaf.host / 4096)
  leaf_inside gpa leaf is =
      let s = stands_found 1 gpa (spot_of leaf) (record { bytes = One; aligned = omega arith })
      (ap (option_map spot_of) is) in
      let some = in_hit (region_frames g.regions g.frames) s.region s.index s.frame
      (in_lists s.region s.index s.frame s.under) in
      let under = under-held s.frame g in
      let inside = held.memory.inside s.frame (omega arith) in
      omega (arith, s.place, s.fits, s.some)

  -- ---- what stands at a place

  load_same : (memory : List ℕ) (width at : ℕ) → IsGoodFor g bytes memory → StandsIn g width at
      → load_place (memory_of memory g) (place_of g at) width ≡ word_at width memory at
  unfolding memory_of
  load_same memory width at good s =
      ap (λ (p : Place). load_place (memory_of memory g) p width) (seen_at width at s)
      ∙ word_under width memory (region_frames g.regions g.frames) s.region s.index s.frame s.offset
      (λ other some_other.
      let under = under-held other g in
      good.held.memory.inside other (omega arith))
      (in_lists s.region s.index s.frame s.under) s.fits
      ∙ ap (word_at width memory) (sym s.place)

  put_same : (memory : List ℕ) (width at value : ℕ) → IsGoodFor g bytes memory
      → StandsIn g width at
      → put_place (memory_of memory g) (place_of g at) width value
      ≡ memory_of (put_word width memory at value) g
  put_same memory width at value good s =
      ap (λ (p : Place). put_place (memory_of memory g) p width value) (seen_at width at s)
      ∙ ap (λ (bs : List ℕ). set (memory_of memory g) s.region bs)
      (put_word_is width (get_or (memory_of memory g) s.region []) (4096 * s.index + s.offset)
      value)
      ∙ sym (put_there g s.region s.index s.frame s.under memory good.held.memory s.offset
      (little_bytes width value) (fits_piece width value s))
      ∙ ap (λ (bs : List ℕ). memory_of bs g)
      (sym (put_word_is width memory (4096 * s.frame + s.offset)
      value))
      ∙ ap (λ (a : ℕ). memory_of (put_word width memory a value) g) (sym s.place)

  good_after : (memory : List ℕ) (width at value : ℕ) → IsGoodFor g bytes memory
      → StandsIn g width at → IsGoodFor g bytes (put_word width memory at value)
  good_after memory width at value good s =
      subst (IsGoodFor g bytes) is (record {
        held = put_held g s.region s.index s.frame s.under memory good.held.memory s.offset
            (little_bytes width value) (fits_piece width value s) good.held.order;
        within = within_both bytes memory
            (put memory (4096 * s.frame + s.offset) (little_bytes width value)) good.within
            (put_within g s.region s.index s.frame s.under memory good.held.memory s.offset
            (little_bytes width value) (fits_piece width value s));
      })
    where
      is : put memory (4096 * s.frame + s.offset) (little_bytes width value)
          ≡ put_word width memory at value
      is = sym (put_word_is width memory (4096 * s.frame + s.offset) value)
          ∙ ap (λ (a : ℕ). put_word width memory a value) (sym s.place)

  -- two places are one exactly where the host addresses are
  same_same : (held_width width one other : ℕ) → StandsIn g held_width one → StandsIn g width other
      → same_place (place_of g one) (place_of g other) ≡ (one == other)
  same_same held_width width one other s t = elim (cases_eq one other) [
    | inl is ↦
        ap (λ (a : ℕ). same_place (place_of g one) (place_of g a)) (sym is)
        ∙ same_self (place_of g one) ∙ sym (eq-eqb one other is)
    | inr apart ↦
        ap (λ (p : Place). same_place p (place_of g other)) (seen_at held_width one s)
        ∙ ap (λ (p : Place). same_place (spot s.region (4096 * s.index + s.offset)) p)
        (seen_at width other t)
        ∙ differ apart ∙ sym (ne_eqb one other apart)
  ]
    where
      differ : one ≢ other
          → same_place (spot s.region (4096 * s.index + s.offset))
          (spot t.region (4096 * t.index + t.offset)) ≡ false
      differ apart = elim (cases_eq s.region t.region) [
        | inr regions ↦
            ap (λ (b : Bool). b && (4096 * s.index + s.offset == 4096 * t.index + t.offset))
            (ne_eqb s.region t.region regions)
        | inl regions ↦ elim (cases_eq (4096 * s.index + s.offset) (4096 * t.index + t.offset)) [
          | inr offsets ↦
              ap (λ (b : Bool). (s.region == t.region) && b)
              (ne_eqb (4096 * s.index + s.offset) (4096 * t.index + t.offset) offsets)
              ∙ and-false (s.region == t.region)
          | inl offsets ↦ absurd (apart (same_host regions offsets))
        ]
      ]
        where
          same_host : s.region ≡ t.region
              → 4096 * s.index + s.offset ≡ 4096 * t.index + t.offset → one ≡ other
          same_host regions offsets =
              let index : s.index ≡ t.index = omega (arith, s.fits, t.fits, s.some, t.some) in
              let offset : s.offset ≡ t.offset = omega (arith, s.fits, t.fits, s.some, t.some) in
              let there : frame_of g.regions g.frames t.region t.index ≡ Some s.frame =
              ap (λ (r : ℕ). frame_of g.regions g.frames r t.index) (sym regions)
              ∙ (ap (λ (i : ℕ). frame_of g.regions g.frames s.region i) (sym index) ∙ s.under) in
              let frame : s.frame ≡ t.frame = some_same (sym there ∙ t.under) in
              omega (arith, s.place, t.place)

  pub joined : AreJoined (lone_bus plan) (stage_bus bytes g.root) (λ b. memory_of b g) (place_of g)
      (IsGoodFor g bytes) (StandsIn g) Nothing
  joined = record {
    find = λ width gpa access. inl (find_same width gpa access);
    stands = λ width gpa found access is. stands_found width gpa found access is;
    get = λ memory width at good s. load_same memory width at good s;
    put = λ memory width at value good s. put_same memory width at value good s;
    good = λ memory width at value good s. good_after memory width at value good s;
    same = λ held_width width one other s t. same_same held_width width one other s t;
  }
