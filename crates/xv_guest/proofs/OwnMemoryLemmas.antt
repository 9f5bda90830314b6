-- A guest's memory as its devices reach it: what a load gives and a store puts, and what stays.
use Rattle.std.proofs.Common.{◌≡◌, ℕ, ◌+◌, ◌*◌, ◌==◌, ◌&&◌, Bool, true, false, cond, leb, List}
use Rattle.std.proofs.Common.{[], length, take, drop, Option, Some, None, refl, sym, ap}
use Rattle.std.proofs.Common.{◌∙◌, arith}
use Rattle.std.specs.List.{sum_by, slice_get, slice_set}
use Rattle.std.specs.Option.{is_some, option_map, option_and_then, unwrap_or}
use Rattle.std.proofs.Math.Path.{fun_ext}
use Rattle.std.proofs.lemmas.Bool.{eq-eqb, eqb-true, le-leb, leb-true}
use Rattle.std.proofs.lemmas.Option.{unwrap_or-slice_get}
use Rattle.xv_mem.specs.Bytes.{put, range}
use Rattle.xv_bus.specs.Memory.{bytes_at, overwritten, stored, stored_at}
use Rattle.xv_pte.specs.GStage.{frame_bytes}
use Rattle.xv_gstage.specs.Own.{region_frames}
use Rattle.xv_region.specs.declared.cell.Cell.{Cell}
use Rattle.xv_region.specs.declared.cell.Cell.TheVariants as cells
use Rattle.xv_region.specs.Cell.{cell}
use Rattle.xv_region.specs.Plan.{Plan}
use Rattle.xv_lone.specs.Device.{flat_of, place_of}
use Rattle.xv_lone.specs.Memory.{Memory, bytes_of_spot, peeked, spot_of, store_place}
use Rattle.xv_guest.specs.Frames.{IsInside, hits}
use Rattle.xv_guest.specs.Held.{Held, WithinMemory}
use Rattle.xv_guest.specs.OwnMemory.{Behind, OwnMemory, behind, other_bytes}

module _ (plan : Plan) (memory : Memory) (gpa : ℕ) where
  -- a load gives what a peek shows
  pub load_is : (len : ℕ) → bytes_at (flat_of plan memory) gpa len ≡ peeked plan memory gpa len
  unfolding bytes_at range
  load_is len = by (cell plan.regions gpa len)
    where
      by : (c : Cell)
          → option_map (λ place. take len (drop place.offset
          (unwrap_or (slice_get memory place.region) []))) (option_map place_of (spot_of c))
          ≡ option_map (bytes_of_spot memory len) (spot_of c)
      by (cells.Memory region offset writable) =
          ap (λ (bytes : List ℕ). Some (take len (drop offset bytes)))
          (unwrap_or-slice_get memory region [])
      by (cells.Device region offset) = refl
      by cells.Nothing = refl

  -- a store puts its bytes into the cell, if that may be written
  store_is : (piece : List ℕ) (region offset : ℕ) (writable : Bool)
      → cell plan.regions gpa (length piece) ≡ cells.Memory region offset writable
      → stored (flat_of plan memory) gpa piece
      ≡ cond writable
      (Some (store_place memory (record { region = region; offset = offset }) piece)) None
  unfolding stored put
  store_is piece region offset writable is =
      ap (λ (c : Cell). option_and_then (stored_at (flat_of plan memory) piece)
      (option_map place_of (spot_of c))) is
      ∙ ap (λ (bytes : List ℕ). cond writable
      (Some (slice_set memory region (overwritten bytes offset piece))) None)
      (unwrap_or-slice_get memory region [])

  module _ (piece : List ℕ) (region offset : ℕ) (writable : Bool)
      (is : cell plan.regions gpa (length piece) ≡ cells.Memory region offset writable) where
    pub store_ram : writable ≡ true → stored (flat_of plan memory) gpa piece
        ≡ Some (store_place memory (record { region = region; offset = offset }) piece)
    store_ram may =
        store_is piece region offset writable is
        ∙ ap (λ (b : Bool). cond b (Some (store_place memory
        (record { region = region; offset = offset }) piece)) None) may

    pub store_rom : writable ≡ false → stored (flat_of plan memory) gpa piece ≡ None
    store_rom may_not =
        store_is piece region offset writable is
        ∙ ap (λ (b : Bool). cond b (Some (store_place memory
        (record { region = region; offset = offset }) piece)) None) may_not

  pub store_device : (piece : List ℕ) (region offset : ℕ)
      → cell plan.regions gpa (length piece) ≡ cells.Device region offset
      → stored (flat_of plan memory) gpa piece ≡ None
  unfolding stored
  store_device piece region offset is =
      ap (λ (c : Cell). option_and_then (stored_at (flat_of plan memory) piece)
      (option_map place_of (spot_of c))) is

  pub store_nothing : (piece : List ℕ) → cell plan.regions gpa (length piece) ≡ cells.Nothing
      → stored (flat_of plan memory) gpa piece ≡ None
  unfolding stored
  store_nothing piece is =
      ap (λ (c : Cell). option_and_then (stored_at (flat_of plan memory) piece)
      (option_map place_of (spot_of c))) is

-- ---- what a load answers

module _ (result : Bool) (found : Option (List ℕ)) (old new : List ℕ)
    (some : result ≡ true → found ≡ Some new) (none : result ≡ false → found ≡ None) where
  pub load_there : result ≡ is_some found
  load_there = by result refl
    where
      by : (b : Bool) → result ≡ b → result ≡ is_some found
      by true is = is ∙ sym (ap is_some (some is))
      by false is = is ∙ sym (ap is_some (none is))

  pub load_bytes : (result ≡ false → new ≡ old) → new ≡ unwrap_or found old
  load_bytes untouched = by result refl
    where
      by : (b : Bool) → result ≡ b → new ≡ unwrap_or found old
      by true is = sym (ap (λ (o : Option (List ℕ)). unwrap_or o old) (some is))
      by false is = untouched is ∙ sym (ap (λ (o : Option (List ℕ)). unwrap_or o old) (none is))

-- ---- what lies behind

abbrev behind_of : Held → ℕ → (ℕ → List ℕ) → Behind
behind_of held size others = record { held = held; size = size; others = others }

module _ (g : Held) (old new : List ℕ) (within : WithinMemory g old new) where
  others_stay : (frame : ℕ) → other_bytes new g frame ≡ other_bytes old g frame
  unfolding other_bytes
  others_stay frame =
      ap (λ (n : ℕ). cond (leb (4096 * frame + 4096) n && under == 0) (frame_bytes new frame) [])
      within.whole
      ∙ by (leb (4096 * frame + 4096) (length old)) refl (under == 0) refl
    where
      under : ℕ
      under = sum_by (hits frame) (region_frames g.regions g.frames)

      by : (b : Bool) → leb (4096 * frame + 4096) (length old) ≡ b → (d : Bool)
          → (under == 0) ≡ d
          → cond (b && d) (frame_bytes new frame) [] ≡ cond (b && d) (frame_bytes old frame) []
      by true inside true none =
          within.others frame (leb-true (4096 * frame + 4096) (length old) inside)
          (eqb-true under 0 none)
      by true inside false some = refl
      by false outside d none = refl

pub behind_stays : (g : Held) (old new : List ℕ) → WithinMemory g old new
    → behind (record { held = g; bytes = new }) ≡ behind (record { held = g; bytes = old })
behind_stays g old new within =
    ap (λ (n : ℕ). behind_of g n (other_bytes new g)) within.whole
    ∙ ap (behind_of g (length old)) (fun_ext (others_stay g old new within))

other_is : (bytes : List ℕ) (g : Held) (frame : ℕ) → IsInside bytes frame
    → sum_by (hits frame) (region_frames g.regions g.frames) ≡ 0
    → other_bytes bytes g frame ≡ frame_bytes bytes frame
unfolding other_bytes
other_is bytes g frame inside none =
    let whole = le-leb (4096 * frame + 4096) (length bytes) inside in
    let apart = eq-eqb (sum_by (hits frame) (region_frames g.regions g.frames)) 0 none in
    ap (λ (b : Bool).
    cond (b && sum_by (hits frame) (region_frames g.regions g.frames) == 0)
    (frame_bytes bytes frame) []) whole
    ∙ ap (λ (b : Bool). cond b (frame_bytes bytes frame) []) apart

abbrev pub own_at : Held → List ℕ → OwnMemory
own_at held bytes = record { held = held; bytes = bytes }

pub behind_within : (old new : OwnMemory) → behind new ≡ behind old
    → WithinMemory old.held old.bytes new.bytes
behind_within old new same =
    let g = old.held in
    let whole : length new.bytes ≡ length old.bytes = ap (λ (b : Behind). b.size) same in
    let held : new.held ≡ old.held = ap (λ (b : Behind). b.held) same in
    record {
      whole = whole;
      others = λ frame inside none.
          sym (other_is new.bytes g frame (omega arith) none)
          ∙ ap (λ (x : Held). other_bytes new.bytes x frame) (sym held)
          ∙ ap (λ (b : Behind). b.others frame) same
          ∙ other_is old.bytes g frame inside none;
    }
