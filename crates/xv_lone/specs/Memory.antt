-- A guest's memory: the bytes of each region of its plan, and what stands at an address.
use Rattle.std.specs.Prelude.{ℕ, if◌then◌else◌, List, [], get_or, replicate, slice_set}
use Rattle.std.specs.Prelude.{Option, Some, None, option_map}
use Rattle.xv_mem.specs.Bytes.{range, word_at, put, put_word}
use Rattle.xv_step.specs.Bus.{Spot}
use Rattle.xv_region.specs.declared.cell.Cell.{Cell}
use Rattle.xv_region.specs.declared.cell.Cell.TheVariants as cells
use Rattle.xv_region.specs.declared.plan.Region.{Region}
use Rattle.xv_region.specs.Cell.{cell}
use Rattle.xv_region.specs.Plan.{Plan}
use Rattle.xv_region.specs.Rules.{is_real}

-- the bytes of each region, in the plan's order
abbrev pub Memory : Type 0
Memory = List (List ℕ)

-- a place in it: the number of a region, from 0, and the offset there
pub record Place : Type 0 where
  pub region : ℕ
  pub offset : ℕ

-- zeros, where the region is memory of its own; an alias and a device have no bytes
abbrev pub zeros_of : Region → List ℕ
zeros_of r = if is_real r.kind then replicate r.size 0 else []

-- the spot that a cell is: a place of memory, with its permission
abbrev pub spot_of : Cell → Option (Spot Place)
spot_of (cells.Memory region offset writable) =
    Some (record { place = record { region = region; offset = offset }; writable = writable })
spot_of (cells.Device region offset) = None
spot_of cells.Nothing = None

-- the spot of so many bytes at a guest physical address, where they are memory
abbrev pub spot_at : Plan → (width gpa : ℕ) → Option (Spot Place)
spot_at plan width gpa = spot_of (cell plan.regions gpa width)

-- so many bytes of memory at a spot
abbrev pub bytes_of_spot : Memory → (len : ℕ) → Spot Place → List ℕ
bytes_of_spot memory len spot =
    range (get_or memory spot.place.region []) spot.place.offset len

-- so many bytes from a guest physical address on, where they are memory
abbrev pub peeked : Plan → Memory → (gpa len : ℕ) → Option (List ℕ)
peeked plan memory gpa len = option_map (bytes_of_spot memory len) (spot_at plan len gpa)

-- the little-endian number in so many bytes at a place
abbrev pub load_place : Memory → Place → (width : ℕ) → ℕ
load_place memory p width = word_at width (get_or memory p.region []) p.offset

-- the memory with these bytes at a place
abbrev pub store_place : Memory → Place → List ℕ → Memory
store_place memory p piece =
    slice_set memory p.region (put (get_or memory p.region []) p.offset piece)

-- the memory with the low bytes of a number, so many of them, at a place
abbrev pub put_place : Memory → Place → (width value : ℕ) → Memory
put_place memory p width value =
    slice_set memory p.region (put_word width (get_or memory p.region []) p.offset value)
