-- A guest's own memory, as its devices reach it, and what lies behind it.
use Rattle.std.specs.Prelude.{ℕ, ◌+◌, ◌*◌, ◌==◌, ◌&&◌, Bool, if◌then◌else◌, List, []}
use Rattle.std.specs.Prelude.{length, nat_le, sum_by}
use Rattle.xv_bus.specs.Memory.{Flat}
use Rattle.xv_pte.specs.GStage.{frame_bytes}
use Rattle.xv_gstage.specs.Own.{region_frames}
use Rattle.xv_region.specs.declared.cell.Cell.{Cell}
use Rattle.xv_region.specs.declared.cell.Cell.TheVariants as cells
use Rattle.xv_region.specs.Plan.{Plan}
use Rattle.xv_lone.specs.Device.{flat_of}
use Rattle.xv_lone.specs.Memory.{Memory, store_place}
use Rattle.xv_guest.specs.Frames.{hits}
use Rattle.xv_guest.specs.Held.{Held, memory_of}

-- the memory with bytes at a cell, where that is memory
abbrev pub put_at : List ℕ → Memory → Cell → Memory
put_at piece memory (cells.Memory region offset writable) =
    store_place memory (record { region = region; offset = offset }) piece
put_at piece memory (cells.Device region offset) = memory
put_at piece memory cells.Nothing = memory

-- what a guest holds, over the host's bytes
pub record OwnMemory : Type 0 where
  pub held : Held
  pub bytes : List ℕ

-- the plan of a guest of which only the memory counts
abbrev pub bare_plan : Held → Plan
bare_plan g = record { regions = g.regions; vcpus = [] }

abbrev pub flat_memory : OwnMemory → Flat
flat_memory own = flat_of (bare_plan own.held) (memory_of own.bytes own.held)

-- a frame of the host's that isn't under the guest's regions
abbrev pub is_other : List ℕ → Held → (frame : ℕ) → Bool
is_other bytes g frame =
    nat_le (4096 * frame + 4096) (length bytes)
    && sum_by (hits frame) (region_frames g.regions g.frames) == 0

unfoldable pub other_bytes : List ℕ → Held → (frame : ℕ) → List ℕ
other_bytes bytes g frame = if is_other bytes g frame then frame_bytes bytes frame else []

-- what the guest holds, how many bytes the host has, and those of its other frames
pub record Behind : Type 0 where
  pub held : Held
  pub size : ℕ
  pub others : ℕ → List ℕ

abbrev pub behind : OwnMemory → Behind
behind own = record {
  held = own.held;
  size = length own.bytes;
  others = other_bytes own.bytes own.held;
}
