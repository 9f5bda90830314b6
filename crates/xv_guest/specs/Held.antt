-- What a guest holds of a host, and its memory there.
use Rattle.std.specs.Prelude.{ℕ, ◌≡◌, ◌+◌, ◌<◌, ◌≤◌, List, [], map, length, get_or, sum_by}
use Rattle.xv_pte.specs.GStage.{frame_bytes, led}
use Rattle.xv_region.specs.declared.plan.Region.{Region}
use Rattle.xv_region.specs.Need.{need}
use Rattle.xv_lone.specs.Memory.{Memory, zeros_of}
use Rattle.xv_gstage.specs.Own.{own, region_frames, reserved_frames}
use Rattle.xv_gstage.specs.Tidy.{IsTidy}
use Rattle.xv_guest.specs.Frames.{hits, root_frames, bytes_under, IsInside}

-- a root table, the frames of the guest's list, and those of its reserved regions
pub record Held : Type 0 where
  pub root : ℕ
  pub regions : List Region
  pub frames : List ℕ

-- how often a frame stands in all that
abbrev pub holds : ℕ → Held → ℕ
holds frame g =
    hits frame (root_frames g.root) + hits frame g.frames
    + hits frame (reserved_frames g.regions)

-- the guest's memory: the host's bytes under each of its regions
unfoldable pub memory_of : List ℕ → Held → Memory
memory_of bytes g = map (bytes_under bytes) (region_frames g.regions g.frames)

-- the bytes of one of its regions
abbrev pub region_bytes : List ℕ → Held → (region : ℕ) → List ℕ
region_bytes bytes g region = get_or (memory_of bytes g) region []

-- and that of a guest at its birth
abbrev pub zero_memory : List Region → Memory
zero_memory regions = map zeros_of regions

-- no frame is held twice, each lies in the memory, and there are as many as the regions need
pub record HasMemory (bytes : List ℕ) (g : Held) : Type 0 where
  pub once : (frame : ℕ) → holds frame g ≤ 1
  pub inside : (frame : ℕ) → 0 < holds frame g → IsInside bytes frame
  pub size : length g.frames ≡ need g.regions

-- its tables are in order: every page is led to its own frame, and nothing else anywhere
pub record HasOrder (bytes : List ℕ) (g : Held) : Type 0 where
  pub led : (page : ℕ) → led bytes g.root page ≡ own g.regions g.frames page
  pub tidy : IsTidy bytes g.root g.regions g.frames

-- one guest by itself: what its own calls need and keep
pub record IsHeld (bytes : List ℕ) (g : Held) : Type 0 where
  pub memory : HasMemory bytes g
  pub order : HasOrder bytes g

-- the bytes of all that the guest holds are the same
abbrev pub Same : (old new : List ℕ) → Held → Type 0
Same old new g = (frame : ℕ) → 0 < holds frame g → frame_bytes new frame ≡ frame_bytes old frame

-- every frame outside of what the guest holds is as before
pub record Within (g : Held) (old new : List ℕ) : Type 0 where
  pub whole : length new ≡ length old
  pub others : (frame : ℕ) → IsInside old frame → holds frame g ≡ 0
      → frame_bytes new frame ≡ frame_bytes old frame

-- every frame but those under the guest's regions is as before
pub record WithinMemory (g : Held) (old new : List ℕ) : Type 0 where
  pub whole : length new ≡ length old
  pub others : (frame : ℕ) → IsInside old frame
      → sum_by (hits frame) (region_frames g.regions g.frames) ≡ 0
      → frame_bytes new frame ≡ frame_bytes old frame
