-- Frames of host memory in lists: how often a list has one, and the bytes under it. A frame stands
-- in a list of what is held where it stands there more than 0 times.
use Rattle.std.specs.Prelude.{ℕ, ◌≡◌, ◌+◌, ◌*◌, ◌<◌, ◌≤◌, ◌==◌, List, [], ◌∷◌, ◌++◌, length}
use Rattle.std.specs.Prelude.{count_by}
use Rattle.std.specs.List.{flat_map}
use Rattle.xv_base.specs.declared.keys.Span.{Span}
use Rattle.xv_pool.specs.FrameList.{up_from}
use Rattle.xv_pte.specs.GStage.{frame_bytes}
use Rattle.xv_gstage.specs.Memory.{IsZero}
use Rattle.xv_region.specs.declared.plan.Kind.{Kind}
use Rattle.xv_region.specs.declared.plan.Kind.TheVariants.{Ram, Rom, Reserved, Alias, Device}
use Rattle.xv_region.specs.declared.plan.Region.{Region}
use Rattle.xv_region.specs.Cell.{bytes_at}

-- how often a frame stands in a list
abbrev pub hits : ℕ → List ℕ → ℕ
hits frame frames = count_by (λ other. other == frame) frames

-- the four frames of a root table (Privileged Architecture 20211203, 8.5.1: Sv39x4)
abbrev pub root_frames : ℕ → List ℕ
root_frames root = up_from (4 * root) 4

-- the range of the host's bytes that a region of so many bytes has
abbrev pub kind_ranges : Kind → ℕ → List Span
kind_ranges Ram size = []
kind_ranges Rom size = []
kind_ranges (Reserved host) size = bytes_at host size ∷ []
kind_ranges (Alias target) size = []
kind_ranges (Device kind) size = []

abbrev pub ranges_of : Region → List Span
ranges_of r = kind_ranges r.kind r.size

-- the ranges of the host's reserved area that a guest has, in the order of its regions
unfoldable pub reserved_ranges : List Region → List Span
reserved_ranges regions = flat_map ranges_of regions

-- the bytes of frames, one after another
unfoldable pub bytes_under : List ℕ → List ℕ → List ℕ
bytes_under bytes [] = []
bytes_under bytes (frame ∷ frames) = frame_bytes bytes frame ++ bytes_under bytes frames

-- ---- frames that are made zeros

-- the frame lies in the memory
abbrev pub IsInside : List ℕ → ℕ → Type 0
IsInside bytes frame = 4096 * frame + 4096 ≤ length bytes

-- the frames of a list are zero now, and every other one is as before
pub record AreCleared (old new : List ℕ) (frames : List ℕ) : Type 0 where
  pub whole : length new ≡ length old
  pub zero : (frame : ℕ) → 0 < hits frame frames → IsZero new frame
  pub others : (frame : ℕ) → IsInside old frame → hits frame frames ≡ 0
      → frame_bytes new frame ≡ frame_bytes old frame
