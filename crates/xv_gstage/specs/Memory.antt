-- Frames of host memory: which are zero, and which two memories have in common. A root table is the
-- four frames from frame 4 * root on.
use Rattle.std.specs.Prelude.{◌≡◌, ◌≢◌, ℕ, ◌+◌, ◌*◌, ◌/◌, ◌≤◌, List, length, get_or, replicate}
use Rattle.std.specs.List.{Contains, AllPairs}
use Rattle.xv_pte.specs.GStage.{IsTableOf, frame_bytes, walked}
use Rattle.xv_region.specs.declared.plan.Region.{Region}
use Rattle.xv_region.specs.Need.{need}
use Rattle.xv_gstage.specs.Own.{reserved_frames}

abbrev pub IsZero : List ℕ → ℕ → Type 0
IsZero bytes frame = frame_bytes bytes frame ≡ replicate 4096 0

-- the root table is zero
abbrev pub IsZeroRoot : List ℕ → ℕ → Type 0
IsZeroRoot bytes root = (frame : ℕ) → frame / 4 ≡ root → IsZero bytes frame

-- every frame of the list is zero
abbrev pub AreZero : List ℕ → List ℕ → Type 0
AreZero bytes frames = (frame : ℕ) → Contains frames frame → IsZero bytes frame

-- ---- what the tables of a guest are made of

-- the root lies in a memory of so many bytes, and so do the frames of the list, none of which is
-- one of the root's
pub record AreInside (size root : ℕ) (frames : List ℕ) : Type 0 where
  pub root_inside : 16384 * root + 16384 ≤ size
  pub inside : (frame : ℕ) → Contains frames frame → 4096 * frame + 4096 ≤ size

-- the frames are as many as the regions need, and each is another one; reserved ones lie in the
-- memory too
pub record HasFrames (size root : ℕ) (regions : List Region) (frames : List ℕ) : Type 0 where
  pub lie : AreInside size root frames
  pub enough : length frames ≡ need regions
  pub once : AllPairs (λ a b. a ≢ b) frames
  pub off_root : (frame : ℕ) → Contains frames frame → frame / 4 ≢ root
  pub reserved : (frame : ℕ) → Contains (reserved_frames regions) frame
      → 4096 * frame + 4096 ≤ size

-- the reserved frames are neither the root's nor in the list
pub record AreApart (root : ℕ) (regions : List Region) (frames : List ℕ) : Type 0 where
  pub from_root : (frame : ℕ) → Contains (reserved_frames regions) frame → frame / 4 ≢ root
  pub from_list : (frame : ℕ) → Contains (reserved_frames regions) frame → ¬ Contains frames frame

-- ---- two memories

-- every byte outside of a root and of these frames is the same
pub record SameOutside (old new : List ℕ) (root : ℕ) (frames : List ℕ) : Type 0 where
  pub whole : length new ≡ length old
  pub bytes : (i : ℕ) → i / 16384 ≢ root → ¬ Contains frames (i / 4096)
      → get_or new i 0 ≡ get_or old i 0

-- the frames of a root and these frames are the same
pub record SameGround (old new : List ℕ) (root : ℕ) (frames : List ℕ) : Type 0 where
  pub of_root : (frame : ℕ) → frame / 4 ≡ root → frame_bytes new frame ≡ frame_bytes old frame
  pub of_list : (frame : ℕ) → Contains frames frame → frame_bytes new frame ≡ frame_bytes old frame

-- another root, which has neither a frame nor a table among these frames, and no table in the root
pub record IsElsewhere (bytes : List ℕ) (root : ℕ) (frames : List ℕ) (other : ℕ) : Type 0 where
  pub differs : other ≢ root
  pub root_apart : (frame : ℕ) → frame / 4 ≡ other → ¬ Contains frames frame
  pub tables_apart : (table : ℕ) → IsTableOf bytes other table → ¬ Contains frames table
  pub tables_off : (table : ℕ) → IsTableOf bytes other table → table / 4 ≢ root

-- every address is led alike from a root
abbrev pub SameWalks : (old new : List ℕ) → ℕ → Type 0
SameWalks old new root = (gpa : ℕ) → walked new root gpa ≡ walked old root gpa
