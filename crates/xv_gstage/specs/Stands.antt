-- What a root leads to, as cells of the guest: the right ones, all of them, and no table.
use Rattle.std.specs.Prelude.{◌≡◌, ◌≢◌, ℕ, ◌+◌, ◌/◌, Bool, List, Some}
use Rattle.std.specs.Prelude.{slice_get}
use Rattle.xv_pte.specs.declared.g_stage.Leaf.{Leaf}
use Rattle.xv_pte.specs.GStage.{IsTableOf, walked}
use Rattle.xv_region.specs.declared.cell.Cell.TheVariants.{Memory}
use Rattle.xv_region.specs.declared.plan.Kind.TheVariants.{Reserved}
use Rattle.xv_region.specs.declared.plan.Region.{Region}
use Rattle.xv_region.specs.Cell.{cell}

-- the memory cell of a guest physical address, with the permission of a leaf; the host's byte is
-- that of the region where the region is reserved
pub record IsRightCell (regions : List Region) (gpa : ℕ) (leaf : Leaf) (region offset : ℕ)
    : Type 0 where
  pub cell : cell regions gpa 1 ≡ Memory region offset leaf.writable
  pub reserved : (r : Region) (host : ℕ) → slice_get regions region ≡ Some r
      → r.kind ≡ Reserved host → leaf.host ≡ host + offset

-- right cell: an address that is led somewhere is a memory cell with that permission
abbrev pub RightCell : List ℕ → ℕ → List Region → Type 0
RightCell bytes root regions =
    (gpa : ℕ) (leaf : Leaf) → walked bytes root gpa ≡ Some leaf
    → (region : ℕ) × (offset : ℕ) × IsRightCell regions gpa leaf region offset

-- filled: each address that is a memory cell is led somewhere
abbrev pub Filled : List ℕ → ℕ → List Region → Type 0
Filled bytes root regions =
    (gpa region offset : ℕ) (writable : Bool) → cell regions gpa 1 ≡ Memory region offset writable
    → (leaf : Leaf) × (walked bytes root gpa ≡ Some leaf)

-- no address is led to the frame from a root
abbrev pub IsUnled : List ℕ → (root frame : ℕ) → Type 0
IsUnled bytes root frame =
    (gpa : ℕ) (leaf : Leaf) → walked bytes root gpa ≡ Some leaf → leaf.host / 4096 ≢ frame

-- own ground: no address is led from a root to a frame of `other` root or of its tables
pub record IsOffGround (bytes : List ℕ) (root other : ℕ) : Type 0 where
  pub root_frames : (frame : ℕ) → frame / 4 ≡ other → IsUnled bytes root frame
  pub table_frames : (table : ℕ) → IsTableOf bytes other table → IsUnled bytes root table
