-- The walks alone: what the tables in host memory say of the live guests of a world, next to the
-- memory of their lone machines.
use Rattle.std.specs.Prelude.{◌≡◌, ◌≢◌, ◌↔◌, ℕ, ◌<◌, ◌≤◌, Bool, List, [], get_or, slice_get, Some}
use Rattle.xv_pte.specs.declared.g_stage.Leaf.{Leaf}
use Rattle.xv_pte.specs.GStage.{IsTableOf, walked}
use Rattle.xv_region.specs.declared.cell.Cell.TheVariants as cells
use Rattle.xv_region.specs.declared.plan.Region.{Region}
use Rattle.xv_region.specs.Cell.{cell}
use Rattle.xv_gstage.specs.Memory.{IsZero, IsZeroRoot}
use Rattle.xv_gstage.specs.Stands.{Filled, IsOffGround, IsUnled, RightCell}
use Rattle.xv_lone.specs.Memory.{Memory}
use Rattle.xv_guest.specs.Frames.{IsInside}
use Rattle.xv_guest.specs.Guest.{Guest, held_of, lone_of}
use Rattle.xv_host.specs.Places.{Places, guest_at}

-- a live guest of a world: its root, its regions and the memory of its lone machine
pub record Seen : Type 0 where
  pub root : ℕ
  pub regions : List Region
  pub memory : Memory

-- guest i of the world leads an address to this leaf
pub record Leads (bytes : List ℕ) (world : List Seen) (i gpa : ℕ) (s : Seen) (leaf : Leaf)
    : Type 0 where
  pub live : slice_get world i ≡ Some s
  pub led : walked bytes s.root gpa ≡ Some leaf

-- no guest of the world walks over the frame as a table, nor leads an address there
pub record IsUnused (bytes : List ℕ) (world : List Seen) (frame : ℕ) : Type 0 where
  pub no_table : (i : ℕ) (s : Seen) → slice_get world i ≡ Some s → ¬ IsTableOf bytes s.root frame
  pub unled : (i : ℕ) (s : Seen) → slice_get world i ≡ Some s → IsUnled bytes s.root frame

pub record Stands (bytes : List ℕ) (world : List Seen) : Type 0 where
  -- an address that is led somewhere is a memory cell with that permission
  pub right_cell : (i : ℕ) (s : Seen) → slice_get world i ≡ Some s
      → RightCell bytes s.root s.regions
  -- two addresses are led to one host byte exactly where they are one guest's and one cell
  pub one_place : (i j a b : ℕ) (s t : Seen) (l m : Leaf) → Leads bytes world i a s l
      → Leads bytes world j b t m
      → (l.host ≡ m.host) ↔ ((i ≡ j) × (cell s.regions a 1 ≡ cell t.regions b 1))
  -- the host's byte is the lone machine's
  pub same_bytes : (i a : ℕ) (s : Seen) (l : Leaf) → Leads bytes world i a s l
      → (region offset : ℕ) (writable : Bool)
      → cell s.regions a 1 ≡ cells.Memory region offset writable
      → get_or (get_or s.memory region []) offset 0 ≡ get_or bytes l.host 0
  -- no address is led to a root or to a table of any guest, and no two guests have a table in
  -- common
  pub own_ground : (i j : ℕ) (s t : Seen) → slice_get world i ≡ Some s → slice_get world j ≡ Some t
      → IsOffGround bytes s.root t.root
  pub own_tables : (i j table : ℕ) (s t : Seen) → slice_get world i ≡ Some s
      → slice_get world j ≡ Some t → IsTableOf bytes s.root table → IsTableOf bytes t.root table
      → i ≡ j
  -- each address that is a memory cell is led somewhere
  pub filled : (i : ℕ) (s : Seen) → slice_get world i ≡ Some s → Filled bytes s.root s.regions
  -- what no guest has is zero: the other root tables, and of the frames behind them those that are
  -- neither tables nor led to
  pub clean_roots : (root : ℕ) → root < 16
      → ((i : ℕ) (s : Seen) → slice_get world i ≡ Some s → s.root ≢ root) → IsZeroRoot bytes root
  pub clean : (frame : ℕ) → 64 ≤ frame → IsInside bytes frame → IsUnused bytes world frame
      → IsZero bytes frame

-- ---- the world of a host

abbrev pub seen_of : List ℕ → Guest → Seen
seen_of bytes g = record {
  root = (held_of g).root;
  regions = g.plan.regions;
  memory = (lone_of g bytes).memory;
}

-- the world has the guests of these places and no others, in any order
pub record Shows (bytes : List ℕ) (places : Places) (world : List Seen) : Type 0 where
  pub each : (i : ℕ) (s : Seen) → slice_get world i ≡ Some s
      → (g : Guest) × (guest_at places s.root ≡ Some g) × (s ≡ seen_of bytes g)
  pub all : (k : ℕ) (g : Guest) → guest_at places k ≡ Some g
      → (i : ℕ) × (slice_get world i ≡ Some (seen_of bytes g))
  pub once : (i j : ℕ) (s t : Seen) → slice_get world i ≡ Some s → slice_get world j ≡ Some t
      → s.root ≡ t.root → i ≡ j
