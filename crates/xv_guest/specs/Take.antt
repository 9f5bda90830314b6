-- What a guest takes of its host, and what it gives back.
use Rattle.std.specs.Prelude.{◌≡◌, ℕ, ◌+◌, ◌<◌, ◌≤◌, Bool, true, false, not, List, [], ◌++◌, length}
use Rattle.std.specs.Prelude.{take, drop, sum_by, slice_get, slice_set, Some, None, Ok}
use Rattle.std.specs.List.{All, position_or_len}
use Rattle.xv_base.specs.declared.keys.Span.{Span}
use Rattle.xv_base.specs.Range.{LiesIn}
use Rattle.xv_pool.specs.Resources.{Resources, tested}
use Rattle.xv_region.specs.declared.plan.Region.{Region}
use Rattle.xv_region.specs.Need.{need}
use Rattle.xv_gstage.specs.Memory.{IsZero, IsZeroRoot}
use Rattle.xv_gstage.specs.Own.{reserved_frames}
use Rattle.xv_guest.specs.Frames.{hits, reserved_ranges, IsInside}
use Rattle.xv_guest.specs.Guest.{Guest, held_of}
use Rattle.xv_guest.specs.Held.{holds}

-- ---- taking

-- the least number of a root that nobody has
abbrev pub least_root : List Bool → ℕ
least_root roots = position_or_len not roots

-- the guest has that root, and the free frames of the least numbers, as many as it needs
abbrev pub taken_guest : Resources → Guest → Guest
taken_guest pool g = record g {
  root = Some (least_root pool.roots);
  frames = take (need g.plan.regions) pool.free;
}

-- the pool has these no more, and the guest's ranges neither
abbrev pub pool_after : List Region → Resources → Resources
pool_after regions pool = record pool {
  free = drop (need regions) pool.free;
  roots = slice_set pool.roots (least_root pool.roots) true;
  held = pool.held ++ reserved_ranges regions;
}

-- what these regions need can be had of the pool, and is zero: it lies in the memory, each at a
-- place of its own behind the root tables
pub record MayTake (bytes : List ℕ) (pool : Resources) (regions : List Region) : Type 0 where
  pub tested : tested pool (need regions) (reserved_ranges regions) ≡ Ok tt
  -- the pool has room for ranges
  pub room : length pool.held + length (reserved_ranges regions) ≤ 512
  pub area : All (λ range. LiesIn range pool.area) (reserved_ranges regions)
  pub root : IsZeroRoot bytes (least_root pool.roots)
  pub free : (frame : ℕ) → 0 < hits frame pool.free → (64 ≤ frame) × IsZero bytes frame
  pub reserved : (frame : ℕ) → 0 < hits frame (reserved_frames regions)
      → (64 ≤ frame) × (hits frame pool.free ≡ 0) × IsZero bytes frame

-- ---- giving back

-- a guest that holds nothing
abbrev pub bare_guest : Guest → Guest
bare_guest g = record g { root = None; frames = [] }

-- the pool has the frames, the root and the ranges again. In which order it lists them isn't said,
-- but that all weigh together what they weighed before
pub record GivesBack (old new : Resources) (g : Guest) : Type 0 where
  pub frames : (weight : ℕ → ℕ)
      → sum_by weight new.free ≡ sum_by weight g.frames + sum_by weight old.free
  pub ranges : (weight : Span → ℕ)
      → sum_by weight (reserved_ranges g.plan.regions) + sum_by weight new.held
      ≡ sum_by weight old.held
  pub others : new ≡ record old {
    free = new.free;
    roots = slice_set old.roots (held_of g).root false;
    held = new.held;
  }

-- what the guest holds is out of the pool, and lies in the memory
pub record MayGive (bytes : List ℕ) (pool : Resources) (g : Guest) : Type 0 where
  pub taken : g.root ≡ Some (held_of g).root
  pub root : slice_get pool.roots (held_of g).root ≡ Some true
  pub frames : (frame : ℕ) → 0 < hits frame g.frames
      → (pool.first ≤ frame) × (frame < pool.first + pool.count)
  pub out : (frame : ℕ) → hits frame g.frames + hits frame pool.free ≤ 1
  pub ranges : (weight : Span → ℕ)
      → sum_by weight (reserved_ranges g.plan.regions) ≤ sum_by weight pool.held
  pub inside : (frame : ℕ) → 0 < holds frame (held_of g) → IsInside bytes frame
