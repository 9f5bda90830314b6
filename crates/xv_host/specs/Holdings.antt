-- Who holds what of a host: its frames, root tables and reserved ranges are each one guest's or
-- nobody's. That two have one thing, or that two lists are one list taken together, is said by
-- sums: whatever the weights, one side weighs what the other does.
use Rattle.std.specs.Prelude.{◌≡◌, ◌≢◌, ℕ, ◌+◌, ◌*◌, ◌<◌, List, length, get_or, Option, Some}
use Rattle.std.specs.Prelude.{sum_by, is_some, false}
use Rattle.xv_base.specs.declared.keys.Span.{Span}
use Rattle.xv_base.specs.Range.{range_end}
use Rattle.xv_pool.specs.FrameList.{up_from}
use Rattle.xv_pool.specs.Resources.{Resources, IsSound}
use Rattle.xv_pte.specs.GStage.{frame_bytes, led}
use Rattle.xv_guest.specs.Guest.{Guest, held_of, lone_of}
use Rattle.xv_gstage.specs.Memory.{IsZero}
use Rattle.xv_region.specs.Rules.{Accepted}
use Rattle.xv_guest.specs.Frames.{IsInside, reserved_ranges}
use Rattle.xv_guest.specs.Held.{IsHeld, Same, holds}
use Rattle.xv_host.specs.Places.{Places, guest_at, amount_at, amount_of}

-- host memory: the frames of the 16 root tables, those of the pool, those of the reserved area
pub record IsLaidOut (bytes : List ℕ) (pool : Resources) : Type 0 where
  pub first : pool.first ≡ 64
  pub next : pool.area.start ≡ 4096 * (64 + pool.count)
  pub end : range_end pool.area ≡ length bytes

-- what the lists say, without a look at host memory
pub record IsParted (pool : Resources) (places : Places) : Type 0 where
  pub sixteen : length places ≡ 16
  -- a guest's key is the number of its root
  pub key : (k : ℕ) (g : Guest) → guest_at places k ≡ Some g → g.key ≡ k
  pub root : (k : ℕ) (g : Guest) → guest_at places k ≡ Some g → g.root ≡ Some k
  -- its regions may stand together
  pub accepted : (k : ℕ) (g : Guest) → guest_at places k ≡ Some g → Accepted g.plan.regions
  -- the frames of all guests and the free ones are those of the pool
  pub frames : (weight : ℕ → ℕ) → amount_of (λ h. sum_by weight h.frames) places
      + sum_by weight pool.free ≡ sum_by weight (up_from pool.first pool.count)
  -- a root is out where its guest is
  pub roots : (k : ℕ) → get_or pool.roots k false ≡ is_some (guest_at places k)
  -- the ranges of all guests are those that are out
  pub ranges : (weight : Span → ℕ) → amount_of (λ h. sum_by weight (reserved_ranges h.regions))
      places
      ≡ sum_by weight pool.held
  pub sound : IsSound pool

-- the invariant of a host
pub record Holdings (bytes : List ℕ) (pool : Resources) (places : Places) : Type 0 where
  pub laid : IsLaidOut bytes pool
  pub parted : IsParted pool places
  -- each guest's tables stand
  pub owned : (k : ℕ) (g : Guest) → guest_at places k ≡ Some g → IsHeld bytes (held_of g)
  -- what nobody holds is zero
  pub clean : (frame : ℕ) → IsInside bytes frame → amount_of (holds frame) places ≡ 0
      → IsZero bytes frame

-- all of a guest that isn't told by another's call: its machine and where its root leads
pub record StaysAs (old new : List ℕ) (g : Guest) : Type 0 where
  pub bytes : Same old new (held_of g)
  pub machine : lone_of g new ≡ lone_of g old
  pub walks : (page : ℕ) → led new (held_of g).root page ≡ led old (held_of g).root page

-- every guest but that at one place is where it was, and stays
abbrev pub OthersStay : ℕ → (old new : List ℕ) → (before after : Places) → Type 0
OthersStay k old new before after =
    (j : ℕ) (g : Guest) → j ≢ k → guest_at before j ≡ Some g
    → (guest_at after j ≡ Some g) × StaysAs old new g

-- what a call does to the pool and to one place: what the place gives up the pool gets, and what
-- the place gets the pool gives up
pub record Moves (old new : Resources) (k : ℕ) (was now : Option Guest) : Type 0 where
  pub frames : (weight : ℕ → ℕ) → amount_at (λ h. sum_by weight h.frames) now
      + sum_by weight new.free ≡ amount_at (λ h. sum_by weight h.frames) was
      + sum_by weight old.free
  pub root : get_or new.roots k false ≡ is_some now
  pub roots : (j : ℕ) → j ≢ k → get_or new.roots j false ≡ get_or old.roots j false
  pub ranges : (weight : Span → ℕ)
      → amount_at (λ h. sum_by weight (reserved_ranges h.regions)) now + sum_by weight old.held
      ≡ amount_at (λ h. sum_by weight (reserved_ranges h.regions)) was + sum_by weight new.held
  pub first : new.first ≡ old.first
  pub count : new.count ≡ old.count
  pub area : new.area ≡ old.area
  pub sound : IsSound new

-- what a guest at a place owes
pub record IsPlaced (bytes : List ℕ) (k : ℕ) (g : Guest) : Type 0 where
  pub key : g.key ≡ k
  pub root : g.root ≡ Some k
  pub accepted : Accepted g.plan.regions
  pub owned : IsHeld bytes (held_of g)

-- all that a call owes on the one place that it is about
pub record IsStep (old new : List ℕ) (pool pool' : Resources) (k : ℕ)
    (was now : Option Guest) : Type 0 where
  pub moves : Moves pool pool' k was now
  pub whole : length new ≡ length old
  pub placed : (g : Guest) → now ≡ Some g → IsPlaced new k g
  -- no byte changes but of what the place held and holds
  pub others : (frame : ℕ) → IsInside old frame
      → amount_at (holds frame) was + amount_at (holds frame) now ≡ 0
      → frame_bytes new frame ≡ frame_bytes old frame
  -- what it gives up is zero
  pub cleared : (frame : ℕ) → 0 < amount_at (holds frame) was
      → amount_at (holds frame) now ≡ 0 → IsZero new frame
