-- The memory of a hart as its steps see it, over a type of memories and a type of places.
use Rattle.std.specs.Prelude.{ℕ, Bool, Option, option_map}
use Rattle.xv_pte.specs.Sv39.{Reader}

-- where bytes stand, and whether they may be written
pub record Spot (Place : Type 0) : Type 0 where
  pub place : Place
  pub writable : Bool

pub record Bus (Memory Place : Type 0) : Type 0 where
  -- the spot of so many bytes at a guest physical address, if they have one
  pub find : (width gpa : ℕ) → Option (Spot Place)
  -- the little-endian number in so many bytes at a place
  pub get : Memory → (width : ℕ) → Place → ℕ
  -- the memory with a number stored in so many bytes at a place
  pub put : Memory → (width : ℕ) → Place → (value : ℕ) → Memory
  -- whether two places are one
  pub same : Place → Place → Bool

-- the words of 8 bytes that a walk of page tables reads
abbrev pub reader : {M P : Type 0} → Bus M P → M → Reader
reader bus memory gpa = option_map (λ spot. bus.get memory 8 spot.place) (bus.find 8 gpa)
