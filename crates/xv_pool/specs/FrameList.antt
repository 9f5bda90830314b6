-- The frames of a pool, by their numbers.
use Rattle.std.specs.Prelude.{ℕ, zero, suc, ◌+◌, ◌<◌, ◌≤◌, List, [], ◌∷◌}
use Rattle.std.specs.List.{All}
use Rattle.std.specs.List.Sorted.{IsStrictlyIncreasing}

-- so many frames from the first on
unfoldable pub up_from : ℕ → ℕ → List ℕ
up_from first zero = []
up_from first (suc count) = first ∷ up_from (suc first) count

-- the frames of the pool are count ones from the first on; those that nobody has are free, by
-- rising number
pub record FrameList : Type 0 where
  pub first : ℕ
  pub count : ℕ
  pub free : List ℕ

-- each free frame is one of the pool, and none is listed twice
pub record AreFree (frames : FrameList) : Type 0 where
  pub inside : All (λ frame. (frames.first ≤ frame)
      × (frame < frames.first + frames.count)) frames.free
  pub rising : IsStrictlyIncreasing frames.free

abbrev pub all_free : ℕ → ℕ → FrameList
all_free first count = record { first = first; count = count; free = up_from first count }
