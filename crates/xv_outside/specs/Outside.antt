-- What a call of a source or a sink does to the bytes that the object tells. None tells nothing.
use Rattle.std.specs.Prelude.{◌≡◌, ◌↔◌, ◌≤◌, ℕ, List, [], ◌++◌, length, take, drop, Option, Some}
use Rattle.std.specs.Prelude.{None}
use Rattle.std.specs.Option.{option_map}

-- a read of n gave the first n of the bytes left
abbrev pub GivesFront : Option (List ℕ) → List ℕ → ℕ → Type 0
GivesFront None buf n = Unit {0}
GivesFront (Some bytes) buf n = (n ≤ length bytes) × (take n buf ≡ take n bytes)

-- a read of n tells the end exactly where nothing is left
abbrev pub EndsWithTheBytes : Option (List ℕ) → ℕ → Type 0
EndsWithTheBytes None n = Unit {0}
EndsWithTheBytes (Some bytes) n = (n ≡ 0) ↔ (bytes ≡ [])

-- the bytes left after the first n are taken
abbrev pub left_after : Option (List ℕ) → ℕ → Option (List ℕ)
left_after left n = option_map (drop n) left

-- the bytes taken, and this piece behind them
abbrev pub taken_with : Option (List ℕ) → List ℕ → Option (List ℕ)
taken_with taken piece = option_map (λ bytes. bytes ++ piece) taken

-- a front of the piece was appended, maybe none of it and maybe all
pub record TookFront (old new : Option (List ℕ)) (piece : List ℕ) : Type 0 where
  pub front : List ℕ
  pub rest : List ℕ
  pub whole : front ++ rest ≡ piece
  pub taken : new ≡ taken_with old front
