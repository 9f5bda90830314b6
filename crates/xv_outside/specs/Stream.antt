-- An adapter over a reader or a writer, as its own contracts see it.
use Rattle.std.specs.Prelude.{◌≡◌, ◌≤◌, ℕ, List, ◌++◌, length, Option, Some, None}
use Rattle.std.specs.Io.KnownBytes.{Appends, Consumes, IsAtEnd}
use Rattle.xv_outside.specs.Fetch.{Tells}
use Rattle.xv_outside.specs.declared.outside.Fetched.{Fetched}

-- the bytes that the reader has left or the writer holds, where it says so, and how many calls
-- failed
pub record StreamState : Type 0 where
  pub known : Option (List ℕ)
  pub faults : ℕ

-- a writer's known bytes grew by a front of the piece, maybe none of it and maybe all
pub record AppendsFront (old new : Option (List ℕ)) (piece : List ℕ) : Type 0 where
  pub front : List ℕ
  pub rest : List ℕ
  pub whole : front ++ rest ≡ piece
  pub appended : Appends old new front

-- one more read: n bytes, at most this many, behind those that were read before; none is the end
pub record ReadsOn (old new : Option (List ℕ)) (before after : List ℕ) (most n : ℕ) : Type 0 where
  pub piece : List ℕ
  pub grown : after ≡ before ++ piece
  pub count : length piece ≡ n
  pub few : n ≤ most
  pub consumed : Consumes old new piece
  pub ended : n ≡ 0 → IsAtEnd new

-- what a read of a whole file answers where the bytes are known that it had left
abbrev pub IsReadWithin : Option (List ℕ) → ℕ → Fetched → Type 0
IsReadWithin None limit fetched = Unit {0}
IsReadWithin (Some left) limit fetched = Tells (Some left) limit fetched
