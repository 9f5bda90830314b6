-- Host memory as a list of bytes: its words, its ranges, and what a write leaves.
use Rattle.std.specs.Prelude.{ℕ, ◌+◌, List, [], ◌++◌, length, take, drop, replicate, Vec, Option}
use Rattle.std.specs.Prelude.{Some, None}
use Rattle.byteorder.specs.Endian.{little_number, little_bytes}

-- the little-endian number in the n bytes from address at on
unfoldable pub word_at : ℕ → List ℕ → ℕ → ℕ
word_at n bytes at = little_number n (drop at bytes)

-- these bytes with the piece in the place of what stood from address at on
unfoldable pub put : List ℕ → ℕ → List ℕ → List ℕ
put bytes at piece = take at bytes ++ piece ++ drop (at + length piece) bytes

-- these bytes with the n lowest bytes of the value from address at on, the lowest first
unfoldable pub put_word : ℕ → List ℕ → ℕ → ℕ → List ℕ
put_word n bytes at value = put bytes at (little_bytes n value)

-- these bytes with zeros in the place of the len bytes from address at on
unfoldable pub cleared : List ℕ → ℕ → ℕ → List ℕ
cleared bytes at len = put bytes at (replicate len 0)

-- the len bytes from address at on
unfoldable pub range : List ℕ → ℕ → ℕ → List ℕ
range bytes at len = take len (drop at bytes)

-- the bytes that are held, none where nothing is
abbrev pub held : {A : Type 0} → Option (Vec ℕ A) → List ℕ
held None = []
held (Some bytes) = bytes.items
