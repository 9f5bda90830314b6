-- Lines and words of a script.
use Rattle.std.specs.Prelude.{ℕ, ◌==◌, nat_eq, nat_le, Bool, true, not, ◌&&◌, ◌||◌, List, [], ◌∷◌}
use Rattle.std.specs.Prelude.{length, filter, codes}
use Rattle.std.specs.List.{slice_split, starts_with}

-- what stands before, between and behind the line feeds: what is behind the last is a line too, and
-- where it is empty it is a comment
abbrev pub lines : List ℕ → List (List ℕ)
lines text = slice_split (λ byte. byte == 0x0A) text

-- a byte of a line: a tab, or 0x20 to 0x7E
abbrev pub is_allowed : ℕ → Bool
is_allowed byte = byte == 0x09 || (nat_le 0x20 byte && nat_le byte 0x7E)

-- a byte between words: a space or a tab
abbrev pub is_blank : ℕ → Bool
is_blank byte = byte == 0x20 || byte == 0x09

abbrev pub is_word : List ℕ → Bool
is_word piece = not (length piece == 0)

-- the words of a line: the pieces between the blanks that aren't empty
unfoldable pub words : List ℕ → List (List ℕ)
words line = filter is_word (slice_split is_blank line)

-- a line without words, or whose first word begins with `#`
abbrev pub is_comment : List (List ℕ) → Bool
is_comment [] = true
is_comment (first ∷ others) = starts_with nat_eq first (codes "#")
