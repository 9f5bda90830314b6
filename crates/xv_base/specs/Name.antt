-- The names that a script may give: of a guest, of a device's node, and of a file.
use Rattle.std.specs.Prelude.{ℕ, Bool, false, ◌&&◌, ◌||◌, not, List, [], ◌∷◌, length, nat_le, ◌==◌}
use Rattle.std.specs.List.{list_all}
use Rattle.std.specs.Char.{is_ascii_alphabetic, is_ascii_alphanumeric, is_ascii_graphic}

-- a byte that may follow the first of a guest's name: a letter, a digit, `_` or `-`
abbrev pub is_guest_byte : ℕ → Bool
is_guest_byte byte = is_ascii_alphanumeric byte || byte == 0x5F || byte == 0x2D

-- a byte of a node's name: 0x21 to 0x7E without `/`
abbrev pub is_dev_byte : ℕ → Bool
is_dev_byte byte = is_ascii_graphic byte && not (byte == 0x2F)

-- a letter, and then bytes that may follow it
abbrev pub is_word : List ℕ → Bool
is_word [] = false
is_word (first ∷ others) = is_ascii_alphabetic first && list_all is_guest_byte others

-- a guest's name: a word of at most 31 bytes
unfoldable pub is_guest_name : List ℕ → Bool
is_guest_name bytes = is_word bytes && nat_le (length bytes) 31

-- 1 to `most` bytes
abbrev pub has_length : ℕ → List ℕ → Bool
has_length most bytes = nat_le 1 (length bytes) && nat_le (length bytes) most

-- the name of a device's node: 1 to 63 bytes
unfoldable pub is_dev_name : List ℕ → Bool
is_dev_name bytes = has_length 63 bytes && list_all is_dev_byte bytes

-- a file's name: 1 to 255 bytes of 0x21 to 0x7E
unfoldable pub is_file_name : List ℕ → Bool
is_file_name bytes = has_length 255 bytes && list_all is_ascii_graphic bytes
