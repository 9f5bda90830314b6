-- How a byte is printed in a text of one line.
use Rattle.std.specs.Prelude.{ℕ, ◌==◌, Bool, ◌&&◌, not, if◌then◌else◌, List, [], ◌∷◌, ◌++◌, nat_le}
use Rattle.xv_base.specs.Text.{hex_digits}

-- a byte of 0x20 to 0x7E that isn't the backslash, 0x5C
abbrev pub is_plain : ℕ → Bool
is_plain byte = nat_le 0x20 byte && nat_le byte 0x7E && not (byte == 0x5C)

-- a backslash, `x`, and the byte in two digits
abbrev pub escape : ℕ → List ℕ
escape byte = 0x5C ∷ 0x78 ∷ [] ++ hex_digits 2 byte

-- a plain byte stands for itself
unfoldable pub escaped : ℕ → List ℕ
escaped byte = if is_plain byte then byte ∷ [] else escape byte
