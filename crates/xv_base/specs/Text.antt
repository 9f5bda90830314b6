-- Text in hexadecimal. Decimal text is the library's `decimal`.
use Rattle.std.specs.Prelude.{ℕ, ◌+◌, ◌*◌, ◌/◌, ◌%◌, zero, suc, ◌&&◌, Option, Some, None}
use Rattle.std.specs.Prelude.{if◌then◌else◌, List, [], ◌∷◌, ◌++◌}
use Rattle.std.specs.Char.{is_digit, digit_value, digit_char}
use Rattle.std.specs.Option.{option_map}

-- the byte that writes a digit below 16, in lower case
abbrev pub hex_digit : ℕ → ℕ
hex_digit digit = digit_char digit

-- the last `count` digits of a number
unfoldable pub hex_digits : ℕ → ℕ → List ℕ
hex_digits zero number = []
hex_digits (suc count) number = hex_digits count (number / 16) ++ hex_digit (number % 16) ∷ []

-- a number below 2^64 in 16 digits
unfoldable pub hex16 : ℕ → List ℕ
hex16 number = hex_digits 16 number

-- bytes in two digits each
unfoldable pub hex_bytes : List ℕ → List ℕ
hex_bytes [] = []
hex_bytes (byte ∷ others) = hex_digits 2 byte ++ hex_bytes others

-- the bytes that pairs of digits of either case write
abbrev pub pairs_value : List ℕ → Option (List ℕ)
pairs_value [] = Some []
pairs_value (high ∷ []) = None
pairs_value (high ∷ low ∷ others) =
    if is_digit high 16 && is_digit low 16
    then option_map (λ bytes. (digit_value high * 16 + digit_value low) ∷ bytes)
    (pairs_value others)
    else None

-- the same of one pair or more
unfoldable pub hex_pairs : List ℕ → Option (List ℕ)
hex_pairs [] = None
hex_pairs (first ∷ others) = pairs_value (first ∷ others)
