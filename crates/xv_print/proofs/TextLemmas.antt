-- Steps of the hexadecimal texts.
use Rattle.std.proofs.Common.{◌≡◌, ℕ, zero, suc, ◌+◌, ◌/◌, ◌%◌, ◌<◌, ◌≤◌, List, [], ◌∷◌, ◌++◌}
use Rattle.std.proofs.Common.{length, get_or, take, drop, set, refl, sym, ap, ◌∙◌, arith, add-one}
use Rattle.std.proofs.Common.{append_assoc, length-append}
use Rattle.std.proofs.lemmas.List.{drop-set, append-nil, take_more}
use Rattle.xv_base.specs.Text.{hex_digit, hex_digits, hex16, hex_bytes}

-- the two digits of a byte
pub hex_digits_byte : (byte : ℕ) → byte < 256 → hex_digits 2 byte ≡ hex_digit (byte / 16)
    ∷ hex_digit (byte % 16) ∷ []
unfolding hex_digits
hex_digits_byte byte small =
    let high : byte / 16 % 16 ≡ byte / 16 = omega arith in
    ap (λ n. hex_digit n ∷ hex_digit (byte % 16) ∷ []) high

-- the last digit in its place, with the digits of the sixteenth part before it
hex_digits_suc : (before rest : ℕ) (digits : List ℕ) → before < length digits
    → hex_digits before (rest / 16) ++ drop before (set digits before (hex_digit (rest % 16)))
    ≡ hex_digits (suc before) rest ++ drop (suc before) digits
unfolding hex_digits
hex_digits_suc before rest digits within =
    rw (drop-set digits before (hex_digit (rest % 16)) within, add-one)
    (sym (append_assoc (hex_digits before (rest / 16)) (hex_digit (rest % 16) ∷ [])
    (drop (suc before) digits)))

-- the same, for a place that is one more
pub hex_digits_step : (place before rest : ℕ) (digits : List ℕ) → place ≡ suc before
    → before < length digits
    → hex_digits before (rest / 16) ++ drop before (set digits before (hex_digit (rest % 16)))
    ≡ hex_digits place rest ++ drop place digits
hex_digits_step place before rest digits next within =
    rw next (hex_digits_suc before rest digits within)

-- no digit is left to be written
pub hex16_written : (place value rest : ℕ) (digits : List ℕ) → place ≤ 0
    → hex_digits place rest ++ drop place digits ≡ hex_digits 16 value → digits ≡ hex16 value
unfolding hex_digits hex16
hex16_written place value rest digits none written =
    let first : place ≡ 0 = omega arith in rw first at written

pub length-hex_digits : (count number : ℕ) → length (hex_digits count number) ≡ count
unfolding hex_digits
length-hex_digits zero number = refl
length-hex_digits (suc count) number =
    omega (
      arith,
      length-append (hex_digits count (number / 16)) (hex_digit (number % 16) ∷ []),
      length-hex_digits count (number / 16),
    )

-- one more byte is printed behind the others
pub hex_bytes-push : (bytes : List ℕ) (byte : ℕ) → hex_bytes (bytes ++ byte ∷ []) ≡ hex_bytes bytes
    ++ hex_digits 2 byte
unfolding hex_bytes
hex_bytes-push [] byte = append-nil (hex_digits 2 byte)
hex_bytes-push (first ∷ others) byte =
    ap (λ text. hex_digits 2 first ++ text) (hex_bytes-push others byte)
    ∙ sym (append_assoc (hex_digits 2 first) (hex_bytes others) (hex_digits 2 byte))

pub hex_bytes-take_more : (bytes : List ℕ) (at : ℕ) → at < length bytes
    → hex_bytes (take (at + 1) bytes) ≡ hex_bytes (take at bytes)
    ++ hex_digits 2 (get_or bytes at 0)
hex_bytes-take_more bytes at within =
    rw (take_more bytes at 0 within) (hex_bytes-push (take at bytes) (get_or bytes at 0))
