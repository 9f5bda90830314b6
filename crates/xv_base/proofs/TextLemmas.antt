-- The library's reader of hexadecimal text against pairs of digits, and how long such texts are.
use Rattle.std.proofs.Common.{◌≡◌, ℕ, ◌+◌, ◌*◌, ◌/◌, ◌%◌, ◌<◌, zero, suc, Bool, true, false, ◌&&◌}
use Rattle.std.proofs.Common.{cond, eqb, sym, subst, ◌⊎◌, inl, inr, List, [], ◌∷◌, length, refl}
use Rattle.std.proofs.Common.{arith, MatchResult, MatchOption, Option, Some, None, Result, Ok, Err}
use Rattle.std.proofs.Common.{length-append}
use Rattle.std.specs.Char.{is_digit, digit_value}
use Rattle.std.specs.Option.{option_map}
use Rattle.std.proofs.lemmas.Bool.Decides.{nat_tests}
use Rattle.hex.specs.declared.error.FromHexError.{FromHexError}
use Rattle.hex.specs.declared.error.FromHexError.TheVariants.{OddLength, OutOfMemory}
use Rattle.hex.specs.Hex.{decode_of, decode_pairs, hex_digit_value, digit_or_error, ◌>>=◌}
use Rattle.xv_base.specs.Text.{hex_digit, hex_digits, hex16, hex_bytes, pairs_value, hex_pairs}

-- the library's value of a digit is ours
abbrev ReadsDigit : ℕ → Option ℕ → Type 0
ReadsDigit c found =
    MatchOption found (is_digit c 16 ≡ false) (λ value. (is_digit c 16 ≡ true)
    × (digit_value c ≡ value))

reads_digit : (c : ℕ) → ReadsDigit c (hex_digit_value c)
reads_digit c = grind (arith, nat_tests)

abbrev Reads : Result (List ℕ) FromHexError → Option (List ℕ) → Type 0
Reads found ours = MatchResult found (λ bytes. ours ≡ Some bytes) (λ _. ours ≡ None)

reads_pair : (high low i : ℕ) (a b : Option ℕ) (found : Result (List ℕ) FromHexError)
    (ours : Option (List ℕ)) → ReadsDigit high a → ReadsDigit low b → Reads found ours
    → Reads ((digit_or_error high i a
    >>= λ h. (digit_or_error low (i + 1) b >>= λ l. Ok (h * 16 + l)))
    >>= λ byte. (found >>= λ bytes. Ok (byte ∷ bytes)))
    (cond (is_digit high 16 && is_digit low 16)
    (option_map (λ bytes. (digit_value high * 16 + digit_value low) ∷ bytes) ours) None)
reads_pair high low i None b found ours p q r = rw p refl
reads_pair high low i (Some x) None found ours p q r = rw (p.0, q) refl
reads_pair high low i (Some x) (Some y) (Err e) ours p q r = rw (p.0, q.0, r) refl
reads_pair high low i (Some x) (Some y) (Ok bytes) ours p q r = rw (p.0, q.0, r, p.1, q.1) refl

pub decoded-pairs : (i : ℕ) (text : List ℕ) → Reads (decode_pairs i text) (pairs_value text)
unfolding decode_pairs
decoded-pairs i [] = refl
decoded-pairs i (digit ∷ []) = refl
decoded-pairs i (high ∷ low ∷ others) =
    reads_pair high low i (hex_digit_value high) (hex_digit_value low) (decode_pairs (i + 2) others)
    (pairs_value others)
    (reads_digit high) (reads_digit low) (decoded-pairs (i + 2) others)

-- an odd number of bytes is no pairs
pairs_value-odd : (text : List ℕ) → length text % 2 ≡ 1 → pairs_value text ≡ None
pairs_value-odd [] odd = absurd (omega arith)
pairs_value-odd (digit ∷ []) odd = refl
pairs_value-odd (high ∷ low ∷ others) odd =
    let rest : pairs_value others ≡ None = pairs_value-odd others (omega (arith, odd)) in
    rw rest (either (is_digit high 16 && is_digit low 16))
  where
    either : (test : Bool) → cond {A = Option (List ℕ)} test None None ≡ None
    either true = refl
    either false = refl

hex_pairs-some : (text : List ℕ) → 0 < length text → hex_pairs text ≡ pairs_value text
unfolding hex_pairs
hex_pairs-some [] some = absurd (omega arith)
hex_pairs-some (first ∷ others) some = refl

pub hex_pairs-empty : (text : List ℕ) → length text ≡ 0 → None ≡ hex_pairs text
unfolding hex_pairs
hex_pairs-empty [] empty = refl
hex_pairs-empty (first ∷ others) empty = absurd (omega arith)

-- what the library reads, and what it refuses: r is its answer where the text isn't odd
decided : (odd : Bool) (text : List ℕ) (r : Result (List ℕ) FromHexError)
    → (odd ≡ true → pairs_value text ≡ None) → Reads r (pairs_value text)
    → Reads (cond odd (Err OddLength) r) (pairs_value text)
decided true text r none reads = none refl
decided false text r none reads = reads

pub decoded : (text : List ℕ) → 0 < length text → Reads (decode_of text) (hex_pairs text)
decoded text some =
    rw (hex_pairs-some text some)
    (decided (eqb (length text % 2) 1) text (decode_pairs 0 text)
    (λ odd. pairs_value-odd text (grind (arith, nat_tests))) (decoded-pairs 0 text))

pub hex_pairs-read : (text bytes : List ℕ) → 0 < length text → decode_of text ≡ Ok bytes
    → Some bytes ≡ hex_pairs text
hex_pairs-read text bytes some found =
    let P : Result (List ℕ) FromHexError → Type 0 = λ r. Reads r (hex_pairs text) in
    sym (subst P found (decoded text some))

pub hex_pairs-refused : (text : List ℕ) (error : FromHexError) → 0 < length text
    → decode_of text ≡ Err error → None ≡ hex_pairs text
hex_pairs-refused text error some found =
    let P : Result (List ℕ) FromHexError → Type 0 = λ r. Reads r (hex_pairs text) in
    sym (subst P found (decoded text some))

-- the same, where the answer may be want of memory and isn't
pub hex_pairs-none : (text : List ℕ) (error : FromHexError) → 0 < length text
    → (error ≡ OutOfMemory) ⊎ (decode_of text ≡ Err error) → (error ≡ OutOfMemory → ⊥)
    → None ≡ hex_pairs text
hex_pairs-none text error some why not_memory =
    elim why [
      | inl memory ↦ absurd (not_memory memory)
      | inr found ↦
          hex_pairs-refused text error some found
    ]

-- a count of digits is how many there are
pub length-hex_digits : (count number : ℕ) → length (hex_digits count number) ≡ count
unfolding hex_digits
length-hex_digits zero number = refl
length-hex_digits (suc count) number =
    omega (
      arith,
      length-append (hex_digits count (number / 16)) (hex_digit (number % 16) ∷ []),
      length-hex_digits count (number / 16),
    )

pub length-hex16 : (number : ℕ) → length (hex16 number) ≡ 16
unfolding hex16
length-hex16 number = length-hex_digits 16 number

-- bytes take twice as many digits
pub length-hex_bytes : (bytes : List ℕ) → length (hex_bytes bytes) ≡ 2 * length bytes
unfolding hex_bytes
length-hex_bytes [] = refl
length-hex_bytes (byte ∷ others) =
    omega (
      arith,
      length-append (hex_digits 2 byte) (hex_bytes others),
      length-hex_digits 2 byte,
      length-hex_bytes others,
    )
