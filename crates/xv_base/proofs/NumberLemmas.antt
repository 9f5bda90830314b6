-- Digits as the library's reader of numbers sees them.
use Rattle.std.proofs.Common.{◌≡◌, ◌≢◌, ℕ, ◌^◌, ◌<◌, ◌≤◌, Bool, true, false, cond, ltb, leb, subst}
use Rattle.std.proofs.Common.{List, [], ◌∷◌, length, get_or, refl, arith, Some, None, Result, Ok}
use Rattle.std.proofs.Common.{Err, Decides}
use Rattle.std.specs.List.{list_all}
use Rattle.std.specs.Result.{result_ok, OkIff}
use Rattle.std.specs.Char.{is_digit}
use Rattle.std.specs.Str.{IsUtf8}
use Rattle.std.specs.Str.Parse.{AllDigits, IsNumeral, digits_value, ParsesUnsigned}
use Rattle.std.proofs.lemmas.Bool.Decides.{nat_tests, Decides-ltb}
use Rattle.std.proofs.lemmas.Str.{IsUtf8-from_ascii}
use Rattle.std.proofs.lemmas.Str.Parse.{without_leading_plus_none}
use Rattle.xv_base.specs.Name.{has_length}
use Rattle.xv_base.specs.Number.{is_numeral, below_limit}
use Rattle.xv_base.proofs.NameLemmas.{IsAscii-all, both}

abbrev pub are_digits : ℕ → List ℕ → Bool
are_digits radix digits = list_all (λ digit. is_digit digit radix) digits

pub IsUtf8-digits : (radix : ℕ) (digits : List ℕ) → radix ≤ 36 → are_digits radix digits ≡ true
    → IsUtf8 digits
IsUtf8-digits radix digits small passes =
    IsUtf8-from_ascii digits
    (IsAscii-all (λ digit. is_digit digit radix) (λ byte is. below byte radix small is)
    digits passes)
  where
    below : (byte radix : ℕ) → radix ≤ 36 → is_digit byte radix ≡ true → byte < 128
    below byte radix small is = grind (arith, nat_tests)

AllDigits-all : (radix : ℕ) (digits : List ℕ) → are_digits radix digits ≡ true
    → AllDigits radix digits
AllDigits-all radix [] passes = tt
AllDigits-all radix (digit ∷ digits) passes =
    let parts = both (is_digit digit radix) (are_digits radix digits) passes in
    let here : is_digit digit radix ≡ true = parts.0 in
    (grind (arith, nat_tests), AllDigits-all radix digits parts.1)

no_plus : (radix : ℕ) (digits : List ℕ) → radix ≤ 36 → are_digits radix digits ≡ true
    → get_or digits 0 0 ≢ 43
no_plus radix [] small passes = λ e. omega arith
no_plus radix (digit ∷ digits) small passes =
    let parts = both (is_digit digit radix) (are_digits radix digits) passes in
    λ e. let plus : is_digit 43 radix ≡ true = rw e at parts.0 in grind (arith, nat_tests)

-- a number that was refused is too great
too_great : (test : Bool) (N P : Type 0) (value : ℕ) → Decides test P → N → ¬ (N × P)
    → None ≡ cond test (Some value) None
too_great true N P value decides is refused = absurd (refused (is, decides.0 refl))
too_great false N P value decides is refused = refl

read_plain : {E : Type 0} (radix : ℕ) (digits : List ℕ) (r : Result ℕ E) → AllDigits radix digits
    → 1 ≤ length digits
    → OkIff r (IsNumeral radix digits × (digits_value radix digits < 2 ^ 64))
    (digits_value radix digits)
    → result_ok r ≡ below_limit (digits_value radix digits)
read_plain radix digits (Ok x) all some parsed =
    let small : digits_value radix digits < 2 ^ 64 = parsed.0.1 in
    rw ((Decides-ltb (digits_value radix digits) (2 ^ 64)).1 small, parsed.1) refl
read_plain radix digits (Err x) all some parsed =
    too_great (ltb (digits_value radix digits) (2 ^ 64)) (IsNumeral radix digits)
    (digits_value radix digits < 2 ^ 64) (digits_value radix digits)
    (Decides-ltb (digits_value radix digits) (2 ^ 64)) (some, all) parsed

-- what the library's reader answers on digits
pub read_digits : {E : Type 0} (radix : ℕ) (digits : List ℕ) (r : Result ℕ E) → radix ≤ 36
    → are_digits radix digits ≡ true → 1 ≤ length digits
    → ParsesUnsigned 64 radix digits r → result_ok r ≡ below_limit (digits_value radix digits)
read_digits {E} radix digits r small passes some parsed =
    let plain = without_leading_plus_none digits (no_plus radix digits small passes) in
    let P : List ℕ → Type 0 =
    λ bare. OkIff r (IsNumeral radix bare × (digits_value radix bare < 2 ^ 64))
    (digits_value radix bare) in
    read_plain radix digits r (AllDigits-all radix digits passes) some (subst P plain parsed)

-- the parts of a numeral
pub digits-numeral : (radix most : ℕ) (digits : List ℕ) → is_numeral radix most digits ≡ true
    → are_digits radix digits ≡ true
digits-numeral radix most digits is = (both (has_length most digits) (are_digits radix digits) is).1

pub length-numeral : (radix most : ℕ) (digits : List ℕ) → is_numeral radix most digits ≡ true
    → 1 ≤ length digits
length-numeral radix most digits is =
    let some = both (leb 1 (length digits)) (leb (length digits) most)
    (both (has_length most digits) (are_digits radix digits) is).0 in
    grind (arith, nat_tests)

pub ruleset numerals = (digits-numeral, length-numeral)
