-- What the grammar of names says of their lengths and bytes.
use Rattle.std.proofs.Common.{◌≡◌, ℕ, ◌<◌, ◌≤◌, Bool, true, false, ◌&&◌, refl, List, [], ◌∷◌}
use Rattle.std.proofs.Common.{length, leb, arith}
use Rattle.std.specs.List.{list_all}
use Rattle.std.specs.Char.{is_ascii_graphic}
use Rattle.std.specs.Str.{IsAscii, IsUtf8}
use Rattle.std.proofs.lemmas.Bool.Decides.{nat_tests}
use Rattle.std.proofs.lemmas.Str.{IsUtf8-from_ascii}
use Rattle.std.proofs.lemmas.Str.Ascii.{IsAscii-nil, IsAscii-cons}
use Rattle.xv_base.specs.Name.{is_word, is_guest_name, is_dev_name, is_file_name}

pub both : (a b : Bool) → (a && b) ≡ true → (a ≡ true) × (b ≡ true)
both true b h = (refl, h)
both false b h = cc

pub length-guest_name : (bytes : List ℕ) → is_guest_name bytes ≡ true → length bytes ≤ 31
unfolding is_guest_name
length-guest_name bytes named =
    let parts = both (is_word bytes) (leb (length bytes) 31) named in grind (arith, nat_tests)

pub length-dev_name : (bytes : List ℕ) → is_dev_name bytes ≡ true → length bytes ≤ 63
unfolding is_dev_name
length-dev_name bytes named = grind (arith, nat_tests)

pub length-file_name : (bytes : List ℕ) → is_file_name bytes ≡ true → length bytes ≤ 255
unfolding is_file_name
length-file_name bytes named = grind (arith, nat_tests)

-- a name has a byte
pub guest_name-nonempty : (bytes : List ℕ) → is_guest_name bytes ≡ true → 0 < length bytes
unfolding is_guest_name
guest_name-nonempty [] named = cc
guest_name-nonempty (first ∷ others) named = omega arith

pub ruleset guest_names = length-guest_name

pub ruleset dev_names = length-dev_name

pub ruleset file_names = length-file_name

-- bytes that all pass a test of bytes below 128 are a text
pub IsAscii-all : (test : ℕ → Bool) → ((byte : ℕ) → test byte ≡ true → byte < 128)
    → (bytes : List ℕ) → list_all test bytes ≡ true → IsAscii bytes
IsAscii-all test below [] passes = IsAscii-nil
IsAscii-all test below (byte ∷ bytes) passes =
    let parts = both (test byte) (list_all test bytes) passes in
    IsAscii-cons byte bytes (below byte parts.0) (IsAscii-all test below bytes parts.1)

pub IsUtf8-file_name : (bytes : List ℕ) → is_file_name bytes ≡ true → IsUtf8 bytes
unfolding is_file_name
IsUtf8-file_name bytes named =
    let graphic : list_all is_ascii_graphic bytes ≡ true = grind (arith, nat_tests) in
    IsUtf8-from_ascii bytes
    (IsAscii-all is_ascii_graphic (λ byte is. grind (arith, nat_tests)) bytes graphic)
