-- What the value of a property says (Devicetree Specification v0.4, section 2.2.4).
use Rattle.std.specs.Prelude.{ℕ, ◌==◌, Bool, if◌then◌else◌, List, length}
use Rattle.std.specs.Prelude.{Option, Some, None, option_map, option_and_then}
use Rattle.std.specs.Str.{bytes_eq}
use Rattle.std.specs.Int.{w32, w64, from_be_bytes}
use Rattle.std.specs.List.{before_first, find, slice_split}
use Rattle.xv_fdt.specs.Tree.{Property}

abbrev pub has_name : List ℕ → Property → Bool
has_name name p = bytes_eq p.name name

-- the value of the property of that name
abbrev pub value_of : List ℕ → List Property → Option (List ℕ)
value_of name props = option_map (λ p. p.value) (find (has_name name) props)

-- a big-endian number of 32 bits
abbrev pub word : List ℕ → Option ℕ
word value = if length value == 4 then Some (from_be_bytes w32 value) else None

-- a big-endian number of 32 or of 64 bits
abbrev pub number : List ℕ → Option ℕ
number value =
    if length value == 4 then Some (from_be_bytes w32 value)
    else if length value == 8 then Some (from_be_bytes w64 value)
    else None

-- the number that the property of that name holds
unfoldable pub number_of : List ℕ → List Property → Option ℕ
number_of name props = option_and_then number (value_of name props)

abbrev pub is_zero : ℕ → Bool
is_zero byte = byte == 0

-- a text ends before the first 0 byte, or with the value
abbrev pub text : List ℕ → List ℕ
text value = before_first is_zero value

-- texts, one after another
abbrev pub texts : List ℕ → List (List ℕ)
texts value = slice_split is_zero value
