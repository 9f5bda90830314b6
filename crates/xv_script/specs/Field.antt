-- The fields of a line: what each is, and what it gives.
use Rattle.std.specs.Prelude.{ℕ, ◌+◌, ◌==◌, Bool, ◌&&◌, if◌then◌else◌, List, take, drop, position}
use Rattle.std.specs.Prelude.{nat_le, Result, Ok, Err}
use Rattle.xv_base.specs.Name.{is_guest_name, is_dev_name, is_file_name}
use Rattle.xv_base.specs.Number.{number_value}
use Rattle.xv_base.specs.Text.{hex_pairs}
use Rattle.xv_script.specs.declared.fault.ScriptKind.{ScriptKind}
use Rattle.xv_script.specs.declared.fault.ScriptKind.TheVariants as kind
use Rattle.xv_script.specs.Fault.{◌>>=◌, made_of, or_kind}

-- ---- each field by itself, or the kind of its fault

-- the name of a guest
unfoldable pub guest_field : List ℕ → Result (List ℕ) ScriptKind
guest_field word = if is_guest_name word then Ok word else Err kind.Name

-- the name of a file
unfoldable pub file_field : List ℕ → Result (List ℕ) ScriptKind
file_field word = if is_file_name word then Ok word else Err kind.Name

-- the name of a device's node
unfoldable pub dev_field : List ℕ → Result (List ℕ) ScriptKind
dev_field word = if is_dev_name word then Ok word else Err kind.Name

abbrev pub is_slash : ℕ → Bool
is_slash byte = byte == 0x2F

-- `N/DEV`, the names of a guest and of its device, cut at the first `/`
unfoldable pub port_field : List ℕ → Result (List ℕ × List ℕ) ScriptKind
port_field word = do
  slash ← or_kind kind.Name (position is_slash word)
  guest ← guest_field (take slash word)
  dev ← dev_field (drop (slash + 1) word)
  Ok (guest, dev)

-- a number below 2^64
unfoldable pub number_field : List ℕ → Result ℕ ScriptKind
number_field word = or_kind kind.Number (number_value word)

-- a number from the least to the greatest
unfoldable pub range_field : ℕ → ℕ → List ℕ → Result ℕ ScriptKind
range_field least most word = do
  value ← number_field word
  if nat_le least value && nat_le value most then Ok value else Err kind.Range

-- bytes as pairs of hexadecimal digits
unfoldable pub hex_field : List ℕ → Result (List ℕ) ScriptKind
hex_field word = or_kind kind.Hex (hex_pairs word)

-- ---- fields of the table of lines

pub data Field : Type 0 where
  Guest : Field
  Port : Field
  File : Field
  Number : Field
  Range : (least most : ℕ) → Field
  Hex : Field

-- what is made of the field's value: a port is the two names
abbrev pub Takes : Field → Type 0 → Type 0
Takes Guest Made = List ℕ → Made
Takes Port Made = List ℕ → List ℕ → Made
Takes File Made = List ℕ → Made
Takes Number Made = ℕ → Made
Takes (Range least most) Made = ℕ → Made
Takes Hex Made = List ℕ → Made

-- the same of a word, or the kind of its fault
abbrev pub field_of : {Made : Type 0} → (field : Field) → Takes field Made → List ℕ
    → Result Made ScriptKind
field_of Guest make word = made_of make (guest_field word)
field_of Port make word = made_of (λ port. make port.0 port.1) (port_field word)
field_of File make word = made_of make (file_field word)
field_of Number make word = made_of make (number_field word)
field_of (Range least most) make word = made_of make (range_field least most word)
field_of Hex make word = made_of make (hex_field word)
