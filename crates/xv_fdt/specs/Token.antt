-- The tokens of a structure block (Devicetree Specification v0.4, section 5.4). A block holds the
-- bytes of the file up to the end of its structure, so that the place of a token is its offset in
-- the file.
use Rattle.std.specs.Prelude.{ℕ, zero, suc, ◌+◌, ◌-◌, ◌*◌, ◌/◌, ◌==◌, nat_lt, if◌then◌else◌, List}
use Rattle.std.specs.Prelude.{[], ◌∷◌, length, take, drop, Option, Some, None, Result, Ok, Err}
use Rattle.std.specs.Option.{option_map}
use Rattle.xv_fdt.specs.declared.fault.FdtKind.{FdtKind}
use Rattle.xv_fdt.specs.declared.fault.FdtKind.TheVariants.{Short, BadToken, BadOffset}
use Rattle.xv_fdt.specs.declared.token.Mark.{Mark}
use Rattle.xv_fdt.specs.declared.token.Mark.TheVariants as marks
use Rattle.xv_fdt.specs.Header.{word}
use Rattle.xv_fdt.specs.Tree.{Property}

-- the bytes before the first 0, or none where there is no 0
unfoldable pub text : List ℕ → Option (List ℕ)
text [] = None
text (byte ∷ bytes) =
    if byte == 0 then Some [] else option_map (λ others. byte ∷ others) (text bytes)

-- a token with its place, and what stands behind it: the name of a node, or a property. That may be
-- broken in a way of its own
pub data Token : Type 0 where
  Begin : (at : ℕ) → (name : Result (List ℕ) FdtKind) → Token
  EndNode : (at : ℕ) → Token
  Prop : (at : ℕ) → (property : Result Property FdtKind) → Token
  Nop : (at : ℕ) → Token
  End : (at : ℕ) → Token
  -- another number, or no whole token
  Broken : (at : ℕ) → (kind : FdtKind) → Token

-- FDT_BEGIN_NODE, FDT_END_NODE, FDT_PROP, FDT_NOP and FDT_END (5.4.1)
abbrev pub mark_of : ℕ → Mark
mark_of number =
    if number == 1 then marks.Begin
    else if number == 2 then marks.EndNode
    else if number == 3 then marks.Prop
    else if number == 4 then marks.Nop
    else if number == 9 then marks.End
    else marks.Strange

unfoldable pub mark_at : List ℕ → ℕ → Mark
mark_at block at = if nat_lt (length block) (at + 4) then marks.Cut else mark_of (word block at)

-- what stands behind FDT_BEGIN_NODE: the name, and a 0
abbrev pub name_read : Option (List ℕ) → Result (List ℕ) FdtKind
name_read None = Err Short
name_read (Some name) = Ok name

unfoldable pub name_at : List ℕ → ℕ → Result (List ℕ) FdtKind
name_at block at = name_read (text (drop (at + 4) block))

-- what stands behind FDT_PROP: the length of the value, the offset of the name in the strings, and
-- the value
abbrev pub property_read : Option (List ℕ) → List ℕ → Result Property FdtKind
property_read None value = Err BadOffset
property_read (Some name) value = Ok (record { name = name; value = value })

abbrev pub value_len : List ℕ → ℕ → ℕ
value_len block at = word block (at + 4)

abbrev pub name_offset : List ℕ → ℕ → ℕ
name_offset block at = word block (at + 8)

unfoldable pub property_at : List ℕ → List ℕ → ℕ → Result Property FdtKind
property_at block strings at =
    if nat_lt (length block) (at + 12) then Err Short
    else if nat_lt (length block) (at + 12 + value_len block at) then Err Short
    else property_read (text (drop (name_offset block at) strings))
    (take (value_len block at) (drop (at + 12) block))

abbrev pub token_of : List ℕ → List ℕ → ℕ → Mark → Token
token_of block strings at marks.Begin = Begin at (name_at block at)
token_of block strings at marks.EndNode = EndNode at
token_of block strings at marks.Prop = Prop at (property_at block strings at)
token_of block strings at marks.Nop = Nop at
token_of block strings at marks.End = End at
token_of block strings at marks.Strange = Broken at BadToken
token_of block strings at marks.Cut = Broken at Short

unfoldable pub token_at : List ℕ → List ℕ → ℕ → Token
token_at block strings at = token_of block strings at (mark_at block at)

-- a length with its padding to the next multiple of 4
abbrev pub padded_len : ℕ → ℕ
padded_len len = (len + 3) / 4 * 4

-- where the next token stands. None follows the end, or a token that is broken
abbrev pub next_of : Token → Option ℕ
next_of (Begin at (Ok name)) = Some (at + 4 + padded_len (length name + 1))
next_of (Begin at (Err kind)) = None
next_of (EndNode at) = Some (at + 4)
next_of (Prop at (Ok property)) = Some (at + 12 + padded_len (length property.value))
next_of (Prop at (Err kind)) = None
next_of (Nop at) = Some (at + 4)
next_of (End at) = None
next_of (Broken at kind) = None

-- a token before others. A no-operation says nothing, wherever it stands
abbrev pub before : Token → List Token → List Token
before (Nop at) tokens = tokens
before token tokens = token ∷ tokens

-- so many tokens from a place on, or fewer
unfoldable pub tokens_up_to : ℕ → List ℕ → List ℕ → Option ℕ → List Token
tokens_up_to zero block strings place = []
tokens_up_to (suc count) block strings None = []
tokens_up_to (suc count) block strings (Some at) =
    before (token_at block strings at)
    (tokens_up_to count block strings (next_of (token_at block strings at)))

-- the tokens from a place on, without no-operations. A block has no more tokens than bytes, and the
-- last one is the end or broken
unfoldable pub tokens : List ℕ → List ℕ → ℕ → List Token
tokens block strings at = tokens_up_to (suc (length block - at)) block strings (Some at)
