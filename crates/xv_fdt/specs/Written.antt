-- The file that is written of a tree: header, reservation block, structure block and strings block
-- (Devicetree Specification v0.4, sections 5.2 to 5.6), one after the other.
use Rattle.std.specs.Prelude.{ℕ, zero, suc, ◌+◌, ◌-◌, List, [], ◌∷◌, ◌++◌, length, replicate}
use Rattle.byteorder.specs.Endian.{big_bytes}
use Rattle.xv_fdt.specs.Token.{padded_len}
use Rattle.xv_fdt.specs.Tree.{Property, Entry}

-- a number below 2^32 in 4 bytes
unfoldable pub big_word : ℕ → List ℕ
big_word number = big_bytes 4 number

-- bytes with zeros up to the next multiple of 4
unfoldable pub with_padding : List ℕ → List ℕ
with_padding bytes = bytes ++ replicate (padded_len (length bytes) - length bytes) 0

-- ---- strings: the name of each property in order, each with a 0, none shared

unfoldable pub names_bytes : List Property → List ℕ
names_bytes [] = []
names_bytes (p ∷ ps) = p.name ++ (0 ∷ names_bytes ps)

unfoldable pub strings_bytes : List Entry → List ℕ
strings_bytes [] = []
strings_bytes (e ∷ es) = names_bytes e.props ++ strings_bytes es

-- ---- structure

-- FDT_BEGIN_NODE, the name and a 0
unfoldable pub begin_bytes : List ℕ → List ℕ
begin_bytes name = big_word 1 ++ with_padding (name ++ (0 ∷ []))

-- FDT_PROP, the length of the value, the offset of the name, and the value
unfoldable pub property_bytes : ℕ → Property → List ℕ
property_bytes offset p =
    big_word 3 ++ (big_word (length p.value) ++ (big_word offset ++ with_padding p.value))

-- the properties of a node, the names of which stand in the strings from an offset on
unfoldable pub properties_bytes : ℕ → List Property → List ℕ
properties_bytes offset [] = []
properties_bytes offset (p ∷ ps) =
    property_bytes offset p ++ properties_bytes (offset + length p.name + 1) ps

-- so many FDT_END_NODE
unfoldable pub ends : ℕ → List ℕ
ends zero = []
ends (suc count) = big_word 2 ++ ends count

-- nodes, where so many are open: a node of depth k stands in k - 1 open ones, so those that it
-- isn't in end before it. FDT_END follows the last
unfoldable pub structure_bytes : ℕ → ℕ → List Entry → List ℕ
structure_bytes open_nodes offset [] = ends open_nodes ++ big_word 9
structure_bytes open_nodes offset (e ∷ es) =
    ends (suc open_nodes - e.depth)
    ++ (begin_bytes e.name
    ++ (properties_bytes offset e.props
    ++ structure_bytes e.depth (offset + length (names_bytes e.props)) es))

-- ---- the whole

unfoldable pub words_bytes : List ℕ → List ℕ
words_bytes [] = []
words_bytes (number ∷ numbers) = big_word number ++ words_bytes numbers

-- the ten fields of the header for blocks of these sizes (5.2): the reservation block stands at 40
-- and has 16 bytes, the structure begins at 56, the version is 17 and the last compatible version
-- 16
abbrev pub header_fields : ℕ → ℕ → List ℕ
header_fields structure_size strings_size =
    0xd00dfeed
    ∷ (56 + structure_size + strings_size)
    ∷ 56
    ∷ (56 + structure_size)
    ∷ 40
    ∷ 17
    ∷ 16
    ∷ 0
    ∷ strings_size
    ∷ structure_size
    ∷ []

unfoldable pub written : List Entry → List ℕ
written es =
    words_bytes (header_fields (length (structure_bytes 0 0 es)) (length (strings_bytes es)))
    ++ (replicate 16 0 ++ (structure_bytes 0 0 es ++ strings_bytes es))
