-- Worked rows of the definitions, computed by the checker: the least tree and what is made of it.
use Rattle.std.proofs.Common.{◌≡◌, ℕ, zero, suc, ◌+◌, ◌*◌, List, [], ◌∷◌, ◌++◌, length, take}
use Rattle.std.proofs.Common.{Result, Ok, Err, refl}
use Rattle.byteorder.specs.Endian.{big_bytes}
use Rattle.xv_base.specs.Name.{is_dev_name}
use Rattle.xv_fdt.specs.declared.fault.FdtKind.TheVariants.{BadMagic, Short, BadOffset, BadToken}
use Rattle.xv_fdt.specs.declared.fault.FdtKind.TheVariants.{BadName, Unbalanced, TooDeep}
use Rattle.xv_fdt.specs.Fault.{Fault}
use Rattle.xv_fdt.specs.Header.{header, keeps, has_zero_pair}
use Rattle.xv_fdt.specs.Token.{text, mark_at, name_at, property_at, token_at, tokens_up_to, tokens}
use Rattle.xv_fdt.specs.Tree.{Property, Entry}
use Rattle.xv_fdt.specs.Grammar.{properties, nodes, children, tree}
use Rattle.xv_fdt.specs.Written.{big_word, with_padding, names_bytes, strings_bytes, begin_bytes}
use Rattle.xv_fdt.specs.Written.{property_bytes, properties_bytes, ends, structure_bytes}
use Rattle.xv_fdt.specs.Written.{words_bytes, written}

words : List ℕ → List ℕ
words [] = []
words (number ∷ numbers) = big_bytes 4 number ++ words numbers

-- a file with these words as its structure, and these strings
file : List ℕ → List ℕ → List ℕ
file structure strings =
    words (0xd00dfeed ∷ (56 + 4 * length structure + length strings) ∷ 56
    ∷ (56 + 4 * length structure) ∷ 40 ∷ 17 ∷ 16 ∷ 0 ∷ length strings ∷ (4 * length structure)
    ∷ 0 ∷ 0 ∷ 0 ∷ 0 ∷ [])
    ++ (words structure ++ strings)

node : List ℕ → ℕ → ℕ → List Property → Entry
node name parent depth props = record { name = name; parent = parent; depth = depth; props = props }

root : List Property → Entry
root props = node [] 0 1 props

-- a name of one letter, as a word and as bytes
a : ℕ
a = 0x61000000

least : List ℕ
least = file (1 ∷ 0 ∷ 2 ∷ 9 ∷ []) []

-- a row: a file, and what it gives
record Row : Type 0 where
  bytes : List ℕ
  gives : Result (List Entry) Fault

row : List ℕ → Result (List Entry) Fault → Row
row bytes gives = record { bytes = bytes; gives = gives }

trees : List Row → List (Result (List Entry) Fault)
trees [] = []
trees (r ∷ rs) = tree r.bytes ∷ trees rs

given : List Row → List (Result (List Entry) Fault)
given [] = []
given (r ∷ rs) = r.gives ∷ given rs

-- so many nodes in one another
nested : ℕ → List ℕ
nested zero = []
nested (suc count) = 1 ∷ a ∷ nested count

rows : List Row
rows =
    row least (Ok (root [] ∷ []))
    -- the header
    ∷ row (1 ∷ least) (Err (BadMagic, 0))
    ∷ row (take 39 least) (Err (Short, 39))
    ∷ row (take 71 least) (Err (Short, 4))
    ∷ row (least ++ (1 ∷ [])) (Ok (root [] ∷ []))
    -- tokens in another's place
    ∷ row (file (9 ∷ 0 ∷ 2 ∷ 9 ∷ []) []) (Err (Unbalanced, 56))
    ∷ row (file (1 ∷ 0 ∷ 9 ∷ 9 ∷ []) []) (Err (Unbalanced, 64))
    ∷ row (file (1 ∷ 0 ∷ 4 ∷ 9 ∷ []) []) (Err (Unbalanced, 68))
    ∷ row (file (1 ∷ 0 ∷ 5 ∷ 9 ∷ []) []) (Err (BadToken, 64))
    ∷ row (file (1 ∷ 0 ∷ 3 ∷ 100 ∷ []) []) (Err (Short, 64))
    ∷ row (file (1 ∷ 0 ∷ 2 ∷ 2 ∷ []) []) (Err (Unbalanced, 68))
    ∷ row (file (1 ∷ 0 ∷ 2 ∷ 1 ∷ []) []) (Err (Unbalanced, 68))
    ∷ row (file (1 ∷ 0 ∷ 2 ∷ []) []) (Err (Short, 68))
    ∷ row (file (1 ∷ 0 ∷ []) []) (Err (Short, 64))
    ∷ row (file (1 ∷ []) []) (Err (Short, 56))
    ∷ row (file [] []) (Err (Short, 56))
    ∷ row (file (4 ∷ 1 ∷ 0 ∷ 4 ∷ 2 ∷ 4 ∷ 9 ∷ 77 ∷ []) []) (Ok (root [] ∷ []))
    -- names of nodes
    ∷ row (file (1 ∷ a ∷ 2 ∷ 9 ∷ []) []) (Err (BadName, 56))
    ∷ row (file (1 ∷ 0 ∷ 1 ∷ 0 ∷ 2 ∷ 2 ∷ 9 ∷ []) []) (Err (BadName, 64))
    ∷ row (file (1 ∷ 0 ∷ 1 ∷ a ∷ 2 ∷ 1 ∷ a ∷ 2 ∷ 2 ∷ 9 ∷ []) []) (Err (BadName, 76))
    ∷ row (file (1 ∷ 0 ∷ 1 ∷ a ∷ 1 ∷ a ∷ 2 ∷ 2 ∷ 1 ∷ 0x62000000 ∷ 2 ∷ 2 ∷ 9 ∷ []) [])
    (Ok (root [] ∷ node (0x61 ∷ []) 0 2 [] ∷ node (0x61 ∷ []) 1 3 []
    ∷ node (0x62 ∷ []) 0 2 [] ∷ []))
    -- properties: a value with its padding, one behind a child, one outside, names
    ∷ row (file (1 ∷ 0 ∷ 3 ∷ 5 ∷ 0 ∷ 0x01020304 ∷ 0x05060708 ∷ 2 ∷ 9 ∷ []) (0x61 ∷ 0 ∷ []))
    (Ok (root ((record { name = 0x61 ∷ []; value = 1 ∷ 2 ∷ 3 ∷ 4 ∷ 5 ∷ [] }) ∷ []) ∷ []))
    ∷ row (file (1 ∷ 0 ∷ 1 ∷ a ∷ 2 ∷ 3 ∷ 0 ∷ 0 ∷ 2 ∷ 9 ∷ []) (0x61 ∷ 0 ∷ [])) (Err (BadToken, 76))
    ∷ row (file (3 ∷ 0 ∷ 0 ∷ 1 ∷ 0 ∷ 2 ∷ 9 ∷ []) (0x61 ∷ 0 ∷ [])) (Err (Unbalanced, 56))
    ∷ row (file (1 ∷ 0 ∷ 3 ∷ 0 ∷ 0 ∷ 2 ∷ 9 ∷ []) (0x61 ∷ [])) (Err (BadOffset, 64))
    ∷ row (file (1 ∷ 0 ∷ 3 ∷ 0 ∷ 2 ∷ 2 ∷ 9 ∷ []) (0x61 ∷ 0 ∷ [])) (Err (BadOffset, 64))
    ∷ row (file (1 ∷ 0 ∷ 3 ∷ 0 ∷ 1 ∷ 2 ∷ 9 ∷ []) (0x61 ∷ 0 ∷ [])) (Err (BadName, 64))
    ∷ row (file (1 ∷ 0 ∷ 3 ∷ 0 ∷ 0 ∷ 3 ∷ 0 ∷ 0 ∷ 2 ∷ 9 ∷ []) (0x61 ∷ 0 ∷ [])) (Err (BadName, 76))
    -- 17 nodes in one another below the root
    ∷ row (file (1 ∷ 0 ∷ nested 17) []) (Err (TooDeep, 184))
    ∷ []

the_rows : trees rows ≡ given rows
unfolding trees given rows row nested least a root node file words tree header keeps has_zero_pair
    text mark_at name_at property_at token_at tokens_up_to tokens properties nodes
    children is_dev_name
the_rows = refl

-- ---- what is written

little : List Entry
little =
    root ((record { name = 0x61 ∷ []; value = 1 ∷ 2 ∷ 3 ∷ 4 ∷ 5 ∷ [] }) ∷ [])
    ∷ node (0x61 ∷ []) 0 2 []
    ∷ node (0x61 ∷ 0x62 ∷ 0x63 ∷ 0x64 ∷ []) 1 3
    ((record { name = 0x62 ∷ 0x63 ∷ []; value = [] }) ∷ [])
    ∷ node (0x62 ∷ []) 0 2 []
    ∷ []

written_least : written (root [] ∷ []) ≡ least
unfolding written words_bytes structure_bytes strings_bytes names_bytes properties_bytes
    property_bytes begin_bytes ends with_padding big_word least file words root node
written_least = refl

written_little : written little ≡
    file (1 ∷ 0 ∷ 3 ∷ 5 ∷ 0 ∷ 0x01020304 ∷ 0x05000000 ∷ 1 ∷ a ∷ 1 ∷ 0x61626364 ∷ 0 ∷ 3 ∷ 0 ∷ 2 ∷ 2
    ∷ 2 ∷ 1 ∷ 0x62000000 ∷ 2 ∷ 2 ∷ 9 ∷ [])
    (0x61 ∷ 0 ∷ 0x62 ∷ 0x63 ∷ 0 ∷ [])
unfolding written words_bytes structure_bytes strings_bytes names_bytes properties_bytes
    property_bytes begin_bytes ends with_padding big_word file words root node little a
written_little = refl
