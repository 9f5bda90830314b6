-- The header that is written is read again.
use Rattle.std.proofs.Common.{◌≡◌, ℕ, zero, suc, ◌+◌, ◌-◌, ◌*◌, ◌/◌, ◌%◌, ◌^◌, ◌<◌, ◌≤◌, ◌==◌, Bool}
use Rattle.std.proofs.Common.{true, ◌&&◌, cond, leb, List, [], ◌∷◌, ◌++◌, length, drop, replicate}
use Rattle.std.proofs.Common.{Ok, Err, refl, ap, ◌∙◌, append_assoc, length-append, arith}
use Rattle.std.proofs.lemmas.Bool.{le-leb}
use Rattle.std.proofs.lemmas.List.{length-replicate}
use Rattle.byteorder.specs.Endian.{big_number}
use Rattle.xv_fdt.specs.declared.fault.FdtKind.{FdtKind}
use Rattle.xv_fdt.specs.declared.fault.FdtKind.TheVariants.{TooBig, Short, BadMagic, BadVersion}
use Rattle.xv_fdt.specs.declared.fault.FdtKind.TheVariants.{BadOffset}
use Rattle.xv_fdt.specs.Header.{word, is_zero_pair, has_zero_pair, reservations_end, pairs_from}
use Rattle.xv_fdt.specs.Header.{totalsize, Rule, rule, file_rules, block_rules, keeps, header}
use Rattle.xv_fdt.specs.Tree.{Property, Entry}
use Rattle.xv_fdt.specs.Written.{big_word, words_bytes, header_fields, with_padding, begin_bytes}
use Rattle.xv_fdt.specs.Written.{property_bytes, properties_bytes, ends, structure_bytes}
use Rattle.xv_fdt.specs.Written.{names_bytes}
use Rattle.xv_fdt.proofs.PieceLemmas.{behind, behind_word, word_is, length-big_word}
use Rattle.xv_fdt.proofs.PieceLemmas.{length-with_padding}

-- ---- rules that are kept

kept : (holds : Bool) (kind : FdtKind) (offset : ℕ) (rules : List Rule) → holds ≡ true
    → keeps (rule holds kind offset ∷ rules) ≡ keeps rules
unfolding keeps
kept holds kind offset rules is = ap (λ h. cond h (keeps rules) (Err (kind, offset))) is

none_left : keeps [] ≡ Ok tt
unfolding keeps
none_left = refl

all : (a b : Bool) → a ≡ true → b ≡ true → (a && b) ≡ true
all a b p q = rw (p, q) refl

file-keeps : (bytes : List ℕ) → length bytes ≤ 1048576 → 40 ≤ length bytes
    → word bytes 0 ≡ 0xd00dfeed → 40 ≤ word bytes 4 → word bytes 4 ≤ length bytes
    → word bytes 20 ≡ 17 → word bytes 24 ≡ 16 → keeps (file_rules bytes) ≡ Ok tt
file-keeps bytes small least magic total whole version last =
    kept _ TooBig 0 _ (le-leb _ _ small)
    ∙ kept _ Short (length bytes) _ (le-leb _ _ least)
    ∙ kept _ BadMagic 0 _ (ap (λ n. n == 0xd00dfeed) magic)
    ∙ kept _ Short 4 _ (all _ _ (le-leb _ _ total) (le-leb _ _ whole))
    ∙ kept _ BadVersion 20 _ (ap (leb 17) version)
    ∙ kept _ BadVersion 24 _ (ap (λ n. leb n 17) last)
    ∙ none_left

block-keeps : (bytes : List ℕ) (structure strings : ℕ) → word bytes 4 ≡ 56 + structure + strings
    → word bytes 8 ≡ 56 → word bytes 12 ≡ 56 + structure
    → word bytes 16 ≡ 40 → word bytes 32 ≡ strings → word bytes 36 ≡ structure → structure % 4 ≡ 0
    → reservations_end bytes ≡ true
    → keeps (block_rules bytes) ≡ Ok tt
block-keeps bytes structure strings total at_structure at_strings at_pairs strings_size
    structure_size aligned ended =
    kept _ BadOffset 8 _
    (all _ _ (all _ _ (ap (λ n. n % 4 == 0) at_structure) (ap (leb 40) at_structure))
    (le-leb _ _ (omega (arith, total, at_structure, structure_size))))
    ∙ kept _ BadOffset 36 _ (ap (λ n. n % 4 == 0) structure_size ∙ ap (λ n. n == 0) aligned)
    ∙ kept _ BadOffset 12 _ (le-leb _ _ (omega (arith, total, at_strings, strings_size)))
    ∙ kept _ BadOffset 16 _ (all _ _ (ap (λ n. n % 8 == 0) at_pairs) ended)
    ∙ none_left

-- ---- the words, one after the other

words-first : (number : ℕ) (numbers rest : List ℕ) → words_bytes (number ∷ numbers)
    ++ rest ≡ big_word number ++ (words_bytes numbers ++ rest)
unfolding words_bytes
words-first number numbers rest = append_assoc (big_word number) (words_bytes numbers) rest

words-nil : (rest : List ℕ) → words_bytes [] ++ rest ≡ rest
unfolding words_bytes
words-nil rest = refl

length-words : (numbers : List ℕ) → length (words_bytes numbers) ≡ 4 * length numbers
unfolding words_bytes
length-words [] = refl
length-words (number ∷ numbers) =
    omega (
      arith,
      length-append (big_word number) (words_bytes numbers),
      length-big_word number,
      length-words numbers,
    )

record Field (bytes : List ℕ) (at number : ℕ) (numbers rest : List ℕ) : Type 0 where
  is : word bytes at ≡ number
  next : drop (at + 4) bytes ≡ words_bytes numbers ++ rest

field : (bytes : List ℕ) (at number : ℕ) (numbers rest : List ℕ) → drop at bytes
    ≡ words_bytes (number ∷ numbers) ++ rest → number < 2 ^ 32 → Field bytes at number numbers rest
field bytes at number numbers rest stands small =
    let first = stands ∙ words-first number numbers rest in
    record {
      is = word_is bytes (words_bytes numbers ++ rest) at number first small;
      next = behind_word bytes (words_bytes numbers ++ rest) at number first;
    }

-- ---- the pair of zeros

zeros : List ℕ → List ℕ → Type 0
zeros bytes rest = drop 40 bytes ≡ replicate 16 0 ++ rest

zero_pair : (bytes rest : List ℕ) → drop 40 bytes ≡ replicate 16 0 ++ rest
    → is_zero_pair bytes 40 ≡ true
zero_pair bytes rest stands =
    let second : drop 48 bytes ≡ replicate 8 0 ++ rest =
    behind bytes (replicate 8 0) (replicate 8 0 ++ rest) 40 stands in
    all _ _ (ap (λ xs. big_number 8 xs == 0) stands) (ap (λ xs. big_number 8 xs == 0) second)

has_pair : (count : ℕ) (bytes : List ℕ) (at : ℕ) → 0 < count → is_zero_pair bytes at ≡ true
    → has_zero_pair count bytes at ≡ true
unfolding has_zero_pair
has_pair zero bytes at some is = absurd (omega arith)
has_pair (suc count) bytes at some is = rw is refl

-- ---- a whole file

unfoldable pub file_of : List ℕ → List ℕ → List ℕ
file_of structure strings =
    words_bytes (header_fields (length structure) (length strings))
    ++ (replicate 16 0 ++ (structure ++ strings))

pub length-file : (structure strings : List ℕ)
    → length (file_of structure strings) ≡ 56 + length structure + length strings
unfolding file_of
length-file structure strings =
    let fields : length (header_fields (length structure) (length strings)) ≡ 10 = refl in
    omega (
      arith,
      length-append (words_bytes (header_fields (length structure) (length strings)))
          (replicate 16 0 ++ (structure ++ strings)),
      length-words (header_fields (length structure) (length strings)),
      fields,
      length-append (replicate 16 0) (structure ++ strings),
      length-replicate {A = ℕ} 16 0,
      length-append structure strings,
    )

start : (structure strings : List ℕ) → drop 0 (file_of structure strings)
    ≡ words_bytes (header_fields (length structure) (length strings))
    ++ (replicate 16 0 ++ (structure ++ strings))
unfolding file_of
start structure strings = refl

pub record IsFile (structure strings : List ℕ) : Type 0 where
  pub header_is : header (file_of structure strings)
      ≡ Ok (record {
        structure = 56;
        structure_size = length structure;
        strings = 56 + length structure;
        strings_size = length strings;
      })
  pub structure_is : drop 56 (file_of structure strings) ≡ structure ++ strings

pub file-again : (structure strings : List ℕ) → length structure % 4 ≡ 0
    → length (file_of structure strings) ≤ 1048576 → IsFile structure strings
unfolding header
file-again structure strings aligned small =
    let bytes = file_of structure strings in
    let s = length structure in
    let t = length strings in
    let rest = replicate 16 0 ++ (structure ++ strings) in
    let len = length-file structure strings in
    let f0 = field bytes 0 0xd00dfeed _ rest (start structure strings) (omega arith) in
    let f1 = field bytes 4 (56 + s + t) _ rest f0.next (omega (arith, len, small)) in
    let f2 = field bytes 8 56 _ rest f1.next (omega arith) in
    let f3 = field bytes 12 (56 + s) _ rest f2.next (omega (arith, len, small)) in
    let f4 = field bytes 16 40 _ rest f3.next (omega arith) in
    let f5 = field bytes 20 17 _ rest f4.next (omega arith) in
    let f6 = field bytes 24 16 _ rest f5.next (omega arith) in
    let f7 = field bytes 28 0 _ rest f6.next (omega arith) in
    let f8 = field bytes 32 t _ rest f7.next (omega (arith, len, small)) in
    let f9 = field bytes 36 s _ rest f8.next (omega (arith, len, small)) in
    let pairs : drop 40 bytes ≡ rest = f9.next ∙ words-nil rest in
    let count : 0 < (totalsize bytes - 40) / 16 = omega (arith, f1.is) in
    let ended : reservations_end bytes ≡ true =
    ap (λ n. has_zero_pair (pairs_from bytes n) bytes n) f4.is
    ∙ has_pair ((totalsize bytes - 40) / 16) bytes 40 count
    (zero_pair bytes (structure ++ strings) pairs) in
    record {
      header_is =
          rw (
            file-keeps bytes small (omega (arith, len)) f0.is (omega (arith, f1.is))
                (omega (arith, f1.is, len)) f5.is f6.is,
            block-keeps bytes s t f1.is f2.is f3.is f4.is f8.is f9.is aligned ended,
            f2.is,
            f9.is,
            f3.is,
            f8.is,
          ) refl;
      structure_is = behind bytes (replicate 16 0) (structure ++ strings) 40 pairs;
    }

-- ---- a structure is a multiple of 4 bytes long

abbrev Aligned : List ℕ → Type 0
Aligned bytes = length bytes % 4 ≡ 0

aligned-append : (xs ys : List ℕ) → Aligned xs → Aligned ys → Aligned (xs ++ ys)
aligned-append xs ys p q = omega (arith, p, q, length-append xs ys)

aligned-word : (n : ℕ) → Aligned (big_word n)
aligned-word n = omega (arith, length-big_word n)

aligned-padding : (bytes : List ℕ) → Aligned (with_padding bytes)
aligned-padding bytes = omega (arith, length-with_padding bytes)

aligned-begin : (name : List ℕ) → Aligned (begin_bytes name)
unfolding begin_bytes
aligned-begin name =
    aligned-append (big_word 1) (with_padding (name ++ (0 ∷ []))) (aligned-word 1)
    (aligned-padding (name ++ (0 ∷ [])))

aligned-property : (offset : ℕ) (p : Property) → Aligned (property_bytes offset p)
unfolding property_bytes
aligned-property offset p =
    aligned-append (big_word 3) _ (aligned-word 3)
    (aligned-append (big_word (length p.value)) _ (aligned-word (length p.value))
    (aligned-append (big_word offset) (with_padding p.value) (aligned-word offset)
    (aligned-padding p.value)))

aligned-properties : (offset : ℕ) (ps : List Property) → Aligned (properties_bytes offset ps)
unfolding properties_bytes
aligned-properties offset [] = refl
aligned-properties offset (p ∷ ps) =
    aligned-append (property_bytes offset p) (properties_bytes (offset + length p.name + 1) ps)
    (aligned-property offset p) (aligned-properties (offset + length p.name + 1) ps)

aligned-ends : (count : ℕ) → Aligned (ends count)
unfolding ends
aligned-ends zero = refl
aligned-ends (suc count) =
    aligned-append (big_word 2) (ends count) (aligned-word 2) (aligned-ends count)

pub aligned-structure : (open_nodes offset : ℕ) (es : List Entry)
    → length (structure_bytes open_nodes offset es) % 4 ≡ 0
unfolding structure_bytes
aligned-structure open_nodes offset [] =
    aligned-append (ends open_nodes) (big_word 9) (aligned-ends open_nodes) (aligned-word 9)
aligned-structure open_nodes offset (e ∷ es) =
    aligned-append (ends (suc open_nodes - e.depth)) _ (aligned-ends (suc open_nodes - e.depth))
    (aligned-append (begin_bytes e.name) _ (aligned-begin e.name)
    (aligned-append (properties_bytes offset e.props) _ (aligned-properties offset e.props)
    (aligned-structure e.depth (offset + length (names_bytes e.props)) es)))
