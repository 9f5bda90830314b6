-- What was written so far, and one piece more.
use Rattle.std.proofs.Common.{refl, ◌≡◌, ℕ, suc, ◌+◌, ◌-◌, ◌%◌, ◌^◌, ◌<◌, ◌≤◌, List, [], ◌∷◌, ◌++◌}
use Rattle.std.proofs.Common.{length, get_or, drop, replicate, sym, ap, ◌∙◌, append_assoc}
use Rattle.std.proofs.Common.{length-append, arith, add-one}
use Rattle.std.proofs.lemmas.List.{append-nil}
use Rattle.std.proofs.Math.Seq.{drop-cons}
use Rattle.std.specs.Int.{byte_at}
use Rattle.byteorder.specs.Endian.{big_bytes}
use Rattle.xv_fdt.specs.Tree.{Property, Entry}
use Rattle.xv_fdt.specs.Written.{big_word, names_bytes, strings_bytes, begin_bytes, property_bytes}
use Rattle.xv_fdt.specs.Written.{properties_bytes, ends, structure_bytes, words_bytes}
use Rattle.xv_fdt.specs.Written.{header_fields}

-- the four lowest bytes are those of the number below 2^32
pub big_word-fits : (n : ℕ) → big_bytes 4 (n % 2 ^ 32) ≡ big_word n
unfolding big_word
big_word-fits n =
    let e3 : byte_at 3 (n % 2 ^ 32) ≡ byte_at 3 n = omega arith in
    let e2 : byte_at 2 (n % 2 ^ 32) ≡ byte_at 2 n = omega arith in
    let e1 : byte_at 1 (n % 2 ^ 32) ≡ byte_at 1 n = omega arith in
    let e0 : byte_at 0 (n % 2 ^ 32) ≡ byte_at 0 n = omega arith in
    cc

-- one item, and those behind it
pub drop-item : {A : Type 0} (xs : List A) (i : ℕ) (x : A) → i < length xs → x ≡ get_or xs i x
    → drop i xs ≡ x ∷ drop (i + 1) xs
drop-item {A} xs i x lt is = drop-cons xs i x lt ∙ ap (λ (y : A). y ∷ drop (suc i) xs) (sym is)
    ∙ ap (λ n. x ∷ drop n xs) (sym (add-one i))

pub drop-number : (xs : List ℕ) (i : ℕ) → i < length xs → drop i xs ≡ get_or xs i 0
    ∷ drop (i + 1) xs
drop-number xs i lt = drop-cons xs i 0 lt ∙ ap (λ n. get_or xs i 0 ∷ drop n xs) (sym (add-one i))

-- ---- zeros and ends

pub zeros-more : (out now : List ℕ) (count i : ℕ) (total : List ℕ) → i < count → now ≡ out ++ 0 ∷ []
    → out ++ replicate (count - i) 0 ≡ total → now ++ replicate (count - (i + 1)) 0 ≡ total
zeros-more out now count i total lt pushed so_far =
    let k : count - i ≡ suc (count - (i + 1)) = omega arith in
    ap (λ o. o ++ replicate (count - (i + 1)) 0) pushed
    ∙ append_assoc out (0 ∷ []) (replicate (count - (i + 1)) 0)
    ∙ ap (λ n. out ++ replicate n 0) (sym k) ∙ so_far

pub zeros-done : (out : List ℕ) (count i : ℕ) (total : List ℕ) → count ≤ i
    → out ++ replicate (count - i) 0 ≡ total → out ≡ total
zeros-done out count i total le so_far =
    let k : count - i ≡ 0 = omega arith in
    sym (append-nil out) ∙ ap (λ n. out ++ replicate n 0) (sym k) ∙ so_far

pub ends-more : (out now : List ℕ) (count i : ℕ) (total : List ℕ) → i < count
    → now ≡ out ++ big_word 2
    → out ++ ends (count - i) ≡ total → now ++ ends (count - (i + 1)) ≡ total
unfolding ends
ends-more out now count i total lt pushed so_far =
    let k : count - i ≡ suc (count - (i + 1)) = omega arith in
    ap (λ o. o ++ ends (count - (i + 1))) pushed
    ∙ append_assoc out (big_word 2) (ends (count - (i + 1)))
    ∙ ap (λ n. out ++ ends n) (sym k) ∙ so_far

pub ends-done : (out : List ℕ) (count i : ℕ) (total : List ℕ) → count ≤ i
    → out ++ ends (count - i) ≡ total → out ≡ total
unfolding ends
ends-done out count i total le so_far =
    let k : count - i ≡ 0 = omega arith in
    sym (append-nil out) ∙ ap (λ n. out ++ ends n) (sym k) ∙ so_far

-- ---- words

pub words-step : (out now : List ℕ) (number : ℕ) (rest : List ℕ) (total : List ℕ)
    → now ≡ out ++ big_word number
    → out ++ words_bytes (number ∷ rest) ≡ total → now ++ words_bytes rest ≡ total
unfolding words_bytes
words-step out now number rest total put so_far =
    ap (λ o. o ++ words_bytes rest) put
    ∙ append_assoc out (big_word number) (words_bytes rest) ∙ so_far

pub words-left : (out total : List ℕ) → out ++ words_bytes [] ≡ total → out ≡ total
unfolding words_bytes
words-left out total so_far = sym (append-nil out) ∙ so_far

-- a sum that wraps has the same lowest 32 bits
big_word-wraps : (m n : ℕ) → m % 2 ^ 32 ≡ n % 2 ^ 32 → big_word m ≡ big_word n
big_word-wraps m n same = sym (big_word-fits m) ∙ ap (big_bytes 4) same ∙ big_word-fits n

pub header-wraps : (structure strings end total : ℕ) → end ≡ (56 + structure) % 2 ^ 64
    → total ≡ (end + strings) % 2 ^ 64
    → words_bytes (0xd00dfeed ∷ total ∷ 56 ∷ end ∷ 40 ∷ 17 ∷ 16 ∷ 0 ∷ strings ∷ structure ∷ [])
    ≡ words_bytes (header_fields structure strings)
unfolding words_bytes
header-wraps structure strings end total end_is total_is =
    rw (
      big_word-wraps total (56 + structure + strings) (omega (arith, end_is, total_is)),
      big_word-wraps end (56 + structure) (omega (arith, end_is)),
    ) refl

-- ---- properties

-- the structure so far, and the properties that are left
pub properties-step : (structure now strings more : List ℕ) (p : Property) (rest : List Property)
    (total : List ℕ)
    → now ≡ structure ++ property_bytes (length strings) p → more ≡ strings ++ (p.name ++ (0 ∷ []))
    → structure ++ properties_bytes (length strings) (p ∷ rest) ≡ total
    → now ++ properties_bytes (length more) rest ≡ total
unfolding properties_bytes
properties-step structure now strings more p rest total put named so_far =
    let len : length more ≡ length strings + length p.name + 1 =
    omega (
      arith,
      ap length named,
      length-append strings (p.name ++ (0 ∷ [])),
      length-append p.name (0 ∷ []),
    ) in
    ap (λ n. now ++ properties_bytes n rest) len
    ∙ ap (λ o. o ++ properties_bytes (length strings + length p.name + 1) rest) put
    ∙ append_assoc structure (property_bytes (length strings) p)
    (properties_bytes (length strings + length p.name + 1) rest)
    ∙ so_far

pub names-step : (strings more : List ℕ) (p : Property) (rest : List Property) (total : List ℕ)
    → more ≡ strings ++ (p.name ++ (0 ∷ []))
    → strings ++ names_bytes (p ∷ rest) ≡ total → more ++ names_bytes rest ≡ total
unfolding names_bytes
names-step strings more p rest total named so_far =
    ap (λ o. o ++ names_bytes rest) named
    ∙ append_assoc strings (p.name ++ (0 ∷ [])) (names_bytes rest)
    ∙ ap (λ o. strings ++ o) (append_assoc p.name (0 ∷ []) (names_bytes rest))
    ∙ so_far

pub properties-left : (structure : List ℕ) (offset : ℕ) (total : List ℕ)
    → structure ++ properties_bytes offset [] ≡ total → structure ≡ total
unfolding properties_bytes
properties-left structure offset total so_far = sym (append-nil structure) ∙ so_far

pub names-left : (strings total : List ℕ) → strings ++ names_bytes [] ≡ total → strings ≡ total
unfolding names_bytes
names-left strings total so_far = sym (append-nil strings) ∙ so_far

-- ---- nodes

pub structure-step : (structure now strings more : List ℕ) (open_nodes : ℕ) (e : Entry)
    (rest : List Entry) (total : List ℕ)
    → now ≡ structure
    ++ (ends (open_nodes + 1 - e.depth)
    ++ (begin_bytes e.name ++ properties_bytes (length strings) e.props))
    → more ≡ strings ++ names_bytes e.props
    → structure ++ structure_bytes open_nodes (length strings) (e ∷ rest) ≡ total
    → now ++ structure_bytes e.depth (length more) rest ≡ total
unfolding structure_bytes
structure-step structure now strings more open_nodes e rest total put names_put so_far =
    let len : length more ≡ length strings + length (names_bytes e.props) =
    omega (arith, ap length names_put, length-append strings (names_bytes e.props)) in
    let behind = structure_bytes e.depth (length strings + length (names_bytes e.props)) rest in
    let props = properties_bytes (length strings) e.props in
    ap (λ n. now ++ structure_bytes e.depth n rest) len
    ∙ ap (λ o. o ++ behind) put
    ∙ append_assoc structure (ends (open_nodes + 1 - e.depth)
    ++ (begin_bytes e.name ++ props)) behind
    ∙ ap (λ o. structure ++ o)
    (append_assoc (ends (open_nodes + 1 - e.depth)) (begin_bytes e.name ++ props) behind)
    ∙ ap (λ o. structure ++ (ends (open_nodes + 1 - e.depth) ++ o))
    (append_assoc (begin_bytes e.name) props behind)
    ∙ ap (λ n. structure ++ (ends (n - e.depth) ++ (begin_bytes e.name ++ (props ++ behind))))
    (add-one open_nodes)
    ∙ so_far

pub structure-left : (structure ended now : List ℕ) (open_nodes offset : ℕ) (total : List ℕ)
    → ended ≡ structure ++ ends open_nodes → now ≡ ended ++ big_word 9
    → structure ++ structure_bytes open_nodes offset [] ≡ total → now ≡ total
unfolding structure_bytes
structure-left structure ended now open_nodes offset total ends_put end_put so_far =
    end_put ∙ ap (λ o. o ++ big_word 9) ends_put
    ∙ append_assoc structure (ends open_nodes) (big_word 9) ∙ so_far

pub strings-step : (strings more : List ℕ) (e : Entry) (rest : List Entry) (total : List ℕ)
    → more ≡ strings ++ names_bytes e.props
    → strings ++ strings_bytes (e ∷ rest) ≡ total → more ++ strings_bytes rest ≡ total
unfolding strings_bytes
strings-step strings more e rest total named so_far =
    ap (λ o. o ++ strings_bytes rest) named
    ∙ append_assoc strings (names_bytes e.props) (strings_bytes rest) ∙ so_far

pub strings-left : (strings total : List ℕ) → strings ++ strings_bytes [] ≡ total → strings ≡ total
unfolding strings_bytes
strings-left strings total so_far = sym (append-nil strings) ∙ so_far
