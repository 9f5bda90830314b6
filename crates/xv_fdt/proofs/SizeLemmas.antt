-- A tree that was read has no more nodes than tokens, and no more tokens than its file has bytes.
use Rattle.std.proofs.Common.{◌≡◌, ℕ, zero, suc, ◌+◌, ◌-◌, ◌^◌, ◌<◌, ◌≤◌, Bool, true, false}
use Rattle.std.proofs.Common.{List, [], ◌∷◌, ◌++◌, length, Option, Some, None, Result, Ok, Err}
use Rattle.std.proofs.Common.{refl, ap, cond, leb, arith, length-append}
use Rattle.std.proofs.lemmas.Bool.Decides.{nat_tests}
use Rattle.std.proofs.lemmas.List.{length-take}
use Rattle.xv_fdt.specs.declared.header.Layout.{Layout}
use Rattle.xv_fdt.specs.Fault.{Fault, ◌>>=◌}
use Rattle.xv_fdt.specs.Header.{Rule, header, keeps, file_rules, block_rules, layout_of}
use Rattle.xv_fdt.specs.Header.{structure_block, strings_block}
use Rattle.xv_fdt.specs.Token.{Token, Begin, EndNode, Prop, Nop, End, Broken}
use Rattle.xv_fdt.specs.Token.{before, token_at, next_of, tokens_up_to, tokens}
use Rattle.xv_fdt.specs.Tree.{Entry}
use Rattle.xv_fdt.specs.Grammar.{Names, nobody, with_name, node_name, root_name, node_of, nodes}
use Rattle.xv_fdt.specs.Grammar.{children, before_end, nodes_of, tree, IsAllowed}
use Rattle.xv_fdt.proofs.NodeLemmas.{bind_ok, child_ok, shorter_begun}
use Rattle.xv_fdt.proofs.TreeAgain.{closed_ok}

-- ---- nodes are at most as many as tokens

abbrev read_of : List Entry × List Token → Result (List Entry × List Token) Fault
read_of x = Ok x

read_is : (x y : List Entry × List Token) → read_of x ≡ read_of y → x ≡ y
read_is x y e = cc

size_of : List Entry × List Token → ℕ
size_of x = length x.0 + length x.1

nodes_size : (n next parent depth : ℕ) (taken : Names) (ts : List Token)
    (x : List Entry × List Token) → nodes n next parent depth taken ts ≡ Ok x
    → size_of x ≤ length ts
unfolding nodes size_of
nodes_size zero next parent depth taken ts x e = absurd cc
nodes_size (suc n) next parent depth taken [] x e = absurd cc
nodes_size (suc n) next parent depth taken (EndNode at ∷ ts) x e =
    let same = ap size_of (read_is ([], ts) x e) in
    omega (arith, same)
nodes_size (suc n) next parent depth taken (Begin at read ∷ ts) x e =
    let c = child_ok (nodes n) next parent depth taken at read ts x e in
    let first = shorter_begun (node_name taken at read) parent depth ts c.first c.first_is in
    let below = nodes_size n (next + 1) next (depth + 1) nobody c.first.1 c.below c.below_is in
    let others =
    nodes_size n (next + 1 + length c.below.0) parent depth (with_name taken c.first.0.name)
    c.below.1 c.others c.others_is in
    let same = ap size_of (read_is (c.first.0 ∷ (c.below.0 ++ c.others.0), c.others.1) x c.all) in
    let joined = length-append c.below.0 c.others.0 in
    omega (arith, first, below, others, same, joined)
nodes_size (suc n) next parent depth taken (Prop at read ∷ ts) x e = absurd cc
nodes_size (suc n) next parent depth taken (Nop at ∷ ts) x e = absurd cc
nodes_size (suc n) next parent depth taken (End at ∷ ts) x e = absurd cc
nodes_size (suc n) next parent depth taken (Broken at kind ∷ ts) x e = absurd cc

nodes_of_size : (ts : List Token) (es : List Entry) → nodes_of ts ≡ Ok es → length es ≤ length ts
unfolding children size_of
nodes_of_size [] es e = absurd cc
nodes_of_size (EndNode at ∷ ts) es e = absurd cc
nodes_of_size (Prop at read ∷ ts) es e = absurd cc
nodes_of_size (Nop at ∷ ts) es e = absurd cc
nodes_of_size (End at ∷ ts) es e = absurd cc
nodes_of_size (Broken at kind ∷ ts) es e = absurd cc
nodes_of_size (Begin at read ∷ ts) es e =
    let root =
    bind_ok (node_of (root_name at read) 0 1 ts)
    (λ root. children 1 0 2 nobody root.1 >>= λ below. before_end (root.0 ∷ below.0) below.1)
    es e in
    let below =
    bind_ok (children 1 0 2 nobody root.0.1)
    (λ below. before_end (root.0.0 ∷ below.0) below.1) es root.2 in
    let first = shorter_begun (root_name at read) 0 1 ts root.0 root.1 in
    let inner = nodes_size (length root.0.1) 1 0 2 nobody root.0.1 below.0 below.1 in
    let all = ap length (closed_ok (root.0.0 ∷ below.0.0) es below.0.1 below.2) in
    omega (arith, first, inner, all)

-- ---- tokens are at most as many as bytes

before_size : (t : Token) (ts : List Token) → length (before t ts) ≤ suc (length ts)
before_size (Begin at read) ts = omega arith
before_size (EndNode at) ts = omega arith
before_size (Prop at read) ts = omega arith
before_size (Nop at) ts = omega arith
before_size (End at) ts = omega arith
before_size (Broken at kind) ts = omega arith

tokens_size : (count : ℕ) (block strings : List ℕ) (place : Option ℕ)
    → length (tokens_up_to count block strings place) ≤ count
unfolding tokens_up_to
tokens_size zero block strings place = omega arith
tokens_size (suc count) block strings None = omega arith
tokens_size (suc count) block strings (Some at) =
    let next = next_of (token_at block strings at) in
    let others = tokens_size count block strings next in
    let all = before_size (token_at block strings at) (tokens_up_to count block strings next) in
    omega (arith, others, all)

-- ---- a file has at most 1,048,576 bytes

first_kept : (r : Rule) (rs : List Rule) (done : Unit {0}) → keeps (r ∷ rs) ≡ Ok done
    → r.holds ≡ true
unfolding keeps
first_kept r rs done e = by r.holds e
  where
    by : (holds : Bool) → cond holds (keeps rs) (Err (r.kind, r.offset)) ≡ Ok done → holds ≡ true
    by true e = refl
    by false e = absurd cc

file_size : (bytes : List ℕ) (layout : Layout) → header bytes ≡ Ok layout → length bytes ≤ 1048576
unfolding header
file_size bytes layout e =
    let kept =
    bind_ok (keeps (file_rules bytes))
    (λ _. keeps (block_rules bytes) >>= λ _. Ok (layout_of bytes)) layout e in
    let few = first_kept _ _ kept.0 kept.1 in
    grind (arith, nat_tests)

pub allowed-few : (es : List Entry) → IsAllowed es → length es < 2 ^ 32
unfolding tree tokens
allowed-few es allowed =
    let bytes = allowed.0 in
    let layout =
    bind_ok (header bytes)
    (λ layout. nodes_of (
    tokens (structure_block bytes layout) (strings_block bytes layout) layout.structure
    )) es allowed.1 in
    let block = structure_block bytes layout.0 in
    let strings = strings_block bytes layout.0 in
    let start = layout.0.structure in
    let whole = file_size bytes layout.0 layout.1 in
    let cut = length-take (layout.0.structure + layout.0.structure_size) bytes in
    let most = tokens_size (suc (length block - start)) block strings (Some start) in
    let nodes = nodes_of_size (tokens block strings start) es layout.2 in
    omega (arith, whole, cut, most, nodes)
