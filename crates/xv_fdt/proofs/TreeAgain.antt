-- What is written of a tree is read as that tree.
use Rattle.std.proofs.Common.{◌≡◌, ℕ, ◌+◌, ◌-◌, ◌%◌, ◌^◌, ◌≤◌, ◌==◌, List, [], ◌∷◌, ◌++◌, length}
use Rattle.std.proofs.Common.{take, drop, Result, Ok, refl, sym, ap, subst, ◌∙◌, arith}
use Rattle.std.proofs.lemmas.Bool.{eqb-true}
use Rattle.std.proofs.lemmas.List.{append-nil, nil_from_length, drop-take, take_at, length-take}
use Rattle.std.proofs.Math.Seq.{take-length}
use Rattle.xv_fdt.specs.declared.fault.FdtKind.{FdtKind}
use Rattle.xv_fdt.specs.declared.fault.FdtKind.TheVariants.{BadName}
use Rattle.xv_fdt.specs.Fault.{Fault, ◌>>=◌, given, fault_at}
use Rattle.xv_fdt.specs.Header.{header, structure_block, strings_block}
use Rattle.xv_fdt.specs.Token.{Token, Begin, EndNode, Prop, Nop, End, Broken, tokens}
use Rattle.xv_fdt.specs.Tree.{Entry}
use Rattle.xv_fdt.specs.Grammar.{nobody, root_name, node_of, children, before_end, nodes_of, tree}
use Rattle.xv_fdt.specs.Grammar.{IsAllowed}
use Rattle.xv_fdt.specs.Written.{big_word, names_bytes, strings_bytes, begin_bytes}
use Rattle.xv_fdt.specs.Written.{properties_bytes, ends, structure_bytes, written}
use Rattle.xv_fdt.proofs.NodeLemmas.{bind_ok, given_ok}
use Rattle.xv_fdt.proofs.PieceLemmas.{behind, nothing_text, end-again, IsText}
use Rattle.xv_fdt.proofs.NodesAgain.{AllNew, node_of-node, stops_structure, entered-again}
use Rattle.xv_fdt.proofs.NodesAgain.{nodes-again}
use Rattle.xv_fdt.proofs.HeaderAgain.{file_of, length-file, file-again, aligned-structure}

abbrev ok : {A : Type 0} → A → Result A Fault
ok x = Ok x

ok_is : {A : Type 0} (x y : A) → ok x ≡ ok y → x ≡ y
ok_is x y e = cc

-- ---- what was read of a whole tree

pub record Rooted (es : List Entry) : Type 0 where
  pub root : Entry
  pub nameless : root.name ≡ []
  pub outside : root.parent ≡ 0
  pub first : root.depth ≡ 1
  pub props_new : AllNew nobody root.props
  pub inner : List Token
  pub below : List Entry × List Token
  pub below_is : children 1 0 2 nobody inner ≡ Ok below
  pub all : es ≡ root ∷ below.0

root_nameless : (at : ℕ) (read : Result (List ℕ) FdtKind) (name : List ℕ)
    → root_name at read ≡ Ok name → name ≡ []
root_nameless at read name e =
    let found = bind_ok (fault_at at read)
    (λ found. given (length found == 0) BadName at (Ok found)) name e in
    let empty = given_ok (length found.0 == 0) BadName at (Ok found.0) name found.2 in
    sym (ok_is found.0 name empty.1) ∙ nil_from_length found.0 (eqb-true (length found.0) 0 empty.0)

pub closed_ok : (entries es : List Entry) (ts : List Token) → before_end entries ts ≡ Ok es
    → es ≡ entries
closed_ok entries es [] e = absurd cc
closed_ok entries es (End at ∷ ts) e = sym (ok_is entries es e)
closed_ok entries es (Begin at read ∷ ts) e = absurd cc
closed_ok entries es (EndNode at ∷ ts) e = absurd cc
closed_ok entries es (Prop at read ∷ ts) e = absurd cc
closed_ok entries es (Nop at ∷ ts) e = absurd cc
closed_ok entries es (Broken at kind ∷ ts) e = absurd cc

rooted_ok : (ts : List Token) (es : List Entry) → nodes_of ts ≡ Ok es → Rooted es
rooted_ok [] es e = absurd cc
rooted_ok (EndNode at ∷ ts) es e = absurd cc
rooted_ok (Prop at read ∷ ts) es e = absurd cc
rooted_ok (Nop at ∷ ts) es e = absurd cc
rooted_ok (End at ∷ ts) es e = absurd cc
rooted_ok (Broken at kind ∷ ts) es e = absurd cc
rooted_ok (Begin at read ∷ ts) es e =
    let root = bind_ok (node_of (root_name at read) 0 1 ts) (λ root. children 1 0 2 nobody root.1
    >>= λ below. before_end (root.0 ∷ below.0) below.1) es e in
    let below = bind_ok (children 1 0 2 nobody root.0.1)
    (λ below. before_end (root.0.0 ∷ below.0) below.1) es root.2 in
    let node = node_of-node (root_name at read) 0 1 ts root.0 root.1 in
    record {
      root = root.0.0;
      nameless = sym (ap (λ (v : Entry). v.name) node.entry_is)
          ∙ root_nameless at read node.name node.named_is;
      outside = sym (ap (λ (v : Entry). v.parent) node.entry_is);
      first = sym (ap (λ (v : Entry). v.depth) node.entry_is);
      props_new = subst (λ (v : Entry). AllNew nobody v.props) node.entry_is node.props_new;
      inner = root.0.1;
      below = below.0;
      below_is = below.1;
      all = closed_ok (root.0.0 ∷ below.0.0) es below.0.1 below.2;
    }

-- ---- and again

root-first : (offset : ℕ) (e : Entry) (es : List Entry) → e.depth ≡ 1
    → structure_bytes 0 offset (e ∷ es) ≡ begin_bytes e.name
    ++ (properties_bytes offset e.props
    ++ structure_bytes e.depth (offset + length (names_bytes e.props)) es)
unfolding structure_bytes ends
root-first offset e es first =
    let none : 1 - e.depth ≡ 0 = omega (arith, first) in
    ap (λ n. ends n
    ++ (begin_bytes e.name
    ++ (properties_bytes offset e.props
    ++ structure_bytes e.depth (offset + length (names_bytes e.props)) es))) none

strings-root : (e : Entry) (es : List Entry) → strings_bytes (e ∷ es) ≡ names_bytes e.props
    ++ strings_bytes es
unfolding strings_bytes
strings-root e es = refl

structure-end : (offset : ℕ) → structure_bytes 0 offset [] ≡ big_word 9 ++ []
unfolding structure_bytes ends
structure-end offset = sym (append-nil (big_word 9))

nodes_of-again : (block strings : List ℕ) → length block ≤ 2 ^ 20 → length strings ≤ 2 ^ 20
    → (es : List Entry) → Rooted es → (at offset : ℕ)
    → drop at block ≡ structure_bytes 0 offset es → drop offset strings ≡ strings_bytes es
    → nodes_of (tokens block strings at) ≡ Ok es
unfolding children
nodes_of-again block strings small few es r at offset stands names =
    let root = r.root in
    let below = r.below.0 in
    let here = stands ∙ ap (structure_bytes 0 offset) r.all
    ∙ root-first offset root below r.first in
    let names_here = names ∙ ap strings_bytes r.all ∙ strings-root root below in
    let empty : IsText root.name = subst IsText (sym r.nameless) nothing_text in
    let allowed : root_name at (Ok root.name) ≡ Ok root.name =
    ap (λ n. given (length n == 0) BadName at (ok root.name)) r.nameless in
    let entered =
    entered-again block strings small few root_name root at offset _ _ empty allowed r.props_new
    here names_here
    (λ place is. stops_structure block strings small few place root.depth
    (offset + length (names_bytes root.props)) below is) in
    let again = nodes-again block strings small few (length r.inner) 1 0 2 1 nobody r.inner r.below
    [] r.below_is refl (omega arith) tt in
    let nil : below ++ [] ≡ below = append-nil below in
    let b = again entered.place (offset + length (names_bytes root.props))
    (entered.rest_is ∙ ap (λ n. structure_bytes n (offset + length (names_bytes root.props)) below)
    r.first ∙ ap (structure_bytes 1 (offset + length (names_bytes root.props))) (sym nil))
    (behind strings (names_bytes root.props) (strings_bytes below) offset names_here
    ∙ ap strings_bytes (sym nil)) in
    let ended = end-again block strings [] b.place (b.rest_is ∙ structure-end b.offset) in
    let begun_is : node_of (root_name at (Ok root.name)) 0 1 entered.behind
    ≡ Ok (root, tokens block strings entered.place) =
    ap (λ n. node_of (root_name at (Ok root.name)) n 1 entered.behind) (sym r.outside)
    ∙ ap (λ n. node_of (root_name at (Ok root.name)) root.parent n entered.behind) (sym r.first)
    ∙ entered.read in
    ap nodes_of entered.tokens_are ∙ rw (begun_is, b.read, ended) (ap ok (sym r.all))

-- ---- the whole file

written-file : (es : List Entry) → written es ≡ file_of (structure_bytes 0 0 es) (strings_bytes es)
unfolding written file_of
written-file es = refl

file-tree : (structure strings : List ℕ) (es : List Entry) → length structure % 4 ≡ 0
    → length (file_of structure strings) ≤ 1048576
    → structure ≡ structure_bytes 0 0 es → strings ≡ strings_bytes es → Rooted es
    → tree (file_of structure strings) ≡ Ok es
unfolding tree
file-tree structure strings es aligned small is names r =
    let file = file_of structure strings in
    let f = file-again structure strings aligned small in
    let len = length-file structure strings in
    let block = take (56 + length structure) file in
    let at_block : drop 56 block ≡ structure =
    drop-take 56 (length structure) file ∙ ap (take (length structure)) f.structure_is
    ∙ take_at structure strings (length structure) refl in
    let at_strings : take (length strings) (drop (56 + length structure) file) ≡ strings =
    ap (take (length strings)) (behind file structure strings 56 f.structure_is)
    ∙ take-length strings in
    let again = nodes_of-again block strings
    (omega (arith, length-take (56 + length structure) file, small)) (omega (arith, len, small))
    es r 56 0 (at_block ∙ is) names in
    rw f.header_is (ap (λ s. nodes_of (tokens block s 56)) at_strings ∙ again)

pub rooted_of : (bytes : List ℕ) (es : List Entry) → tree bytes ≡ Ok es → Rooted es
unfolding tree
rooted_of bytes es e =
    let layout =
    bind_ok (header bytes)
    (λ layout. nodes_of
    (tokens (structure_block bytes layout) (strings_block bytes layout) layout.structure)) es e in
    rooted_ok (tokens (structure_block bytes layout.0) (strings_block bytes layout.0)
    layout.0.structure) es layout.2

pub reads-again : (es : List Entry) → IsAllowed es → length (written es) ≤ 1048576
    → tree (written es) ≡ Ok es
reads-again es allowed small =
    ap tree (written-file es)
    ∙ file-tree (structure_bytes 0 0 es) (strings_bytes es) es (aligned-structure 0 0 es)
    (subst (λ (file : List ℕ). length file ≤ 1048576) (written-file es) small) refl refl
    (rooted_of allowed.0 es allowed.1)
