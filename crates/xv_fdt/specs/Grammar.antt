-- The tree that a list of tokens writes (Devicetree Specification v0.4, section 5.4.2): a node is
-- its begin token, its properties, its children and its end token. Each fault stands with the case
-- that it belongs to.
use Rattle.std.specs.Prelude.{◌≡◌, ℕ, zero, suc, ◌+◌, ◌==◌, nat_eq, nat_le, Bool, false, not, ◌&&◌}
use Rattle.std.specs.Prelude.{◌||◌, List, [], ◌∷◌, ◌++◌, length, Result, Ok, Err}
use Rattle.std.specs.Cmp.Lexicographic.{pointwise}
use Rattle.xv_base.specs.Name.{is_dev_name}
use Rattle.xv_fdt.specs.declared.fault.FdtKind.{FdtKind}
use Rattle.xv_fdt.specs.declared.fault.FdtKind.TheVariants.{Short, BadToken, BadName, Unbalanced}
use Rattle.xv_fdt.specs.declared.fault.FdtKind.TheVariants.{TooDeep}
use Rattle.xv_fdt.specs.Fault.{Fault, ◌>>=◌, given, fault_at}
use Rattle.xv_fdt.specs.Header.{header, structure_block, strings_block}
use Rattle.xv_fdt.specs.Token.{Token, Begin, EndNode, Prop, Nop, End, Broken, tokens}
use Rattle.xv_fdt.specs.Tree.{Property, Entry}

-- ---- names (2.2.1, 2.2.4.1): the names that are taken already are a test

abbrev pub Names : Type 0
Names = List ℕ → Bool

abbrev pub nobody : Names
nobody name = false

abbrev pub with_name : Names → List ℕ → Names
with_name taken name other = pointwise nat_eq name other || taken other

-- a name that a node or a property may have
abbrev pub is_new : Names → List ℕ → Bool
is_new taken name = is_dev_name name && not (taken name)

-- ---- the fault at a token that may not stand where it stands

-- at a begin, end-node, end or property that nothing allows
abbrev pub stray_fault : Token → Fault
stray_fault (Begin at name) = (Unbalanced, at)
stray_fault (EndNode at) = (Unbalanced, at)
stray_fault (Prop at property) = (Unbalanced, at)
stray_fault (Nop at) = (Unbalanced, at)
stray_fault (End at) = (Unbalanced, at)
stray_fault (Broken at kind) = (kind, at)

-- among the children of a node: a property that follows a child
abbrev pub stray_child_fault : Token → Fault
stray_child_fault (Prop at property) = (BadToken, at)
stray_child_fault (Begin at name) = (Unbalanced, at)
stray_child_fault (EndNode at) = (Unbalanced, at)
stray_child_fault (Nop at) = (Unbalanced, at)
stray_child_fault (End at) = (Unbalanced, at)
stray_child_fault (Broken at kind) = (kind, at)

-- where no token is left; tokens never end so
abbrev pub no_token : Fault
no_token = (Short, 0)

-- ---- properties, from a begin token on

abbrev pub property : Names → ℕ → Result Property FdtKind → Result Property Fault
property taken at read = do
  found ← fault_at at read
  given (is_new taken found.name) BadName at (Ok found)

-- the properties that stand in front, and the tokens behind them
unfoldable pub properties : Names → List Token → Result (List Property × List Token) Fault
properties taken (Prop at read ∷ ts) = do
  first ← property taken at read
  others ← properties (with_name taken first.name) ts
  Ok (first ∷ others.0, others.1)
properties taken ts = Ok ([], ts)

-- ---- nodes

-- the name of a node other than the root
abbrev pub node_name : Names → ℕ → Result (List ℕ) FdtKind → Result (List ℕ) Fault
node_name taken at read = do
  name ← fault_at at read
  given (is_new taken name) BadName at (Ok name)

-- the root has no name
abbrev pub root_name : ℕ → Result (List ℕ) FdtKind → Result (List ℕ) Fault
root_name at read = do
  name ← fault_at at read
  given (length name == 0) BadName at (Ok name)

-- a node with its properties, and the tokens of its children and its end
abbrev pub node_of : Result (List ℕ) Fault → ℕ → ℕ → List Token → Result (Entry × List Token) Fault
node_of named parent depth ts = do
  name ← named
  found ← properties nobody ts
  Ok (record { name = name; parent = parent; depth = depth; props = found.0 }, found.1)

-- the children of node `parent` and all that is below them, up to the node's end-node token, and
-- the tokens behind that: `next` is the number of the next node, and `taken` are the names of
-- earlier children. Each node is among the first `count` tokens
unfoldable pub nodes : ℕ → ℕ → ℕ → ℕ → Names → List Token → Result (List Entry × List Token) Fault
nodes zero next parent depth taken ts = Err no_token
nodes (suc count) next parent depth taken [] = Err no_token
nodes (suc count) next parent depth taken (EndNode at ∷ ts) = Ok ([], ts)
nodes (suc count) next parent depth taken (Begin at read ∷ ts) =
    given (nat_le depth 16) TooDeep at (do
      first ← node_of (node_name taken at read) parent depth ts
      below ← nodes count (next + 1) next (depth + 1) nobody first.1
      others ← nodes count (next + 1 + length below.0) parent depth
          (with_name taken first.0.name) below.1
      Ok (first.0 ∷ (below.0 ++ others.0), others.1))
nodes (suc count) next parent depth taken (t ∷ ts) = Err (stray_child_fault t)

unfoldable pub children : ℕ → ℕ → ℕ → Names → List Token → Result (List Entry × List Token) Fault
children next parent depth taken ts = nodes (length ts) next parent depth taken ts

-- ---- the whole

-- the end follows the root
abbrev pub before_end : List Entry → List Token → Result (List Entry) Fault
before_end entries [] = Err no_token
before_end entries (End at ∷ ts) = Ok entries
before_end entries (t ∷ ts) = Err (stray_fault t)

abbrev pub nodes_of : List Token → Result (List Entry) Fault
nodes_of [] = Err no_token
nodes_of (Begin at read ∷ ts) = do
  root ← node_of (root_name at read) 0 1 ts
  below ← children 1 0 2 nobody root.1
  before_end (root.0 ∷ below.0) below.1
nodes_of (t ∷ ts) = Err (stray_fault t)

-- the tree of the bytes of a file, or the first fault
unfoldable pub tree : List ℕ → Result (List Entry) Fault
tree bytes = do
  layout ← header bytes
  nodes_of (tokens (structure_block bytes layout) (strings_block bytes layout) layout.structure)

-- a tree that the grammar allows: some file has it
abbrev pub IsAllowed : List Entry → Type 0
IsAllowed entries = (bytes : List ℕ) × (tree bytes ≡ Ok entries)
