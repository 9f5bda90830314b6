-- The nodes in a node, with their numbers. Nodes are numbered from 0 in order of their begin
-- tokens.
use Rattle.std.specs.Prelude.{ℕ, ◌+◌, ◌==◌, Bool, if◌then◌else◌, List, [], ◌∷◌, drop, Option}
use Rattle.std.specs.Str.{bytes_eq}
use Rattle.std.specs.List.{find}
use Rattle.xv_fdt.specs.Tree.{Entry}

-- a node with its number
abbrev pub Numbered : Type 0
Numbered = ℕ × Entry

-- those of these nodes that lie in node `parent`; the first of them has number i
abbrev pub children_from : (parent i : ℕ) → List Entry → List Numbered
children_from parent i [] = []
children_from parent i (e ∷ es) =
    if e.parent == parent then (i, e) ∷ children_from parent (i + 1) es
    else children_from parent (i + 1) es

-- node 0 is the root, which lies in no node
abbrev pub children : (parent : ℕ) → List Entry → List Numbered
children parent entries = children_from parent 1 (drop 1 entries)

abbrev pub is_named : List ℕ → Numbered → Bool
is_named name n = bytes_eq n.1.name name

-- the root's child of that name
abbrev pub root_child : List ℕ → List Entry → Option Numbered
root_child name entries = find (is_named name) (children 0 entries)
