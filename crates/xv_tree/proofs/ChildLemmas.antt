-- A loop over all nodes that passes over those that lie elsewhere goes over the children of one
-- node.
use Rattle.std.proofs.Common.{◌≡◌, ◌≢◌, ℕ, ◌+◌, ◌<◌, ◌≤◌, ◌==◌, true, false}
use Rattle.std.proofs.Common.{List, [], ◌∷◌, length, get_or, drop, refl, sym, ap, ◌∙◌, arith}
use Rattle.std.proofs.lemmas.Bool.Decides.{nat_tests}
use Rattle.std.proofs.lemmas.List.{drop_more, drop_all}
use Rattle.xv_fdt.specs.Tree.{Entry}
use Rattle.xv_tree.specs.Children.{children_from}

same-parent : (a b : ℕ) → a ≡ b → (a == b) ≡ true
same-parent a b is = grind (arith, nat_tests)

other-parent : (a b : ℕ) → a ≢ b → (a == b) ≡ false
other-parent a b is = grind (arith, nat_tests)

module _ (parent : ℕ) (nodes : List Entry) (i : ℕ) where
  abbrev rest : List Entry
  rest = drop (i + 1) nodes

  -- the node, and those behind it
  from : (node : Entry) → i < length nodes → node ≡ get_or nodes i node → drop i nodes ≡ node ∷ rest
  from node within read =
      drop_more nodes i node within ∙ ap (λ (e : Entry). e ∷ rest) (sym read)

  pub child-here : (node : Entry) → i < length nodes → node ≡ get_or nodes i node
      → node.parent ≡ parent
      → children_from parent i (drop i nodes) ≡ (i, node) ∷ children_from parent (i + 1) rest
  child-here node within read is =
      ap (children_from parent i) (from node within read)
      ∙ rw (same-parent node.parent parent is) refl

  pub child-else : (node : Entry) → i < length nodes → node ≡ get_or nodes i node
      → node.parent ≢ parent
      → children_from parent i (drop i nodes) ≡ children_from parent (i + 1) rest
  child-else node within read is =
      ap (children_from parent i) (from node within read)
      ∙ rw (other-parent node.parent parent is) refl

  pub child-none : length nodes ≤ i → children_from parent i (drop i nodes) ≡ []
  child-none past = ap (children_from parent i) (drop_all i nodes past)
