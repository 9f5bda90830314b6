-- What each tree that the grammar allows looks like: the root, and then nodes each of which lies in
-- one before it.
use Rattle.std.specs.Prelude.{◌≡◌, ℕ, ◌+◌, ◌<◌, ◌≤◌, List, [], ◌∷◌, IsTrue}
use Rattle.xv_base.specs.Name.{is_dev_name}
use Rattle.xv_fdt.specs.Tree.{Entry}

-- a node other than the root, with its number
pub record IsInner (number : ℕ) (e : Entry) : Type 0 where
  pub named : IsTrue (is_dev_name e.name)
  pub in_earlier : e.parent < number
  pub least_depth : 2 ≤ e.depth
  pub greatest_depth : e.depth ≤ 16

-- nodes other than the root, the first of which has this number
abbrev pub AreInner : ℕ → List Entry → Type 0
AreInner number [] = Unit {0}
AreInner number (e ∷ es) = IsInner number e × AreInner (number + 1) es

pub record IsRoot (e : Entry) : Type 0 where
  pub nameless : e.name ≡ []
  pub own_parent : e.parent ≡ 0
  pub outermost : e.depth ≡ 1

-- the root is node 0
abbrev pub IsShaped : List Entry → Type 0
IsShaped [] = ⊥
IsShaped (root ∷ others) = IsRoot root × AreInner 1 others
