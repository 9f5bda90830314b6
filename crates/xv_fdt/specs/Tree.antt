-- What a device tree says (Devicetree Specification v0.4, section 2.2), as contracts see it.
use Rattle.std.specs.Prelude.{ℕ, List}

-- a property: the bytes of its name, and its value
pub record Property : Type 0 where
  pub name : List ℕ
  pub value : List ℕ

-- a node: the bytes of its name, the number of its parent, its depth (the root has 1), and its
-- properties in order. A tree is the list of its nodes in order of their begin tokens, and a node's
-- number is its place in that list
pub record Entry : Type 0 where
  pub name : List ℕ
  pub parent : ℕ
  pub depth : ℕ
  pub props : List Property
