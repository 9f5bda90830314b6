-- The shape of a tree that was read.
use Rattle.std.proofs.Common.{◌≡◌, ℕ, zero, suc, ◌+◌, ◌<◌, ◌≤◌, true, leb, List, [], ◌∷◌, ◌++◌}
use Rattle.std.proofs.Common.{length, Result, Ok, refl, sym, subst, arith}
use Rattle.std.proofs.lemmas.Bool.Decides.{nat_tests}
use Rattle.xv_base.specs.Name.{is_dev_name}
use Rattle.xv_fdt.specs.Fault.{Fault}
use Rattle.xv_fdt.specs.Token.{Token, Begin, EndNode, Prop, Nop, End, Broken}
use Rattle.xv_fdt.specs.Tree.{Entry}
use Rattle.xv_fdt.specs.Grammar.{Names, nobody, with_name, node_name, nodes, children, IsAllowed}
use Rattle.xv_fdt.specs.Shape.{IsInner, AreInner, IsShaped}
use Rattle.xv_fdt.proofs.NodeLemmas.{child_ok}
use Rattle.xv_fdt.proofs.NodesAgain.{new-dev_name, node_of-node, node_name-new}
use Rattle.xv_fdt.proofs.TreeAgain.{Rooted, rooted_of}

abbrev ok : {A : Type 0} → A → Result A Fault
ok x = Ok x

ok_is : {A : Type 0} (x y : A) → ok x ≡ ok y → x ≡ y
ok_is x y e = cc

inner-append : (number last : ℕ) (xs ys : List Entry) → last ≡ number + length xs
    → AreInner number xs → AreInner last ys → AreInner number (xs ++ ys)
inner-append number last [] ys is p q = subst (λ n. AreInner n ys) (omega (arith, is)) q
inner-append number last (x ∷ xs) ys is p q =
    (p.0, inner-append (number + 1) last xs ys (omega (arith, is)) p.1 q)

abbrev InnerFrom : ℕ → List Entry × List Token → Type 0
InnerFrom number x = AreInner number x.0

inner_nodes : (n next parent depth : ℕ) (taken : Names) (ts : List Token)
    (x : List Entry × List Token) → nodes n next parent depth taken ts ≡ Ok x
    → parent < next → 2 ≤ depth → AreInner next x.0
unfolding nodes
inner_nodes zero next parent depth taken ts x e lt deep = absurd cc
inner_nodes (suc n) next parent depth taken [] x e lt deep = absurd cc
inner_nodes (suc n) next parent depth taken (EndNode at ∷ ts) x e lt deep =
    subst (InnerFrom next) (ok_is ([], ts) x e) tt
inner_nodes (suc n) next parent depth taken (Begin at read ∷ ts) x e lt deep =
    let c = child_ok (nodes n) next parent depth taken at read ts x e in
    let node = node_of-node (node_name taken at read) parent depth ts c.first c.first_is in
    let named : is_dev_name node.name ≡ true =
    new-dev_name taken node.name (node_name-new taken at read node.name node.named_is) in
    let first : IsInner next c.first.0 =
    subst (IsInner next) node.entry_is
    (record {
      named = named;
      in_earlier = lt;
      least_depth = deep;
      greatest_depth = shallow depth c.deep;
    }) in
    let below = inner_nodes n (next + 1) next (depth + 1) nobody c.first.1 c.below c.below_is
    (omega arith) (omega (arith, deep)) in
    let others =
    inner_nodes n (next + 1 + length c.below.0) parent depth (with_name taken c.first.0.name)
    c.below.1 c.others c.others_is (omega (arith, lt)) deep in
    subst (InnerFrom next) (ok_is (c.first.0 ∷ (c.below.0 ++ c.others.0), c.others.1) x c.all) (
      first,
      inner-append (next + 1) (next + 1 + length c.below.0) c.below.0 c.others.0
          refl below others,
    )
  where
    shallow : (depth : ℕ) → leb depth 16 ≡ true → depth ≤ 16
    shallow depth is = grind (arith, nat_tests)
inner_nodes (suc n) next parent depth taken (Prop at read ∷ ts) x e lt deep = absurd cc
inner_nodes (suc n) next parent depth taken (Nop at ∷ ts) x e lt deep = absurd cc
inner_nodes (suc n) next parent depth taken (End at ∷ ts) x e lt deep = absurd cc
inner_nodes (suc n) next parent depth taken (Broken at kind ∷ ts) x e lt deep = absurd cc

shaped : (es : List Entry) → Rooted es → IsShaped es
unfolding children
shaped es r =
    subst IsShaped (sym r.all) (
      record { nameless = r.nameless; own_parent = r.outside; outermost = r.first },
      inner_nodes (length r.inner) 1 0 2 nobody r.inner r.below r.below_is (omega arith)
          (omega arith),
    )

pub allowed-shaped : (es : List Entry) → IsAllowed es → IsShaped es
allowed-shaped es allowed = shaped es (rooted_of allowed.0 es allowed.1)
