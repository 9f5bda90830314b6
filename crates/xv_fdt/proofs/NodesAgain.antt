-- The structure that is written of a tree is read again: by induction on the reading that gave the
-- tree.
use Rattle.std.proofs.Common.{◌≡◌, ◌≢◌, ℕ, zero, suc, ◌+◌, ◌-◌, ◌^◌, ◌<◌, ◌≤◌, Bool, true, false}
use Rattle.std.proofs.Common.{not, ◌&&◌, leb, List, [], ◌∷◌, ◌++◌, length, drop, Result, Ok, refl}
use Rattle.std.proofs.Common.{sym, ap, subst, ◌∙◌, append_assoc, length-append, arith}
use Rattle.std.proofs.lemmas.List.{append-nil}
use Rattle.xv_base.specs.Name.{is_dev_name}
use Rattle.xv_fdt.specs.declared.fault.FdtKind.{FdtKind}
use Rattle.xv_fdt.specs.declared.fault.FdtKind.TheVariants.{BadName}
use Rattle.xv_fdt.specs.declared.token.Mark.TheVariants as marks
use Rattle.xv_fdt.specs.Fault.{Fault, ◌>>=◌, given, fault_at}
use Rattle.xv_fdt.specs.Token.{Token, Begin, EndNode, Prop, Nop, End, Broken, mark_of, tokens}
use Rattle.xv_fdt.specs.Tree.{Property, Entry}
use Rattle.xv_fdt.specs.Grammar.{Names, nobody, with_name, is_new, property, properties, node_name}
use Rattle.xv_fdt.specs.Grammar.{node_of, nodes, children}
use Rattle.xv_fdt.specs.Written.{big_word, names_bytes, strings_bytes, begin_bytes, property_bytes}
use Rattle.xv_fdt.specs.Written.{properties_bytes, ends, structure_bytes}
use Rattle.xv_fdt.specs.Progress.{with_front}
use Rattle.xv_fdt.proofs.PropertyLemmas.{properties-first, properties-none_at}
use Rattle.xv_fdt.proofs.NodeLemmas.{bind_ok, given_ok, child_ok, children-begin, children-end}
use Rattle.xv_fdt.proofs.PieceLemmas.{behind, behind_word, mark_is, IsText, dev_name-text}
use Rattle.xv_fdt.proofs.PieceLemmas.{begin-again, property-again, end_node-again}

both : (a b : Bool) → (a && b) ≡ true → (a ≡ true) × (b ≡ true)
both true b h = (refl, h)
both false b h = absurd cc

pub new-dev_name : (taken : Names) (name : List ℕ) → is_new taken name ≡ true
    → is_dev_name name ≡ true
new-dev_name taken name new = (both (is_dev_name name) (not (taken name)) new).0

-- ---- what was read of properties

-- each name is one that the names before it allow
pub AllNew : Names → List Property → Type 0
AllNew taken [] = Unit {0}
AllNew taken (p ∷ ps) = (is_new taken p.name ≡ true) × AllNew (with_name taken p.name) ps

abbrev ok : {A : Type 0} → A → Result A Fault
ok x = Ok x

ok_is : {A : Type 0} (x y : A) → ok x ≡ ok y → x ≡ y
ok_is x y e = cc

property_new : (taken : Names) (at : ℕ) (read : Result Property FdtKind) (p : Property)
    → property taken at read ≡ Ok p → is_new taken p.name ≡ true
property_new taken at read p e =
    let found = bind_ok (fault_at at read)
    (λ found. given (is_new taken found.name) BadName at (Ok found)) p e in
    let new = given_ok (is_new taken found.0.name) BadName at (Ok found.0) p found.2 in
    ap (λ (q : Property). is_new taken q.name) (sym (ok_is found.0 p new.1)) ∙ new.0

abbrev NewAfter : Names → List Property × List Token → Type 0
NewAfter taken x = AllNew taken x.0

pub all_new : (taken : Names) (ts : List Token) (x : List Property × List Token)
    → properties taken ts ≡ Ok x → AllNew taken x.0
unfolding properties AllNew
all_new taken [] x e = subst (NewAfter taken) (ok_is ([], []) x e) tt
all_new taken (Begin at read ∷ ts) x e =
    subst (NewAfter taken) (ok_is ([], Begin at read ∷ ts) x e) tt
all_new taken (EndNode at ∷ ts) x e = subst (NewAfter taken) (ok_is ([], EndNode at ∷ ts) x e) tt
all_new taken (Nop at ∷ ts) x e = subst (NewAfter taken) (ok_is ([], Nop at ∷ ts) x e) tt
all_new taken (End at ∷ ts) x e = subst (NewAfter taken) (ok_is ([], End at ∷ ts) x e) tt
all_new taken (Broken at kind ∷ ts) x e =
    subst (NewAfter taken) (ok_is ([], Broken at kind ∷ ts) x e) tt
all_new taken (Prop at read ∷ ts) x e =
    let first = bind_ok (property taken at read) (λ p. properties (with_name taken p.name) ts
    >>= λ others. Ok (p ∷ others.0, others.1)) x e in
    let others =
    bind_ok (properties (with_name taken first.0.name) ts)
    (λ o. Ok (first.0 ∷ o.0, o.1)) x first.2 in
    subst (NewAfter taken) (ok_is (first.0 ∷ others.0.0, others.0.1) x others.2) (
      property_new taken at read first.0 first.1,
      all_new (with_name taken first.0.name) ts others.0 others.1,
    )

-- ---- what was read of a node

pub record Node (named : Result (List ℕ) Fault) (parent depth : ℕ)
    (x : Entry × List Token) : Type 0 where
  pub name : List ℕ
  pub named_is : named ≡ Ok name
  pub props : List Property
  pub props_new : AllNew nobody props
  pub entry_is : (record { name = name; parent = parent; depth = depth; props = props }) ≡ x.0

pub node_of-node : (named : Result (List ℕ) Fault) (parent depth : ℕ) (ts : List Token)
    (x : Entry × List Token) → node_of named parent depth ts ≡ Ok x → Node named parent depth x
node_of-node named parent depth ts x e =
    let name = bind_ok named (λ n. properties nobody ts
    >>= λ found. Ok (
      record { name = n; parent = parent; depth = depth; props = found.0 },
      found.1,
    )) x e in
    let found = bind_ok (properties nobody ts)
    (λ found. Ok (
      record { name = name.0; parent = parent; depth = depth; props = found.0 },
      found.1,
    )) x name.2 in
    let y : Entry × List Token =
    (record { name = name.0; parent = parent; depth = depth; props = found.0.0 }, found.0.1) in
    record {
      name = name.0;
      named_is = name.1;
      props = found.0.0;
      props_new = all_new nobody ts found.0 found.1;
      entry_is = ap (λ (z : Entry × List Token). z.0) (ok_is y x found.2);
    }

pub node_name-new : (taken : Names) (at : ℕ) (read : Result (List ℕ) FdtKind) (name : List ℕ)
    → node_name taken at read ≡ Ok name → is_new taken name ≡ true
node_name-new taken at read name e =
    let found = bind_ok (fault_at at read)
    (λ found. given (is_new taken found) BadName at (Ok found)) name e in
    let new = given_ok (is_new taken found.0) BadName at (Ok found.0) name found.2 in
    ap (is_new taken) (sym (ok_is found.0 name new.1)) ∙ new.0

-- ---- over a block and its strings

module _ (block strings : List ℕ) (small : length block ≤ 2 ^ 20)
    (few : length strings ≤ 2 ^ 20) where
  -- no property stands there
  abbrev Stops : ℕ → Type 0
  Stops at = (taken : Names)
      → properties taken (tokens block strings at) ≡ Ok ([], tokens block strings at)

  stops : (at n : ℕ) (rest : List ℕ) → drop at block ≡ big_word n ++ rest → n < 2 ^ 32
      → mark_of n ≢ marks.Prop → mark_of n ≢ marks.Nop → Stops at
  stops at n rest stands fits p q taken =
      properties-none_at taken block strings at (mark_of n)
      (mark_is block rest at n stands fits) p q

  stops_begin : (at open_nodes : ℕ) (name rest : List ℕ) → drop at block ≡ ends open_nodes
      ++ (begin_bytes name ++ rest) → Stops at
  unfolding ends begin_bytes
  stops_begin at zero name rest stands =
      stops at 1 _ (stands ∙ append_assoc (big_word 1) _ rest) (omega arith) (λ e. cc) (λ e. cc)
  stops_begin at (suc count) name rest stands =
      stops at 2 _ (stands ∙ append_assoc (big_word 2) (ends count) _) (omega arith)
      (λ e. cc) (λ e. cc)

  stops_end : (at open_nodes : ℕ) → drop at block ≡ ends open_nodes ++ big_word 9 → Stops at
  unfolding ends
  stops_end at zero stands =
      stops at 9 [] (stands ∙ sym (append-nil (big_word 9))) (omega arith) (λ e. cc) (λ e. cc)
  stops_end at (suc count) stands =
      stops at 2 _ (stands ∙ append_assoc (big_word 2) (ends count) (big_word 9)) (omega arith)
      (λ e. cc) (λ e. cc)

  pub stops_structure : (at open_nodes offset : ℕ) (es : List Entry)
      → drop at block ≡ structure_bytes open_nodes offset es → Stops at
  unfolding structure_bytes
  stops_structure at open_nodes offset [] stands = stops_end at open_nodes stands
  stops_structure at open_nodes offset (e ∷ es) stands =
      stops_begin at (suc open_nodes - e.depth) e.name _ stands

  -- properties are read again
  pub record Properties (taken : Names) (ps : List Property) (at : ℕ) (rest : List ℕ) : Type 0 where
    pub place : ℕ
    pub read : properties taken (tokens block strings at) ≡ Ok (ps, tokens block strings place)
    pub rest_is : drop place block ≡ rest

  properties-again : (ps : List Property) (taken : Names) (at offset : ℕ) (rest more : List ℕ)
      → AllNew taken ps
      → drop at block ≡ properties_bytes offset ps ++ rest
      → drop offset strings ≡ names_bytes ps ++ more
      → ((place : ℕ) → drop place block ≡ rest → Stops place) → Properties taken ps at rest
  unfolding AllNew properties_bytes names_bytes
  properties-again [] taken at offset rest more new stands named stop =
      record { place = at; read = stop at stands taken; rest_is = stands }
  properties-again (p ∷ ps) taken at offset rest more new stands named stop =
      let first : drop at block ≡ property_bytes offset p
      ++ (properties_bytes (offset + length p.name + 1) ps ++ rest) =
      stands ∙ append_assoc (property_bytes offset p)
      (properties_bytes (offset + length p.name + 1) ps) rest in
      let name_first : drop offset strings ≡ p.name ++ (0 ∷ (names_bytes ps ++ more)) =
      named ∙ append_assoc p.name (0 ∷ names_bytes ps) more in
      let name_piece : drop offset strings ≡ (p.name ++ (0 ∷ [])) ++ (names_bytes ps ++ more) =
      name_first ∙ sym (append_assoc p.name (0 ∷ []) (names_bytes ps ++ more)) in
      let len : offset + length (p.name ++ (0 ∷ [])) ≡ offset + length p.name + 1 =
      omega (arith, length-append p.name (0 ∷ [])) in
      let names_left : drop (offset + length p.name + 1) strings ≡ names_bytes ps ++ more =
      ap (λ n. drop n strings) (sym len)
      ∙ behind strings (p.name ++ (0 ∷ [])) (names_bytes ps ++ more) offset name_piece in
      let one = property-again block strings at offset p
      (properties_bytes (offset + length p.name + 1) ps ++ rest)
      (names_bytes ps ++ more) small few
      (dev_name-text p.name (new-dev_name taken p.name new.0)) first name_first in
      let others =
      properties-again ps (with_name taken p.name) one.next (offset + length p.name + 1) rest more
      new.1 one.rest_is names_left stop in
      let found : property taken at (Ok p) ≡ Ok p = ap (λ b. given b BadName at (ok p)) new.0 in
      record {
        place = others.place;
        read =
            ap (properties taken) one.tokens_are
            ∙ properties-first taken at (Ok p) p (tokens block strings one.next) found
            ∙ ap (with_front (p ∷ [])) others.read;
        rest_is = others.rest_is;
      }

  -- a node is read again, up to its properties
  pub record Entered (named : ℕ → Result (List ℕ) FdtKind → Result (List ℕ) Fault) (e : Entry)
      (at : ℕ) (rest : List ℕ) : Type 0 where
    pub behind : List Token
    pub tokens_are : tokens block strings at ≡ Begin at (Ok e.name) ∷ behind
    pub place : ℕ
    pub read : node_of (named at (Ok e.name)) e.parent e.depth behind
        ≡ Ok (e, tokens block strings place)
    pub rest_is : drop place block ≡ rest

  pub entered-again : (named : ℕ → Result (List ℕ) FdtKind → Result (List ℕ) Fault) (e : Entry)
      (at offset : ℕ) (rest more : List ℕ) → IsText e.name
      → named at (Ok e.name) ≡ Ok e.name → AllNew nobody e.props
      → drop at block ≡ begin_bytes e.name ++ (properties_bytes offset e.props ++ rest)
      → drop offset strings ≡ names_bytes e.props ++ more
      → ((place : ℕ) → drop place block ≡ rest → Stops place) → Entered named e at rest
  entered-again named e at offset rest more is_text allowed new stands names stop =
      let b = begin-again block strings at e.name (properties_bytes offset e.props ++ rest)
      is_text stands in
      let p = properties-again e.props nobody b.next offset rest more new b.rest_is names stop in
      record {
        behind = tokens block strings b.next;
        tokens_are = b.tokens_are;
        place = p.place;
        read = rw (allowed, p.read) refl;
        rest_is = p.rest_is;
      }

-- ---- children

-- the nodes that follow lie outside of children of this depth
abbrev pub Closes : ℕ → List Entry → Type 0
Closes depth [] = Unit {0}
Closes depth (f ∷ fs) = f.depth < depth

-- the first of these nodes has this depth
abbrev First : ℕ → List Entry → Type 0
First depth [] = Unit {0}
First depth (e ∷ es) = e.depth ≡ depth

closes-others : (depth : ℕ) (others fs : List Entry) → First depth others → Closes depth fs
    → Closes (depth + 1) (others ++ fs)
closes-others depth [] [] first closes = tt
closes-others depth [] (f ∷ fs) first closes = omega (arith, closes)
closes-others depth (e ∷ es) fs first closes = omega (arith, first)

abbrev FirstOf : ℕ → List Entry × List Token → Type 0
FirstOf depth x = First depth x.0

first_depth : (n next parent depth : ℕ) (taken : Names) (ts : List Token)
    (x : List Entry × List Token) → nodes n next parent depth taken ts ≡ Ok x → First depth x.0
unfolding nodes
first_depth zero next parent depth taken ts x e = absurd cc
first_depth (suc n) next parent depth taken [] x e = absurd cc
first_depth (suc n) next parent depth taken (EndNode at ∷ ts) x e =
    subst (FirstOf depth) (ok_is ([], ts) x e) tt
first_depth (suc n) next parent depth taken (Begin at read ∷ ts) x e =
    let c = child_ok (nodes n) next parent depth taken at read ts x e in
    let node = node_of-node (node_name taken at read) parent depth ts c.first c.first_is in
    subst (FirstOf depth) (ok_is (c.first.0 ∷ (c.below.0 ++ c.others.0), c.others.1) x c.all)
    (sym (ap (λ (v : Entry). v.depth) node.entry_is))
first_depth (suc n) next parent depth taken (Prop at read ∷ ts) x e = absurd cc
first_depth (suc n) next parent depth taken (Nop at ∷ ts) x e = absurd cc
first_depth (suc n) next parent depth taken (End at ∷ ts) x e = absurd cc
first_depth (suc n) next parent depth taken (Broken at kind ∷ ts) x e = absurd cc

-- where nodes follow that lie outside, the innermost open node ends first
ends-first : (open_nodes offset : ℕ) (fs : List Entry) → 0 < open_nodes → Closes (open_nodes + 1) fs
    → structure_bytes open_nodes offset fs ≡ big_word 2
    ++ structure_bytes (open_nodes - 1) offset fs
unfolding structure_bytes ends
ends-first open_nodes offset [] some closes =
    let k : open_nodes ≡ suc (open_nodes - 1) = omega arith in
    ap (λ n. ends n ++ big_word 9) k
    ∙ append_assoc (big_word 2) (ends (open_nodes - 1)) (big_word 9)
ends-first open_nodes offset (f ∷ fs) some closes =
    let k : suc open_nodes - f.depth ≡ suc (suc (open_nodes - 1) - f.depth) =
    omega (arith, closes, some) in
    ap (λ n. ends n
    ++ (begin_bytes f.name
    ++ (properties_bytes offset f.props
    ++ structure_bytes f.depth (offset + length (names_bytes f.props)) fs))) k
    ∙ append_assoc (big_word 2) (ends (suc (open_nodes - 1) - f.depth)) _

begins-first : (open_nodes offset : ℕ) (e : Entry) (es : List Entry) → e.depth ≡ open_nodes + 1
    → structure_bytes open_nodes offset (e ∷ es)
    ≡ begin_bytes e.name
    ++ (properties_bytes offset e.props
    ++ structure_bytes e.depth (offset + length (names_bytes e.props)) es)
unfolding structure_bytes ends
begins-first open_nodes offset e es deep =
    let none : suc open_nodes - e.depth ≡ 0 = omega (arith, deep) in
    ap (λ n. ends n
    ++ (begin_bytes e.name
    ++ (properties_bytes offset e.props
    ++ structure_bytes e.depth (offset + length (names_bytes e.props)) es))) none

strings-first : (e : Entry) (es : List Entry) → strings_bytes (e ∷ es) ≡ names_bytes e.props
    ++ strings_bytes es
unfolding strings_bytes
strings-first e es = refl

module _ (block strings : List ℕ) (small : length block ≤ 2 ^ 20)
    (few : length strings ≤ 2 ^ 20) where
  -- children were read again, and what follows stands behind them
  pub record Behind (next parent depth : ℕ) (taken : Names) (es : List Entry) (at open_nodes : ℕ)
      (fs : List Entry) : Type 0 where
    pub place : ℕ
    pub offset : ℕ
    pub read : children next parent depth taken (tokens block strings at)
        ≡ Ok (es, tokens block strings place)
    pub rest_is : drop place block ≡ structure_bytes open_nodes offset fs
    pub names_are : drop offset strings ≡ strings_bytes fs

  -- a reading of these nodes, wherever they stand
  abbrev Again : ℕ → ℕ → ℕ → Names → List Entry → ℕ → List Entry → Type 0
  Again next parent depth taken es open_nodes fs =
      (at offset : ℕ) → drop at block ≡ structure_bytes open_nodes offset (es ++ fs)
      → drop offset strings ≡ strings_bytes (es ++ fs)
      → Behind next parent depth taken es at (open_nodes - 1) fs

  begin_case : (next open_nodes : ℕ) (taken : Names) (e : Entry) (below others fs : List Entry)
      → e.depth ≡ open_nodes + 1 → leb e.depth 16 ≡ true → is_new taken e.name ≡ true
      → AllNew nobody e.props
      → Again (next + 1) next (e.depth + 1) nobody below e.depth (others ++ fs)
      → Again (next + 1 + length below) e.parent e.depth (with_name taken e.name)
      others open_nodes fs
      → Again next e.parent e.depth taken (e ∷ (below ++ others)) open_nodes fs
  begin_case next open_nodes taken e below others fs deep shallow new props_new again_below
      again_others at offset stands names =
      let regroup : (below ++ others) ++ fs ≡ below ++ (others ++ fs) =
      append_assoc below others fs in
      let here : drop at block ≡ begin_bytes e.name
      ++ (properties_bytes offset e.props
      ++ structure_bytes e.depth (offset + length (names_bytes e.props))
      (below ++ (others ++ fs))) =
      stands ∙ ap (λ es. structure_bytes open_nodes offset (e ∷ es)) regroup
      ∙ begins-first open_nodes offset e (below ++ (others ++ fs)) deep in
      let names_here : drop offset strings ≡ names_bytes e.props
      ++ strings_bytes (below ++ (others ++ fs)) =
      names ∙ ap (λ es. strings_bytes (e ∷ es)) regroup
      ∙ strings-first e (below ++ (others ++ fs)) in
      let allowed : node_name taken at (Ok e.name) ≡ Ok e.name =
      ap (λ b. given b BadName at (ok e.name)) new in
      let entered =
      entered-again block strings small few (λ _ read. node_name taken at read) e at offset _ _
      (dev_name-text e.name (new-dev_name taken e.name new)) allowed props_new here names_here
      (λ place is. stops_structure block strings small few place e.depth
      (offset + length (names_bytes e.props)) (below ++ (others ++ fs)) is) in
      let b = again_below entered.place (offset + length (names_bytes e.props)) entered.rest_is
      (behind strings (names_bytes e.props) _ offset names_here) in
      let one : e.depth - 1 ≡ open_nodes = omega (arith, deep) in
      let o = again_others b.place b.offset
      (b.rest_is ∙ ap (λ n. structure_bytes n b.offset (others ++ fs)) one) b.names_are in
      record {
        place = o.place;
        offset = o.offset;
        read =
            ap (children next e.parent e.depth taken) entered.tokens_are
            ∙ children-begin next e.parent e.depth taken at (Ok e.name) entered.behind
            ∙ rw (shallow, entered.read, b.read, o.read) refl;
        rest_is = o.rest_is;
        names_are = o.names_are;
      }

  end_case : (next parent depth open_nodes : ℕ) (taken : Names) (fs : List Entry)
      → depth ≡ open_nodes + 1 → 0 < open_nodes → Closes depth fs
      → Again next parent depth taken [] open_nodes fs
  end_case next parent depth open_nodes taken fs deep some closes at offset stands names =
      let closing : Closes (open_nodes + 1) fs = subst (λ n. Closes n fs) deep closes in
      let here : drop at block ≡ big_word 2 ++ structure_bytes (open_nodes - 1) offset fs =
      stands ∙ ends-first open_nodes offset fs some closing in
      record {
        place = at + 4;
        offset = offset;
        read = ap (children next parent depth taken) (end_node-again block strings _ at here)
            ∙ children-end next parent depth taken at (tokens block strings (at + 4));
        rest_is = behind_word block _ at 2 here;
        names_are = names;
      }

  pub nodes-again : (n next parent depth open_nodes : ℕ) (taken : Names) (ts : List Token)
      (x : List Entry × List Token) (fs : List Entry)
      → nodes n next parent depth taken ts ≡ Ok x → depth ≡ open_nodes + 1 → 0 < open_nodes
      → Closes depth fs
      → Again next parent depth taken x.0 open_nodes fs
  unfolding nodes
  nodes-again zero next parent depth open_nodes taken ts x fs e deep some closes = absurd cc
  nodes-again (suc n) next parent depth open_nodes taken [] x fs e deep some closes = absurd cc
  nodes-again (suc n) next parent depth open_nodes taken (EndNode at ∷ ts) x fs e deep some closes =
      subst (λ (y : List Entry × List Token). Again next parent depth taken y.0 open_nodes fs)
      (ok_is ([], ts) x e)
      (end_case next parent depth open_nodes taken fs deep some closes)
  nodes-again (suc n) next parent depth open_nodes taken (Begin at read ∷ ts) x fs e
      deep some closes =
      let c = child_ok (nodes n) next parent depth taken at read ts x e in
      let node = node_of-node (node_name taken at read) parent depth ts c.first c.first_is in
      let entry : Entry =
      record { name = node.name; parent = parent; depth = depth; props = node.props } in
      let named : c.first.0.name ≡ node.name = sym (ap (λ (v : Entry). v.name) node.entry_is) in
      let first = first_depth n (next + 1 + length c.below.0) parent depth
      (with_name taken c.first.0.name) c.below.1 c.others c.others_is in
      let below = nodes-again n (next + 1) next (depth + 1) depth nobody c.first.1 c.below
      (c.others.0 ++ fs) c.below_is refl (omega (arith, deep))
      (closes-others depth c.others.0 fs first closes) in
      let others =
      nodes-again n (next + 1 + length c.below.0) parent depth open_nodes
      (with_name taken c.first.0.name) c.below.1 c.others fs c.others_is deep some closes in
      let others' =
      subst (λ name. Again (next + 1 + length c.below.0) parent depth (with_name taken name)
      c.others.0 open_nodes fs) named others in
      let whole = begin_case next open_nodes taken entry c.below.0 c.others.0 fs deep c.deep
      (node_name-new taken at read node.name node.named_is) node.props_new below others' in
      subst (λ (y : List Entry × List Token). Again next parent depth taken y.0 open_nodes fs)
      (ok_is (c.first.0 ∷ (c.below.0 ++ c.others.0), c.others.1) x c.all)
      (subst (λ (v : Entry). Again next parent depth taken (v ∷ (c.below.0 ++ c.others.0))
      open_nodes fs) node.entry_is whole)
  nodes-again (suc n) next parent depth open_nodes taken (Prop at read ∷ ts) x fs e deep some
      closes = absurd cc
  nodes-again (suc n) next parent depth open_nodes taken (Nop at ∷ ts) x fs e deep some closes =
      absurd cc
  nodes-again (suc n) next parent depth open_nodes taken (End at ∷ ts) x fs e deep some closes =
      absurd cc
  nodes-again (suc n) next parent depth open_nodes taken (Broken at kind ∷ ts) x fs e deep some
      closes = absurd cc
