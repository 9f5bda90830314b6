-- One node after the other: the count of tokens that `nodes` takes doesn't matter, and each child
-- leads from what was read so far to what was read then.
use Rattle.std.proofs.Common.{◌≡◌, ◌≢◌, ℕ, zero, suc, ◌+◌, ◌≤◌, Bool, true, false, leb, List, []}
use Rattle.std.proofs.Common.{◌∷◌, ◌++◌, length, Result, Ok, Err, refl, sym, ap, ◌∙◌, append_assoc}
use Rattle.std.proofs.Common.{length-append, arith}
use Rattle.std.proofs.lemmas.List.{append-nil}
use Rattle.xv_fdt.specs.declared.fault.FdtKind.{FdtKind}
use Rattle.xv_fdt.specs.declared.fault.FdtKind.TheVariants.{TooDeep}
use Rattle.xv_fdt.specs.declared.fault.FdtFault.{FdtFault}
use Rattle.xv_fdt.specs.declared.fault.FdtFault.TheVariants as faults
use Rattle.xv_fdt.specs.declared.token.Mark.{Mark}
use Rattle.xv_fdt.specs.declared.token.Mark.TheVariants as marks
use Rattle.xv_fdt.specs.Fault.{Fault, ◌>>=◌, given, Fails}
use Rattle.xv_fdt.specs.Token.{Token, Begin, EndNode, Prop, Nop, End, Broken, mark_at, tokens}
use Rattle.xv_fdt.specs.Tree.{Property, Entry}
use Rattle.xv_fdt.specs.Grammar.{Names, nobody, with_name, property, properties, node_name, node_of}
use Rattle.xv_fdt.specs.Grammar.{nodes, children}
use Rattle.xv_fdt.specs.Progress.{with_front, stray_child_kind}
use Rattle.xv_fdt.proofs.TokenLemmas.{tokens-at}

-- ---- steps that may fail

pub bind_ok : {A B E : Type 0} (r : Result A E) (f : A → Result B E) (y : B) → (r >>= f) ≡ Ok y
    → (x : A) × (r ≡ Ok x) × (f x ≡ Ok y)
bind_ok (Ok x) f y e = (x, refl, e)
bind_ok (Err d) f y e = absurd cc

pub given_ok : {A : Type 0} (b : Bool) (kind : FdtKind) (at : ℕ) (r : Result A Fault) (y : A)
    → given b kind at r ≡ Ok y → (b ≡ true) × (r ≡ Ok y)
given_ok true kind at r y e = (refl, e)
given_ok false kind at r y e = absurd cc

bind_same : {A B E : Type 0} (r s : Result A E) (f g : A → Result B E) → r ≡ s
    → ((x : A) → r ≡ Ok x → f x ≡ g x) → (r >>= f) ≡ (s >>= g)
bind_same {A} {B} {E} (Ok x) s f g e h = h x refl ∙ ap (λ (t : Result A E). t >>= g) e
bind_same {A} {B} {E} (Err d) s f g e h = ap (λ (t : Result A E). t >>= g) e

-- ---- what is read leaves fewer tokens

abbrev Found : Type 0 → Type 0
Found A = Result (List A × List Token) Fault

abbrev ok : {A : Type 0} → List A × List Token → Found A
ok x = Ok x

rest_is : {A : Type 0} (x y : List A × List Token) → ok x ≡ ok y → x.1 ≡ y.1
rest_is x y e = let same : x ≡ y = cc in ap (λ z. z.1) same

shorter_properties : (taken : Names) (ts : List Token) (x : List Property × List Token)
    → properties taken ts ≡ Ok x → length x.1 ≤ length ts
unfolding properties
shorter_properties taken [] x e = omega (arith, ap length (rest_is ([], []) x e))
shorter_properties taken (Begin at read ∷ ts) x e =
    omega (arith, ap length (rest_is ([], Begin at read ∷ ts) x e))
shorter_properties taken (EndNode at ∷ ts) x e =
    omega (arith, ap length (rest_is ([], EndNode at ∷ ts) x e))
shorter_properties taken (Nop at ∷ ts) x e =
    omega (arith, ap length (rest_is ([], Nop at ∷ ts) x e))
shorter_properties taken (End at ∷ ts) x e =
    omega (arith, ap length (rest_is ([], End at ∷ ts) x e))
shorter_properties taken (Broken at kind ∷ ts) x e =
    omega (arith, ap length (rest_is ([], Broken at kind ∷ ts) x e))
shorter_properties taken (Prop at read ∷ ts) x e =
    let first = bind_ok (property taken at read) (λ p. properties (with_name taken p.name) ts
    >>= λ others. Ok (p ∷ others.0, others.1)) x e in
    let others =
    bind_ok (properties (with_name taken first.0.name) ts)
    (λ o. Ok (first.0 ∷ o.0, o.1)) x first.2 in
    let less = shorter_properties (with_name taken first.0.name) ts others.0 others.1 in
    omega (arith, less, ap length (rest_is (first.0 ∷ others.0.0, others.0.1) x others.2))

abbrev begun_ok : Entry × List Token → Result (Entry × List Token) Fault
begun_ok x = Ok x

pair_is : (x y : Entry × List Token) → begun_ok x ≡ begun_ok y → x ≡ y
pair_is x y e = cc

pub shorter_begun : (named : Result (List ℕ) Fault) (parent depth : ℕ) (ts : List Token)
    (x : Entry × List Token) → node_of named parent depth ts ≡ Ok x → length x.1 ≤ length ts
shorter_begun named parent depth ts x e =
    let name = bind_ok named (λ n. properties nobody ts
    >>= λ found. Ok (
      record { name = n; parent = parent; depth = depth; props = found.0 },
      found.1,
    )) x e in
    let found = bind_ok (properties nobody ts)
    (λ found. Ok (
      record { name = name.0; parent = parent; depth = depth; props = found.0 },
      found.1,
    )) x name.2 in
    let y : Entry × List Token =
    (record { name = name.0; parent = parent; depth = depth; props = found.0.0 }, found.0.1) in
    let same : y ≡ x = pair_is y x found.2 in
    omega (
      arith,
      shorter_properties nobody ts found.0 found.1,
      ap (λ (z : Entry × List Token). length z.1) same,
    )

-- ---- one child, by any reader of what is below it and behind it

abbrev pub Reader : Type 0
Reader = ℕ → ℕ → ℕ → Names → List Token → Found Entry

abbrev pub child_step : Reader → ℕ → ℕ → ℕ → Names → ℕ → Result (List ℕ) FdtKind
    → List Token → Found Entry
child_step again next parent depth taken at read ts =
    given (leb depth 16) TooDeep at
    (node_of (node_name taken at read) parent depth ts >>= λ first.
    (again (next + 1) next (depth + 1) nobody first.1 >>= λ below.
    (again (next + 1 + length below.0) parent depth (with_name taken first.0.name) below.1
    >>= λ others.
    Ok (first.0 ∷ (below.0 ++ others.0), others.1))))

-- a child that was read: its parts
pub record Child (again : Reader) (next parent depth : ℕ) (taken : Names) (at : ℕ)
    (read : Result (List ℕ) FdtKind) (ts : List Token) (x : List Entry × List Token) : Type 0 where
  pub deep : leb depth 16 ≡ true
  pub first : Entry × List Token
  pub first_is : node_of (node_name taken at read) parent depth ts ≡ Ok first
  pub below : List Entry × List Token
  pub below_is : again (next + 1) next (depth + 1) nobody first.1 ≡ Ok below
  pub others : List Entry × List Token
  pub others_is : again (next + 1 + length below.0) parent depth (with_name taken first.0.name)
      below.1 ≡ Ok others
  pub all : ok (first.0 ∷ (below.0 ++ others.0), others.1) ≡ ok x

pub child_ok : (again : Reader) (next parent depth : ℕ) (taken : Names) (at : ℕ)
    (read : Result (List ℕ) FdtKind) (ts : List Token) (x : List Entry × List Token)
    → child_step again next parent depth taken at read ts ≡ Ok x
    → Child again next parent depth taken at read ts x
child_ok again next parent depth taken at read ts x e =
    let deep = given_ok (leb depth 16) TooDeep at
    (node_of (node_name taken at read) parent depth ts >>= λ first.
    (again (next + 1) next (depth + 1) nobody first.1 >>= λ below.
    (again (next + 1 + length below.0) parent depth (with_name taken first.0.name) below.1
    >>= λ others.
    Ok (first.0 ∷ (below.0 ++ others.0), others.1)))) x e in
    let first = bind_ok (node_of (node_name taken at read) parent depth ts)
    (λ first. again (next + 1) next (depth + 1) nobody first.1 >>= λ below.
    (again (next + 1 + length below.0) parent depth (with_name taken first.0.name) below.1
    >>= λ others.
    Ok (first.0 ∷ (below.0 ++ others.0), others.1))) x deep.1 in
    let below = bind_ok (again (next + 1) next (depth + 1) nobody first.0.1)
    (λ below. again (next + 1 + length below.0) parent depth (with_name taken first.0.0.name)
    below.1 >>= λ others.
    Ok (first.0.0 ∷ (below.0 ++ others.0), others.1)) x first.2 in
    let others =
    bind_ok (again (next + 1 + length below.0.0) parent depth
    (with_name taken first.0.0.name) below.0.1)
    (λ others. Ok (first.0.0 ∷ (below.0.0 ++ others.0), others.1)) x below.2 in
    record {
      deep = deep.0;
      first = first.0;
      first_is = first.1;
      below = below.0;
      below_is = below.1;
      others = others.0;
      others_is = others.1;
      all = others.2;
    }

-- readers that agree on so many tokens, and leave fewer
abbrev Agree : Reader → Reader → ℕ → Type 0
Agree f g most = (next parent depth : ℕ) (taken : Names) (ts : List Token) → length ts ≤ most
    → f next parent depth taken ts ≡ g next parent depth taken ts

abbrev Shortens : Reader → Type 0
Shortens f = (next parent depth : ℕ) (taken : Names) (ts : List Token) (x : List Entry × List Token)
    → f next parent depth taken ts ≡ Ok x → length x.1 ≤ length ts

child_same : (f g : Reader) (next parent depth : ℕ) (taken : Names) (at : ℕ)
    (read : Result (List ℕ) FdtKind) (ts : List Token) → Agree f g (length ts) → Shortens f
    → child_step f next parent depth taken at read ts
    ≡ child_step g next parent depth taken at read ts
child_same f g next parent depth taken at read ts agree shortens =
    ap (given (leb depth 16) TooDeep at)
    (bind_same (node_of (node_name taken at read) parent depth ts)
    (node_of (node_name taken at read) parent depth ts) _ _ refl (λ first is.
    let small = shorter_begun (node_name taken at read) parent depth ts first is in
    bind_same (f (next + 1) next (depth + 1) nobody first.1)
    (g (next + 1) next (depth + 1) nobody first.1) _ _
    (agree (next + 1) next (depth + 1) nobody first.1 small) (λ below is'.
    let smaller = shortens (next + 1) next (depth + 1) nobody first.1 below is' in
    bind_same (f (next + 1 + length below.0) parent depth (with_name taken first.0.name) below.1)
    (g (next + 1 + length below.0) parent depth (with_name taken first.0.name) below.1) _ _
    (agree (next + 1 + length below.0) parent depth (with_name taken first.0.name) below.1
    (omega (arith, small, smaller))) (λ others is''. refl))))

-- ---- enough

pub shorter_nodes : (n : ℕ) → Shortens (nodes n)
unfolding nodes
shorter_nodes zero next parent depth taken ts x e = absurd cc
shorter_nodes (suc n) next parent depth taken [] x e = absurd cc
shorter_nodes (suc n) next parent depth taken (EndNode at ∷ ts) x e =
    omega (arith, ap length (rest_is ([], ts) x e))
shorter_nodes (suc n) next parent depth taken (Begin at read ∷ ts) x e =
    let c = child_ok (nodes n) next parent depth taken at read ts x e in
    omega (
      arith,
      shorter_begun (node_name taken at read) parent depth ts c.first c.first_is,
      shorter_nodes n (next + 1) next (depth + 1) nobody c.first.1 c.below c.below_is,
      shorter_nodes n (next + 1 + length c.below.0) parent depth (with_name taken c.first.0.name)
          c.below.1 c.others c.others_is,
      ap length (rest_is (c.first.0 ∷ (c.below.0 ++ c.others.0), c.others.1) x c.all),
    )
shorter_nodes (suc n) next parent depth taken (Prop at read ∷ ts) x e = absurd cc
shorter_nodes (suc n) next parent depth taken (Nop at ∷ ts) x e = absurd cc
shorter_nodes (suc n) next parent depth taken (End at ∷ ts) x e = absurd cc
shorter_nodes (suc n) next parent depth taken (Broken at kind ∷ ts) x e = absurd cc

pub enough : (n m next parent depth : ℕ) (taken : Names) (ts : List Token) → length ts ≤ n
    → length ts ≤ m → nodes n next parent depth taken ts ≡ nodes m next parent depth taken ts
unfolding nodes
enough zero zero next parent depth taken ts p q = refl
enough zero (suc m) next parent depth taken [] p q = refl
enough zero (suc m) next parent depth taken (t ∷ ts) p q = absurd (omega arith)
enough (suc n) zero next parent depth taken [] p q = refl
enough (suc n) zero next parent depth taken (t ∷ ts) p q = absurd (omega arith)
enough (suc n) (suc m) next parent depth taken [] p q = refl
enough (suc n) (suc m) next parent depth taken (EndNode at ∷ ts) p q = refl
enough (suc n) (suc m) next parent depth taken (Begin at read ∷ ts) p q =
    child_same (nodes n) (nodes m) next parent depth taken at read ts
    (λ next' parent' depth' taken' ts' small. enough n m next' parent' depth' taken' ts'
    (omega (arith, p, small)) (omega (arith, q, small)))
    (shorter_nodes n)
enough (suc n) (suc m) next parent depth taken (Prop at read ∷ ts) p q = refl
enough (suc n) (suc m) next parent depth taken (Nop at ∷ ts) p q = refl
enough (suc n) (suc m) next parent depth taken (End at ∷ ts) p q = refl
enough (suc n) (suc m) next parent depth taken (Broken at kind ∷ ts) p q = refl

-- ---- children, without the count

pub children-begin : (next parent depth : ℕ) (taken : Names) (at : ℕ)
    (read : Result (List ℕ) FdtKind) (ts : List Token)
    → children next parent depth taken (Begin at read ∷ ts)
    ≡ child_step children next parent depth taken at read ts
unfolding children nodes
children-begin next parent depth taken at read ts =
    child_same (nodes (length ts)) children next parent depth taken at read ts
    (λ next' parent' depth' taken' ts' small. enough (length ts) (length ts') next' parent' depth'
    taken' ts' small (omega arith))
    (shorter_nodes (length ts))

pub children-end : (next parent depth : ℕ) (taken : Names) (at : ℕ) (ts : List Token)
    → children next parent depth taken (EndNode at ∷ ts) ≡ Ok ([], ts)
unfolding children nodes
children-end next parent depth taken at ts = refl

children-stray : (next parent depth : ℕ) (taken : Names) (block strings : List ℕ) (at : ℕ)
    (mark : Mark) → mark_at block at ≡ mark
    → mark ≢ marks.Begin → mark ≢ marks.EndNode → mark ≢ marks.Nop
    → children next parent depth taken (tokens block strings at) ≡ Err (stray_child_kind mark, at)
unfolding children nodes
children-stray next parent depth taken block strings at marks.Begin is p q r = absurd (p refl)
children-stray next parent depth taken block strings at marks.EndNode is p q r = absurd (q refl)
children-stray next parent depth taken block strings at marks.Nop is p q r = absurd (r refl)
children-stray next parent depth taken block strings at marks.Prop is p q r =
    rw (tokens-at block strings at marks.Prop is) refl
children-stray next parent depth taken block strings at marks.End is p q r =
    rw (tokens-at block strings at marks.End is) refl
children-stray next parent depth taken block strings at marks.Strange is p q r =
    rw (tokens-at block strings at marks.Strange is) refl
children-stray next parent depth taken block strings at marks.Cut is p q r =
    rw (tokens-at block strings at marks.Cut is) refl

-- ---- the loop over children

-- what was read so far, and then what reading gives, is the whole
abbrev pub Leads : List Entry → Found Entry → Found Entry → Type 0
Leads front reading total = with_front front reading ≡ total

-- below the child was read what stands behind it
read_below : (front now : List Entry) (r : Found Entry) (next : List Token)
    → with_front front r ≡ Ok (now, next)
    → (below : List Entry) × (r ≡ Ok (below, next)) × (front ++ below ≡ now)
read_below front now (Ok x) next e =
    let same : (front ++ x.0, x.1) ≡ (now, next) = whole_is (front ++ x.0, x.1) (now, next) e in
    (x.0, ap (λ ts. ok (x.0, ts)) (ap (λ z. z.1) same), ap (λ z. z.0) same)
  where
    whole_is : (x y : List Entry × List Token) → ok x ≡ ok y → x ≡ y
    whole_is x y e = cc
read_below front now (Err e') next e = absurd cc

regrouped : (front below : List Entry) (first : Entry) (others : Found Entry)
    → with_front front (others >>= λ o. Ok (first ∷ (below ++ o.0), o.1))
    ≡ with_front ((front ++ first ∷ []) ++ below) others
regrouped front below first (Ok o) =
    ap (λ es. ok (es, o.1))
    (sym (append_assoc front (first ∷ below) o.0)
    ∙ ap (λ es. es ++ o.0) (sym (append_assoc front (first ∷ []) below)))
regrouped front below first (Err e) = refl

-- a child was read, and all that is below it
pub children-more : (front now : List Entry) (parent depth : ℕ) (taken taken' : Names) (at : ℕ)
    (read : Result (List ℕ) FdtKind) (first : Entry) (here there behind inside next : List Token)
    (total : Found Entry)
    → there ≡ here → there ≡ Begin at read ∷ behind
    → given (leb depth 16) TooDeep at (node_of (node_name taken at read) parent depth behind)
    ≡ Ok (first, inside)
    → taken' ≡ with_name taken first.name
    → with_front (front ++ first ∷ [])
    (children (length (front ++ first ∷ [])) (length front) (depth + 1) nobody inside)
    ≡ Ok (now, next)
    → with_front front (children (length front) parent depth taken here) ≡ total
    → with_front now (children (length now) parent depth taken' next) ≡ total
children-more front now parent depth taken taken' at read first here there behind inside next total
    same begins found added went so_far =
    let named = given_ok (leb depth 16) TooDeep at
    (node_of (node_name taken at read) parent depth behind) (first, inside) found in
    let one : length (front ++ first ∷ []) ≡ length front + 1 =
    omega (arith, length-append front (first ∷ [])) in
    let below = read_below (front ++ first ∷ []) now
    (children (length (front ++ first ∷ [])) (length front) (depth + 1) nobody inside) next
    went in
    let below_is : children (length front + 1) (length front) (depth + 1) nobody inside
    ≡ Ok (below.0, next) =
    ap (λ n. children n (length front) (depth + 1) nobody inside) (sym one) ∙ below.1 in
    let count : length front + 1 + length below.0 ≡ length now =
    sym (omega (
      arith,
      ap length (sym below.2),
      length-append (front ++ first ∷ []) below.0,
      one,
    )) in
    let others =
    children (length front + 1 + length below.0) parent depth (with_name taken first.name) next in
    let step : children (length front) parent depth taken here
    ≡ (others >>= λ o. Ok (first ∷ (below.0 ++ o.0), o.1)) =
    ap (children (length front) parent depth taken) (sym same ∙ begins)
    ∙ children-begin (length front) parent depth taken at read behind
    ∙ rw (named.0, named.1, below_is) refl in
    ap (λ names. with_front now (children (length now) parent depth names next)) added
    ∙ ap (λ n. with_front now (children n parent depth (with_name taken first.name) next))
    (sym count)
    ∙ ap (λ es. with_front es others) (sym below.2)
    ∙ sym (regrouped front below.0 first others)
    ∙ ap (with_front front) (sym step) ∙ so_far

abbrev fails_with : {A : Type 0} → Fault → Result A Fault
fails_with x = Err x

fault_is : {A : Type 0} (x y : Fault) → fails_with {A = A} x ≡ fails_with y → x ≡ y
fault_is x y e = cc

-- the child is broken
pub children-child_end : (e : FdtFault) (front : List Entry) (parent depth : ℕ) (taken : Names)
    (at : ℕ) (read : Result (List ℕ) FdtKind) (here there behind : List Token) (total : Found Entry)
    → there ≡ here → there ≡ Begin at read ∷ behind
    → Fails e (given (leb depth 16) TooDeep at
    (node_of (node_name taken at read) parent depth behind))
    → with_front front (children (length front) parent depth taken here) ≡ total → Fails e total
children-child_end (faults.At kind offset) front parent depth taken at read here there behind total
    same begins fails so_far =
    sym so_far ∙ ap (λ ts. with_front front (children (length front) parent depth taken ts))
    (sym same ∙ begins)
    ∙ ap (with_front front) (children-begin (length front) parent depth taken at read behind)
    ∙ ap (with_front front)
    (fails_given (leb depth 16) (node_of (node_name taken at read) parent depth behind) _ fails)
  where
    fails_given : {A B : Type 0} (b : Bool) (r : Result A Fault) (f : A → Result B Fault)
        → given b TooDeep at r ≡ Err (kind, offset)
        → given b TooDeep at (r >>= f) ≡ Err (kind, offset)
    fails_given true r f e = rw e refl
    fails_given false r f e = ap (λ x. Err x) (fault_is (TooDeep, at) (kind, offset) e)
children-child_end faults.NoMemory front parent depth taken at read here there behind total same
    begins fails so_far = tt

-- what is below the child is broken
pub children-below_end : (e : FdtFault) (front : List Entry) (parent depth : ℕ) (taken : Names)
    (at : ℕ) (read : Result (List ℕ) FdtKind) (first : Entry)
    (here there behind inside : List Token) (total : Found Entry)
    → there ≡ here → there ≡ Begin at read ∷ behind
    → given (leb depth 16) TooDeep at (node_of (node_name taken at read) parent depth behind)
    ≡ Ok (first, inside)
    → Fails e (with_front (front ++ first ∷ [])
    (children (length (front ++ first ∷ [])) (length front) (depth + 1) nobody inside))
    → with_front front (children (length front) parent depth taken here) ≡ total → Fails e total
children-below_end faults.NoMemory front parent depth taken at read first here there behind inside
    total same begins found fails so_far = tt
children-below_end (faults.At kind offset) front parent depth taken at read first here there behind
    inside total same begins found fails so_far =
    let named = given_ok (leb depth 16) TooDeep at
    (node_of (node_name taken at read) parent depth behind) (first, inside) found in
    let one : length (front ++ first ∷ []) ≡ length front + 1 =
    omega (arith, length-append front (first ∷ [])) in
    let below_is : children (length front + 1) (length front) (depth + 1) nobody inside
    ≡ Err (kind, offset) =
    ap (λ n. children n (length front) (depth + 1) nobody inside) (sym one)
    ∙ front_fails (front ++ first ∷ [])
    (children (length (front ++ first ∷ [])) (length front) (depth + 1) nobody inside) fails in
    let step : children (length front) parent depth taken here ≡ Err (kind, offset) =
    ap (children (length front) parent depth taken) (sym same ∙ begins)
    ∙ children-begin (length front) parent depth taken at read behind
    ∙ rw (named.0, named.1, below_is) refl in
    sym so_far ∙ ap (with_front front) step
  where
    front_fails : (front : List Entry) (r : Found Entry) → with_front front r ≡ Err (kind, offset)
        → r ≡ Err (kind, offset)
    front_fails front (Ok x) e = absurd cc
    front_fails front (Err d) e = e

-- the node ends
pub children-done : (front : List Entry) (next parent depth : ℕ) (taken : Names) (at : ℕ)
    (here there behind : List Token) (total : Found Entry)
    → there ≡ here → there ≡ EndNode at ∷ behind
    → with_front front (children next parent depth taken here) ≡ total → total ≡ Ok (front, behind)
children-done front next parent depth taken at here there behind total same ends so_far =
    sym so_far ∙ ap (λ ts. with_front front (children next parent depth taken ts)) (sym same ∙ ends)
    ∙ ap (with_front front) (children-end next parent depth taken at behind)
    ∙ ap (λ es. ok (es, behind)) (append-nil front)

-- something stands there that may not
pub children-stray_end : (front : List Entry) (next parent depth : ℕ) (taken : Names)
    (block strings : List ℕ) (at : ℕ) (mark : Mark) (here : List Token) (total : Found Entry)
    → mark_at block at ≡ mark → mark ≢ marks.Begin → mark ≢ marks.EndNode → mark ≢ marks.Nop
    → tokens block strings at ≡ here → with_front front (children next parent depth taken here)
    ≡ total → total ≡ Err (stray_child_kind mark, at)
children-stray_end front next parent depth taken block strings at mark here total is p q
    r same so_far =
    sym so_far ∙ ap (λ ts. with_front front (children next parent depth taken ts)) (sym same)
    ∙ ap (with_front front) (children-stray next parent depth taken block strings at mark is p q r)
