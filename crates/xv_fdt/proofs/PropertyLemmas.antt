-- One property after the other.
use Rattle.std.proofs.Common.{◌≡◌, ◌≢◌, ℕ, List, [], ◌∷◌, ◌++◌, Result, Ok, Err, refl, sym, ap, ◌∙◌}
use Rattle.std.proofs.Common.{append_assoc}
use Rattle.std.proofs.lemmas.List.{append-nil}
use Rattle.xv_fdt.specs.declared.fault.FdtKind.{FdtKind}
use Rattle.xv_fdt.specs.declared.fault.FdtFault.{FdtFault}
use Rattle.xv_fdt.specs.declared.fault.FdtFault.TheVariants as faults
use Rattle.xv_fdt.specs.declared.token.Mark.{Mark}
use Rattle.xv_fdt.specs.declared.token.Mark.TheVariants as marks
use Rattle.xv_fdt.specs.Fault.{Fault, Fails}
use Rattle.xv_fdt.specs.Token.{Token, Prop, mark_at, tokens}
use Rattle.xv_fdt.specs.Tree.{Property}
use Rattle.xv_fdt.specs.Grammar.{Names, with_name, property, properties}
use Rattle.xv_fdt.specs.Progress.{with_front}
use Rattle.xv_fdt.proofs.TokenLemmas.{tokens-at}

pub with_front-with_front : {A : Type 0} (front more : List A)
    (r : Result (List A × List Token) Fault)
    → with_front front (with_front more r) ≡ with_front (front ++ more) r
with_front-with_front front more (Ok read) =
    ap (λ all. Ok (all, read.1)) (sym (append_assoc front more read.0))
with_front-with_front front more (Err e) = refl

pub with_front-nil : {A : Type 0} (r : Result (List A × List Token) Fault) → with_front [] r ≡ r
with_front-nil (Ok read) = refl
with_front-nil (Err e) = refl

-- what fails behind what was read so far
pub Fails-with_front : {A : Type 0} (e : FdtFault) (front : List A)
    (r : Result (List A × List Token) Fault) → Fails e r → Fails e (with_front front r)
Fails-with_front (faults.At kind offset) front r fails = rw fails refl
Fails-with_front faults.NoMemory front r fails = tt

-- ---- the first property, and those behind it

pub properties-first : (taken : Names) (at : ℕ) (read : Result Property FdtKind) (p : Property)
    (ts : List Token) → property taken at read ≡ Ok p
    → properties taken (Prop at read ∷ ts)
    ≡ with_front (p ∷ []) (properties (with_name taken p.name) ts)
unfolding properties
properties-first taken at read p ts found = rw found refl

properties-fail : (e : FdtFault) (taken : Names) (at : ℕ) (read : Result Property FdtKind)
    (ts : List Token) → Fails e (property taken at read)
    → Fails e (properties taken (Prop at read ∷ ts))
unfolding properties
properties-fail (faults.At kind offset) taken at read ts fails = rw fails refl
properties-fail faults.NoMemory taken at read ts fails = tt

-- a property was read
pub properties-more : (front : List Property) (taken taken' : Names) (at : ℕ)
    (read : Result Property FdtKind) (p : Property) (here there next : List Token)
    (total : Result (List Property × List Token) Fault)
    → there ≡ here → there ≡ Prop at read ∷ next → property taken at read ≡ Ok p
    → taken' ≡ with_name taken p.name
    → with_front front (properties taken here) ≡ total
    → with_front (front ++ p ∷ []) (properties taken' next) ≡ total
properties-more front taken taken' at read p here there next total same first found added so_far =
    let step = ap (properties taken) (sym same ∙ first)
    ∙ properties-first taken at read p next found in
    ap (λ names. with_front (front ++ p ∷ []) (properties names next)) added
    ∙ sym (with_front-with_front front (p ∷ []) (properties (with_name taken p.name) next))
    ∙ ap (with_front front) (sym step) ∙ so_far

-- a property is broken
pub properties-end : (e : FdtFault) (front : List Property) (taken : Names) (at : ℕ)
    (read : Result Property FdtKind) (here there next : List Token)
    (total : Result (List Property × List Token) Fault)
    → there ≡ here → there ≡ Prop at read ∷ next → Fails e (property taken at read)
    → with_front front (properties taken here) ≡ total → Fails e total
properties-end (faults.At kind offset) front taken at read here there next total same first
    fails so_far =
    let step = ap (properties taken) (sym same ∙ first)
    ∙ properties-fail (faults.At kind offset) taken at read next fails in
    sym so_far ∙ ap (with_front front) step
properties-end faults.NoMemory front taken at read here there next total same first fails so_far =
    tt

-- no property stands there
pub properties-none_at : (taken : Names) (block strings : List ℕ) (at : ℕ) (mark : Mark)
    → mark_at block at ≡ mark → mark ≢ marks.Prop → mark ≢ marks.Nop
    → properties taken (tokens block strings at) ≡ Ok ([], tokens block strings at)
unfolding properties
properties-none_at taken block strings at marks.Begin is p q =
    rw (tokens-at block strings at marks.Begin is) refl
properties-none_at taken block strings at marks.EndNode is p q =
    rw (tokens-at block strings at marks.EndNode is) refl
properties-none_at taken block strings at marks.Prop is p q = absurd (p refl)
properties-none_at taken block strings at marks.Nop is p q = absurd (q refl)
properties-none_at taken block strings at marks.End is p q =
    rw (tokens-at block strings at marks.End is) refl
properties-none_at taken block strings at marks.Strange is p q =
    rw (tokens-at block strings at marks.Strange is) refl
properties-none_at taken block strings at marks.Cut is p q =
    rw (tokens-at block strings at marks.Cut is) refl

pub properties-done : (front : List Property) (taken : Names) (block strings : List ℕ) (at : ℕ)
    (mark : Mark) (here : List Token) (total : Result (List Property × List Token) Fault)
    → mark_at block at ≡ mark → mark ≢ marks.Prop → mark ≢ marks.Nop
    → tokens block strings at ≡ here → with_front front (properties taken here) ≡ total
    → total ≡ Ok (front, tokens block strings at)
properties-done front taken block strings at mark here total is p q same so_far =
    sym so_far ∙ ap (λ ts. with_front front (properties taken ts)) (sym same)
    ∙ ap (with_front front) (properties-none_at taken block strings at mark is p q)
    ∙ ap (λ all. Ok (all, tokens block strings at)) (append-nil front)
