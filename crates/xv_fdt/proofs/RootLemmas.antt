-- The root, and the end of the structure.
use Rattle.std.proofs.Common.{◌≡◌, ◌≢◌, ℕ, List, [], ◌∷◌, Result, Ok, Err, refl, sym, ap, ◌∙◌}
use Rattle.xv_fdt.specs.declared.fault.FdtKind.{FdtKind}
use Rattle.xv_fdt.specs.declared.fault.FdtFault.{FdtFault}
use Rattle.xv_fdt.specs.declared.fault.FdtFault.TheVariants as faults
use Rattle.xv_fdt.specs.declared.token.Mark.{Mark}
use Rattle.xv_fdt.specs.declared.token.Mark.TheVariants as marks
use Rattle.xv_fdt.specs.Fault.{Fault, ◌>>=◌, Fails}
use Rattle.xv_fdt.specs.Token.{Token, Begin, mark_at, tokens}
use Rattle.xv_fdt.specs.Tree.{Entry}
use Rattle.xv_fdt.specs.Grammar.{nobody, root_name, node_of, children, before_end, nodes_of}
use Rattle.xv_fdt.specs.Progress.{with_front, stray_kind}
use Rattle.xv_fdt.proofs.TokenLemmas.{tokens-at}

pub nodes_of-stray : (block strings : List ℕ) (at : ℕ) (mark : Mark) (here : List Token)
    → mark_at block at ≡ mark → mark ≢ marks.Begin → mark ≢ marks.Nop
    → tokens block strings at ≡ here → nodes_of here ≡ Err (stray_kind mark, at)
nodes_of-stray block strings at marks.Begin here is p q same = absurd (p refl)
nodes_of-stray block strings at marks.Nop here is p q same = absurd (q refl)
nodes_of-stray block strings at marks.EndNode here is p q same =
    ap nodes_of (sym same ∙ tokens-at block strings at marks.EndNode is)
nodes_of-stray block strings at marks.Prop here is p q same =
    ap nodes_of (sym same ∙ tokens-at block strings at marks.Prop is)
nodes_of-stray block strings at marks.End here is p q same =
    ap nodes_of (sym same ∙ tokens-at block strings at marks.End is)
nodes_of-stray block strings at marks.Strange here is p q same =
    ap nodes_of (sym same ∙ tokens-at block strings at marks.Strange is)
nodes_of-stray block strings at marks.Cut here is p q same =
    ap nodes_of (sym same ∙ tokens-at block strings at marks.Cut is)

pub before_end-end : (es : List Entry) (block strings : List ℕ) (at : ℕ) (next : List Token)
    → mark_at block at ≡ marks.End → tokens block strings at ≡ next → before_end es next ≡ Ok es
before_end-end es block strings at next is same =
    ap (before_end es) (sym same ∙ tokens-at block strings at marks.End is)

pub before_end-stray : (es : List Entry) (block strings : List ℕ) (at : ℕ) (mark : Mark)
    (next : List Token) → mark_at block at ≡ mark → mark ≢ marks.End → mark ≢ marks.Nop
    → tokens block strings at ≡ next → before_end es next ≡ Err (stray_kind mark, at)
before_end-stray es block strings at marks.End next is p q same = absurd (p refl)
before_end-stray es block strings at marks.Nop next is p q same = absurd (q refl)
before_end-stray es block strings at marks.Begin next is p q same =
    ap (before_end es) (sym same ∙ tokens-at block strings at marks.Begin is)
before_end-stray es block strings at marks.EndNode next is p q same =
    ap (before_end es) (sym same ∙ tokens-at block strings at marks.EndNode is)
before_end-stray es block strings at marks.Prop next is p q same =
    ap (before_end es) (sym same ∙ tokens-at block strings at marks.Prop is)
before_end-stray es block strings at marks.Strange next is p q same =
    ap (before_end es) (sym same ∙ tokens-at block strings at marks.Strange is)
before_end-stray es block strings at marks.Cut next is p q same =
    ap (before_end es) (sym same ∙ tokens-at block strings at marks.Cut is)

-- the root was read, and all that is below it
pub nodes_of-whole : (at : ℕ) (read : Result (List ℕ) FdtKind) (first : Entry) (now : List Entry)
    (here there behind inside next : List Token)
    → there ≡ here → there ≡ Begin at read ∷ behind
    → node_of (root_name at read) 0 1 behind ≡ Ok (first, inside)
    → with_front (first ∷ []) (children 1 0 2 nobody inside) ≡ Ok (now, next)
    → nodes_of here ≡ before_end now next
nodes_of-whole at read first now here there behind inside next same begins found went =
    ap nodes_of (sym same ∙ begins) ∙ rw found (close (children 1 0 2 nobody inside) went)
  where
    close : (below : Result (List Entry × List Token) Fault) → with_front (first ∷ []) below
        ≡ Ok (now, next) → (below >>= λ b. before_end (first ∷ b.0) b.1) ≡ before_end now next
    close (Ok b) e =
        ap (λ (r : Result (List Entry × List Token) Fault). r >>= λ x. before_end x.0 x.1) e
    close (Err d) e = absurd cc

-- the root is broken, or what is below it
pub nodes_of-end : (e : FdtFault) (at : ℕ) (read : Result (List ℕ) FdtKind)
    (here there behind : List Token)
    → there ≡ here → there ≡ Begin at read ∷ behind
    → Fails e (node_of (root_name at read) 0 1 behind) → Fails e (nodes_of here)
nodes_of-end (faults.At kind offset) at read here there behind same begins fails =
    ap nodes_of (sym same ∙ begins) ∙ rw fails refl
nodes_of-end faults.NoMemory at read here there behind same begins fails = tt

pub nodes_of-below_end : (e : FdtFault) (at : ℕ) (read : Result (List ℕ) FdtKind) (first : Entry)
    (here there behind inside : List Token)
    → there ≡ here → there ≡ Begin at read ∷ behind
    → node_of (root_name at read) 0 1 behind ≡ Ok (first, inside)
    → Fails e (with_front (first ∷ []) (children 1 0 2 nobody inside)) → Fails e (nodes_of here)
nodes_of-below_end (faults.At kind offset) at read first here there behind inside same
    begins found fails =
    ap nodes_of (sym same ∙ begins) ∙ rw found (close (children 1 0 2 nobody inside) fails)
  where
    close : (below : Result (List Entry × List Token) Fault) → with_front (first ∷ []) below
        ≡ Err (kind, offset) → (below >>= λ b. before_end (first ∷ b.0) b.1) ≡ Err (kind, offset)
    close (Ok b) e = absurd cc
    close (Err d) e =
        ap (λ (r : Result (List Entry × List Token) Fault). r >>= λ x. before_end x.0 x.1) e
nodes_of-below_end faults.NoMemory at read first here there behind inside same begins found fails =
    tt
