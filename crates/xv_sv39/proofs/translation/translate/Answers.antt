use Rattle.std.proofs.Common.{◌≡◌, ◌∙◌, sym, ap, ◌==◌, true}
use Rattle.std.proofs.lemmas.Bool.{ne_eqb}
use Rattle.xv_pte.specs.Sv39.{end_verdict, is_bare}
use Rattle.xv_sv39.specs.Translate.{view_of}
use Rattle.xv_sv39.proofs.VerdictLemmas.{few_at}
use Rattle.xv_sv39.proofs.VerdictLemmas.{bare_addresses, faulty_addresses, walk_addresses}
use Rattle.xv_sv39.proofs.VerdictLemmas.{bare_verdict, faulty_verdict, walk_verdict, fault_verdict}
use Rattle.xv_sv39.proofs.translation.translate.Goals as goal

pub returns-then-satp-eq0-clause-verdict : goal.returns-then-satp-eq0-clause-verdict
returns-then-satp-eq0-clause-verdict g c =
    sym (bare_verdict (g.R.Words.table c.args.reader.now)
    (view_of c.args.satp c.args.user c.args.sum c.args.mxr) c.args.va c.args.access
    (let bare : is_bare (view_of c.args.satp c.args.user c.args.sum c.args.mxr)
    ≡ true = ap (λ n. n == 0) c.if-satp-eq0.true in bare))

pub returns-then-satp-eq0-clause-addresses : goal.returns-then-satp-eq0-clause-addresses
returns-then-satp-eq0-clause-addresses g c =
    c.requires.empty
    ∙ sym (bare_addresses (g.R.Words.table c.args.reader.now)
    (view_of c.args.satp c.args.user c.args.sum c.args.mxr) c.args.va
    (let bare : is_bare (view_of c.args.satp c.args.user c.args.sum c.args.mxr)
    ≡ true = ap (λ n. n == 0) c.if-satp-eq0.true in bare))

pub returns-then-not-is_canonical-clause-verdict : goal.returns-then-not-is_canonical-clause-verdict
returns-then-not-is_canonical-clause-verdict g c =
    sym (faulty_verdict (g.R.Words.table c.args.reader.now)
    (view_of c.args.satp c.args.user c.args.sum c.args.mxr) c.args.va c.args.access
    (ne_eqb _ _ c.if-satp-eq0.false) (sym c.is_canonical.ensures ∙ c.if-not-is_canonical.true))

pub returns-then-not-is_canonical-clause-addresses :
    goal.returns-then-not-is_canonical-clause-addresses
returns-then-not-is_canonical-clause-addresses g c =
    c.requires.empty
    ∙ sym (faulty_addresses (g.R.Words.table c.args.reader.now)
    (view_of c.args.satp c.args.user c.args.sum c.args.mxr) c.args.va
    (ne_eqb _ _ c.if-satp-eq0.false) (sym c.is_canonical.ensures ∙ c.if-not-is_canonical.true))

pub returns-in-Ok-clause-verdict : goal.returns-in-Ok-clause-verdict
returns-in-Ok-clause-verdict g c =
    c.leaf_verdict.ensures
    ∙ (ap (end_verdict (view_of c.args.satp c.args.user c.args.sum c.args.mxr) c.args.va
    c.args.access) (sym c.in-Ok.ensures.end)
    ∙ sym (walk_verdict (g.R.Words.table c.args.reader.now)
    (view_of c.args.satp c.args.user c.args.sum c.args.mxr) c.args.va c.args.access
    (ne_eqb _ _ c.if-satp-eq0.false) (sym c.is_canonical.ensures ∙ c.if-not-is_canonical.false)))

pub returns-in-Ok-clause-addresses : goal.returns-in-Ok-clause-addresses
returns-in-Ok-clause-addresses g c =
    c.in-Ok.ensures.addresses
    ∙ sym (walk_addresses (g.R.Words.table c.args.reader.now)
    (view_of c.args.satp c.args.user c.args.sum c.args.mxr) c.args.va
    (ne_eqb _ _ c.if-satp-eq0.false) (sym c.is_canonical.ensures ∙ c.if-not-is_canonical.false))

pub returns-in-Err-clause-verdict : goal.returns-in-Err-clause-verdict
returns-in-Err-clause-verdict g c =
    fault_verdict (view_of c.args.satp c.args.user c.args.sum c.args.mxr) c.args.va c.args.access
    c.in-Err.fault
    ∙ (ap (end_verdict (view_of c.args.satp c.args.user c.args.sum c.args.mxr) c.args.va
    c.args.access) (sym c.in-Err.ensures.end)
    ∙ sym (walk_verdict (g.R.Words.table c.args.reader.now)
    (view_of c.args.satp c.args.user c.args.sum c.args.mxr) c.args.va c.args.access
    (ne_eqb _ _ c.if-satp-eq0.false) (sym c.is_canonical.ensures ∙ c.if-not-is_canonical.false)))

pub returns-in-Err-clause-addresses : goal.returns-in-Err-clause-addresses
returns-in-Err-clause-addresses g c =
    c.in-Err.ensures.addresses
    ∙ sym (walk_addresses (g.R.Words.table c.args.reader.now)
    (view_of c.args.satp c.args.user c.args.sum c.args.mxr) c.args.va
    (ne_eqb _ _ c.if-satp-eq0.false) (sym c.is_canonical.ensures ∙ c.if-not-is_canonical.false))

pub returns-then-satp-eq0-clause-few : goal.returns-then-satp-eq0-clause-few
returns-then-satp-eq0-clause-few g c =
    few_at (g.R.Words.table c.args.reader.now)
    (view_of c.args.satp c.args.user c.args.sum c.args.mxr) c.args.va _
    (returns-then-satp-eq0-clause-addresses g c)

pub returns-then-not-is_canonical-clause-few : goal.returns-then-not-is_canonical-clause-few
returns-then-not-is_canonical-clause-few g c =
    few_at (g.R.Words.table c.args.reader.now)
    (view_of c.args.satp c.args.user c.args.sum c.args.mxr) c.args.va _
    (returns-then-not-is_canonical-clause-addresses g c)

pub returns-in-Ok-clause-few : goal.returns-in-Ok-clause-few
returns-in-Ok-clause-few g c =
    few_at (g.R.Words.table c.args.reader.now)
    (view_of c.args.satp c.args.user c.args.sum c.args.mxr) c.args.va _
    (returns-in-Ok-clause-addresses g c)

pub returns-in-Err-clause-few : goal.returns-in-Err-clause-few
returns-in-Err-clause-few g c =
    few_at (g.R.Words.table c.args.reader.now)
    (view_of c.args.satp c.args.user c.args.sum c.args.mxr) c.args.va _
    (returns-in-Err-clause-addresses g c)
