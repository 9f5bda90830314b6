use Rattle.std.proofs.Common.{◌∙◌, ℕ, List, sym, subst, ap}
use Rattle.xv_pte.specs.GStage.{HasTables}
use Rattle.xv_region.specs.declared.plan.Region.{Region}
use Rattle.xv_gstage.specs.Audit.{audited}
use Rattle.xv_guest.specs.Guest.{held_of, root_or_none}
use Rattle.xv_host.proofs.AuditLemmas.{all_led, has_tables}
use Rattle.xv_host.proofs.contents.audit_of.Goals as goal

pub audit-requires-clause-tables : goal.audit-requires-clause-tables
audit-requires-clause-tables g c =
    subst (HasTables c.args.mem.now) (ap root_or_none c.root.ensures)
    (has_tables (held_of c.args.guest.now) c.args.mem.now c.requires.held)

pub returns : goal.returns
returns g c =
    let mem = c.args.mem.now in
    let guest = c.args.guest.now in
    let root = (held_of guest).root in
    c.audit.ensures.count
    ∙ ap (λ (n : ℕ). audited mem n c.map.result.now c.frames.result.now)
    (sym (ap root_or_none c.root.ensures))
    ∙ ap (λ (rs : List Region). audited mem root rs c.frames.result.now) c.map.ensures
    ∙ ap (λ (fs : List ℕ). audited mem root guest.plan.regions fs) c.frames.ensures
    ∙ all_led (held_of guest) mem c.requires.held c.requires.accepted
