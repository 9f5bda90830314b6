use Rattle.std.proofs.Common.{◌∙◌, List, ℕ, refl, ap}
use Rattle.std.specs.List.{sum_by}
use Rattle.xv_gstage.specs.Audit.{mapped_pages}
use Rattle.xv_top.specs.Answer.{Answer, says}
use Rattle.xv_top.specs.Manager.{world_of}
use Rattle.xv_top.specs.Texts.{audit_text}
use Rattle.xv_top.specs.World.{LiveGuest}
use Rattle.xv_top.proofs.HostLemmas.{alone_named, guest_there}
use Rattle.xv_top.proofs.ManagerLemmas.{gives_text, name_short}
use Rattle.xv_top.proofs.manager.Manager.audit.Goals as goal

pub audit-requires-clause-short : goal.audit-requires-clause-short
audit-requires-clause-short c =
    name_short c.args.name.now c.bytes.result.now c.bytes.ensures.value c.bytes.ensures.grammar

pub returns-in_default : goal.returns-in_default
returns-in_default c =
    let m = c.args.self.now in
    let machine = c.args.machine.now in
    let w = world_of m machine.mem in
    let next : LiveGuest → Answer =
    λ l. says w (audit_text c.args.name.now (sum_by mapped_pages l.plan.regions)) in
    gives_text _ m machine _ c.there.new.printer
    (c.in_default.ensures.refused refl machine.mem next) refl

pub returns : goal.returns
returns c =
    let m = c.args.self.now in
    let machine = c.args.machine.now in
    let name = c.args.name.now in
    let w = world_of m machine.mem in
    let alone = alone_named m.guest m.host.guests name c.in-Some.key c.requires.sound.guests
    c.in-Some.ensures.named in
    let at = guest_there m.host.guests c.in-Some.key alone in
    let next : LiveGuest → Answer =
    λ l. says w (audit_text name (sum_by mapped_pages l.plan.regions)) in
    gives_text _ m machine _ _ (c.in-Some.ensures.next alone.guest at machine.mem next)
    (c.audit.ensures
    ∙ (ap (λ (n : List ℕ). audit_text n c.audit-pages.result) c.bytes.ensures.value
    ∙ ap (audit_text name) (c.audit-pages.ensures.pages alone.guest at)))
