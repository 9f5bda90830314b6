use Rattle.std.proofs.Common.{◌≡◌, ◌∙◌, ◌≤◌, length, slice_get, codes, ap, arith}
use Rattle.std.proofs.lemmas.Option.{slice_get_past}
use Rattle.xv_region.specs.Plan.{Plan}
use Rattle.xv_guest.specs.Guest.{Guest}
use Rattle.xv_top.specs.Answer.{Answer}
use Rattle.xv_top.specs.Commands.{regs_of_vcpu}
use Rattle.xv_top.specs.Manager.{world_of}
use Rattle.xv_top.specs.Texts.{refused_text}
use Rattle.xv_top.specs.World.{LiveGuest}
use Rattle.xv_top.proofs.HostLemmas.{alone_named, guest_there}
use Rattle.xv_top.proofs.ManagerLemmas.{gives_text, name_short}
use Rattle.xv_top.proofs.manager.Manager.regs.Goals as goal

pub regs-requires-clause-short : goal.regs-requires-clause-short
regs-requires-clause-short c =
    name_short c.args.name.now c.bytes.result.now c.bytes.ensures.value c.bytes.ensures.grammar

pub returns-then-vcpu-len : goal.returns-then-vcpu-len
returns-then-vcpu-len c machine =
    let m = c.args.self.now in
    let name = c.args.name.now in
    let vcpu = c.args.vcpu in
    let w = world_of m machine.mem in
    let alone = alone_named m.guest m.host.guests name c.in-Some.key c.requires.guests
    c.in-Some.ensures.named in
    let g = alone.guest in
    let at = guest_there m.host.guests c.in-Some.key alone in
    let found = c.guest-guest.ensures in
    let same : c.guest-guest.result.now ≡ g = cc in
    let next : LiveGuest → Answer =
    λ l. regs_of_vcpu w name vcpu (slice_get l.machine.vcpus vcpu) in
    let planned = ap (λ (x : Guest). length x.plan.vcpus) same in
    let count = ap (λ (p : Plan). length p.vcpus) (c.behind-guest.view_is ∙ c.plan.ensures.plan) in
    let past : length g.vcpus ≤ vcpu =
    omega (arith, c.if-vcpu-len.true, c.len.ensures, count, planned, alone.views) in
    gives_text _ m machine _ (refused_text (codes "vcpu"))
    (c.in-Some.ensures.next g at machine.mem next
    ∙ ap (regs_of_vcpu w name vcpu) (slice_get_past g.vcpus vcpu past)) c.refused.ensures
