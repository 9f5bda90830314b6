use Rattle.std.proofs.Common.{◌≡◌, ◌∙◌, ◌++◌, ℕ, List, length, refl, sym, ap, arith}
use Rattle.xv_lone.specs.declared.vcpu.GuestState.{GuestState}
use Rattle.xv_region.specs.Plan.{Plan}
use Rattle.xv_guest.specs.Guest.{Guest}
use Rattle.xv_top.specs.Lists.{guest_line, guests_head}
use Rattle.xv_top.proofs.HostLemmas.{alone_named, guest_there}
use Rattle.xv_top.proofs.ListLemmas.{guests_none, guests_one}
use Rattle.xv_top.proofs.ManagerLemmas.{gives_text, name_short}
use Rattle.xv_top.proofs.manager.Manager.list.Goals as goal

pub guest-requires-clause-short : goal.guest-requires-clause-short
guest-requires-clause-short c =
    name_short c.in-Some.one.name c.bytes.result.now c.bytes.ensures.value c.bytes.ensures.grammar

pub returns-in_default : goal.returns-in_default
returns-in_default c machine =
    let m = c.args.self.now in
    gives_text _ m machine _ _ refl
    (c.guests.ensures.text ∙ sym (guests_none m machine.mem c.in_default.is))

pub returns : goal.returns
returns c machine =
    let m = c.args.self.now in
    let one = c.in-Some.one in
    let alone = alone_named m.guest m.host.guests one.name one.key c.requires.guests
    c.in-Some.is in
    let g = alone.guest in
    let at = guest_there m.host.guests one.key alone in
    let found = c.guest-guest.ensures in
    let same : c.guest-guest.result.now ≡ g = cc in
    let count : c.len-vcpus.result ≡ length g.plan.vcpus =
    omega (
      arith,
      c.len-vcpus.ensures,
      ap (λ (p : Plan). length p.vcpus) (c.behind-guest.view_is ∙ c.plan.ensures.plan),
      ap (λ (x : Guest). length x.plan.vcpus) same,
    ) in
    let state : c.state.result ≡ g.state =
    c.state.ensures ∙ ap (λ (x : Guest). x.state) same in
    gives_text _ m machine _ _ refl
    (c.guest.ensures.text
    ∙ (ap (λ (t : List ℕ). t ++ guest_line c.bytes.result.now c.state.result c.len-vcpus.result)
    c.guests-2.ensures.text
    ∙ (ap (λ (n : List ℕ). guests_head 1 ++ guest_line n c.state.result c.len-vcpus.result)
    c.bytes.ensures.value
    ∙ (ap (λ (s : GuestState). guests_head 1 ++ guest_line one.name s c.len-vcpus.result) state
    ∙ (ap (λ (n : ℕ). guests_head 1 ++ guest_line one.name g.state n) count
    ∙ sym (guests_one m machine.mem one g c.in-Some.is at))))))
