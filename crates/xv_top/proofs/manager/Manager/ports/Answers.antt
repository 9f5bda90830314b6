use Rattle.std.proofs.Common.{◌≡◌, ◌∙◌, ◌++◌, ℕ, List, count_by, refl, sym, ap, arith}
use Rattle.xv_region.specs.declared.plan.Region.{Region}
use Rattle.xv_region.proofs.RuleLemmas.{sound-length}
use Rattle.xv_guest.specs.Guest.{Guest}
use Rattle.xv_top.specs.Lists.{is_port, ports_head}
use Rattle.xv_top.proofs.HostLemmas.{alone_named, guest_there}
use Rattle.xv_top.proofs.ListLemmas.{port_lines, ports_none, ports_one}
use Rattle.xv_top.proofs.ManagerLemmas.{gives_text, name_short}
use Rattle.xv_top.proofs.manager.Manager.ports.Goals as goal

pub ports_of-requires-clause-short : goal.ports_of-requires-clause-short
ports_of-requires-clause-short c =
    name_short c.in-Some.one.name c.bytes.result.now c.bytes.ensures.value c.bytes.ensures.grammar

pub ports_of-requires-clause-room : goal.ports_of-requires-clause-room
ports_of-requires-clause-room c =
    let accepted = c.regions-regions.ensures.accepted in
    let value = c.regions-regions.ensures.value in
    let few = rw (sym value) at (sound-length _ accepted.sound) in
    omega (arith, c.ports-2.ensures.short, few)

pub returns-in_default : goal.returns-in_default
returns-in_default c machine =
    let m = c.args.self.now in
    gives_text _ m machine _ _ refl
    (c.ports.ensures.text ∙ sym (ports_none m machine.mem c.in_default.is))

pub returns : goal.returns
returns c machine =
    let m = c.args.self.now in
    let one = c.in-Some.one in
    let alone = alone_named m.guest m.host.guests one.name one.key c.requires.guests
    c.in-Some.is in
    let g = alone.guest in
    let at = guest_there m.host.guests one.key alone in
    let found = c.guest.ensures in
    let same : c.guest.result.now ≡ g = cc in
    let regions : c.regions-regions.result.now ≡ g.plan.regions =
    c.regions-regions.ensures.value
    ∙ (c.map.ensures ∙ ap (λ (x : Guest). x.plan.regions) same) in
    gives_text _ m machine _ _ refl
    (c.ports_of.ensures
    ∙ (ap (λ (t : List ℕ). t ++ port_lines c.bytes.result.now c.regions-regions.result.now)
    c.ports-2.ensures.text
    ∙ (ap (λ (n : ℕ). ports_head n ++ port_lines c.bytes.result.now c.regions-regions.result.now)
    c.port_count.ensures
    ∙ (ap (λ (n : List ℕ). ports_head (count_by is_port c.regions-regions.result.now)
    ++ port_lines n c.regions-regions.result.now) c.bytes.ensures.value
    ∙ (ap (λ (rs : List Region). ports_head (count_by is_port rs) ++ port_lines one.name rs)
    regions
    ∙ sym (ports_one m machine.mem one g c.in-Some.is at))))))
