use Rattle.std.proofs.Common.{◌≡◌, ◌∙◌, refl, ap, codes}
use Rattle.std.proofs.lemmas.Bool.{cond-true, cond-false}
use Rattle.xv_lone.specs.declared.vcpu.GuestState.{GuestState}
use Rattle.xv_lone.specs.declared.vcpu.GuestState.TheVariants.{Reset, Running, Paused, Halted}
use Rattle.xv_lone.specs.Journal as journal
use Rattle.xv_lone.specs.Ready.{is_reset}
use Rattle.xv_host.specs.Lifecycle.{is_allowed}
use Rattle.xv_host.specs.declared.lifecycle.Change.TheVariants.{Kick}
use Rattle.xv_top.specs.Answer.{Answer, changes, if_reset}
use Rattle.xv_top.specs.Manager.{world_of}
use Rattle.xv_top.specs.Texts.{kicked_text, refused_text}
use Rattle.xv_top.specs.World.{LiveGuest}
use Rattle.xv_top.proofs.HostLemmas.{alone_named, guest_there, change_world, change_sound}
use Rattle.xv_top.proofs.ManagerLemmas.{gives_by, gives_text, gives_same, gives_change}
use Rattle.xv_top.proofs.ManagerLemmas.{name_short}
use Rattle.xv_top.proofs.manager.Manager.kick.Goals as goal

-- a guest is kicked in its reset state alone
kick_allowed : (s : GuestState) → is_reset s ≡ is_allowed Kick s
kick_allowed Reset = refl
kick_allowed Running = refl
kick_allowed Paused = refl
kick_allowed (Halted ending) = refl

pub kicked-requires-clause-short : goal.kicked-requires-clause-short
kicked-requires-clause-short c =
    name_short c.args.name.now c.bytes.result.now c.bytes.ensures.value c.bytes.ensures.grammar

pub returns-in_default-clause-answer : goal.returns-in_default-clause-answer
returns-in_default-clause-answer c machine =
    let m = c.args.self.now in
    let w = world_of m machine.mem in
    let name = c.args.name.now in
    gives_text _ m machine _ c.there.new.printer
    (c.in_default.ensures.refused refl machine.mem
    (if_reset w (λ _. changes w name journal.Kick (kicked_text name)))) refl

pub returns-in_default-change-clause-answer : goal.returns-in_default-change-clause-answer
returns-in_default-change-clause-answer c machine =
    let m = c.args.self.now in
    let w = world_of m machine.mem in
    let name = c.args.name.now in
    let kick : LiveGuest → Answer = λ _. changes w name journal.Kick (kicked_text name) in
    let alone = alone_named m.guest m.host.guests name c.in-Some.key c.requires.guests
    c.in-Some.ensures.named in
    let g = alone.guest in
    let at = guest_there m.host.guests c.in-Some.key alone in
    let bad = c.in_default-change.ensures.refused g at in
    gives_same _ m c.change.new.self machine machine _ c.in_default-change.ensures.unchanged refl
    (gives_text _ m machine _ (refused_text (codes "state"))
    (c.in-Some.ensures.next g at machine.mem (if_reset w kick)
    ∙ cond-false (is_reset g.state) _ _ (kick_allowed g.state ∙ bad.1)) c.refused.ensures)

pub returns-clause-answer : goal.returns-clause-answer
returns-clause-answer c machine =
    let m = c.args.self.now in
    let w = world_of m machine.mem in
    let name = c.args.name.now in
    let kick : LiveGuest → Answer = λ _. changes w name journal.Kick (kicked_text name) in
    let alone = alone_named m.guest m.host.guests name c.in-Some.key c.requires.guests
    c.in-Some.ensures.named in
    let g = alone.guest in
    let at = guest_there m.host.guests c.in-Some.key alone in
    let reset = kick_allowed g.state ∙ c.in-Ok.ensures.allowed g at in
    gives_by _ (changes w name journal.Kick (kicked_text name))
    (c.in-Some.ensures.next g at machine.mem (if_reset w kick)
    ∙ cond-true (is_reset g.state) _ _ reset)
    (gives_change m _ machine machine name journal.Kick _ (kicked_text name)
    (c.kicked.ensures ∙ ap kicked_text c.bytes.ensures.value)
    (change_world m c.change.new.self name c.in-Some.key c.in-Some.ensures.named alone journal.Kick
    machine.mem machine.mem g at ((c.in-Ok.ensures.changed machine.mem).guest g at)) refl)

pub returns-clause-sound : goal.returns-clause-sound
returns-clause-sound c machine sound =
    let m = c.args.self.now in
    let name = c.args.name.now in
    let alone = alone_named m.guest m.host.guests name c.in-Some.key c.requires.guests
    c.in-Some.ensures.named in
    let at = guest_there m.host.guests c.in-Some.key alone in
    change_sound m c.change.new.self name c.in-Some.key journal.Kick machine machine alone.guest
    c.in-Some.ensures.named at ((c.in-Ok.ensures.changed machine.mem).guest alone.guest at) refl
    (c.change.ensures.hosted machine.mem sound.hosted) sound
