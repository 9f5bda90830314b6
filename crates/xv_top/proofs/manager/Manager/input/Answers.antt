use Rattle.std.proofs.Common.{◌≡◌, ◌∙◌, ℕ, ◌<◌, true, false, List, length, ltb, refl, sym, ap}
use Rattle.std.proofs.Common.{arith}
use Rattle.std.proofs.Common.{inl, inr}
use Rattle.std.proofs.lemmas.Bool.Decides.{nat_tests}
use Rattle.std.proofs.lemmas.Bool.{cases_lt, cond-false}
use Rattle.xv_lone.specs.Journal as journal
use Rattle.xv_top.specs.Answer.{Answer, changes}
use Rattle.xv_top.specs.Commands.{at_port, by_port, input_at, room_at}
use Rattle.xv_top.specs.Lists.{input_text}
use Rattle.xv_top.specs.Manager.{live_guest, world_of}
use Rattle.xv_top.specs.World.{LiveGuest}
use Rattle.xv_top.proofs.HostLemmas.{alone_named, guest_there, change_world, change_sound}
use Rattle.xv_top.proofs.ManagerLemmas.{gives_by, gives_change, name_short}
use Rattle.xv_top.proofs.manager.Manager.input.Goals as goal

not_below : (a b : ℕ) → (a < b → false ≡ true) → ltb a b ≡ false
not_below a b no_less =
    elim (cases_lt a b) [
      | inl below ↦ absurd (let e = no_less below in cc)
      | inr least ↦ grind (arith, nat_tests)
    ]

pub input-requires-in-Ok-clause-short : goal.input-requires-in-Ok-clause-short
input-requires-in-Ok-clause-short c =
    name_short c.args.name.now c.bytes.result.now c.bytes.ensures.value c.bytes.ensures.grammar

pub returns-in-Ok-clause-answer : goal.returns-in-Ok-clause-answer
returns-in-Ok-clause-answer c machine =
    let m = c.args.self.now in
    let w = world_of m machine.mem in
    let name = c.args.name.now in
    let dev = c.args.dev.now in
    let bytes = c.args.bytes.now in
    let region = c.in-Some-port.region in
    let alone = alone_named m.guest m.host.guests name c.in-Some.key c.requires.guests
    c.in-Some.ensures.named in
    let g = alone.guest in
    let at = guest_there m.host.guests c.in-Some.key alone in
    let live = live_guest name m.last g machine.mem in
    let come = journal.Input region bytes in
    let text = input_text name dev (length bytes) in
    let next : LiveGuest → Answer = at_port w dev (input_at w name dev bytes) in
    let room = not_below (room_at live region) (length bytes) (c.in-Ok.ensures.full g at).1 in
    gives_by _ (changes w name come text)
    (c.in-Some.ensures.next g at machine.mem next
    ∙ (ap (by_port w (input_at w name dev bytes live)) (sym (c.in-Some-port.ensures.region g at))
    ∙ cond-false (ltb (room_at live region) (length bytes)) _ _ room))
    (gives_change m _ machine machine name come _ text
    (c.input-in-Ok.ensures ∙ ap (λ (n : List ℕ). input_text n dev (length bytes))
    c.bytes.ensures.value)
    (change_world m c.input.new.self name c.in-Some.key c.in-Some.ensures.named alone come
    machine.mem machine.mem g at ((c.in-Ok.ensures.input machine.mem).guest g at)) refl)

pub returns-in-Ok-clause-sound : goal.returns-in-Ok-clause-sound
returns-in-Ok-clause-sound c machine sound =
    let m = c.args.self.now in
    let name = c.args.name.now in
    let come = journal.Input c.in-Some-port.region c.args.bytes.now in
    let alone = alone_named m.guest m.host.guests name c.in-Some.key c.requires.guests
    c.in-Some.ensures.named in
    let at = guest_there m.host.guests c.in-Some.key alone in
    change_sound m c.input.new.self name c.in-Some.key come machine machine alone.guest
    c.in-Some.ensures.named at ((c.in-Ok.ensures.input machine.mem).guest alone.guest at) refl
    (c.in-Ok.ensures.hosted machine.mem sound.hosted) sound
