use Rattle.std.proofs.Common.{◌≡◌, ◌∙◌, ◌+◌, Some, option_map, refl, sym, ap, arith}
use Rattle.xv_hart.specs.Hart.{trail_of}
use Rattle.xv_lone.specs.Journal as journal
use Rattle.xv_guest.specs.Guest.{Guest, lone_of}
use Rattle.xv_host.specs.Change.{time_of}
use Rattle.xv_host.specs.OnHart.{core_of}
use Rattle.xv_top.specs.declared.manager.Manager.{Manager}
use Rattle.xv_top.specs.World.{candidate, one_turn, passed, pick, with_turn}
use Rattle.xv_top.specs.Manager.{live_guest, world_of, going}
use Rattle.xv_top.proofs.HostLemmas.{alone_named, change_sound, change_world, guest_there}
use Rattle.xv_top.proofs.HostLemmas.{passed_sound}
use Rattle.xv_top.proofs.ManagerLemmas.{busy_kept}
use Rattle.xv_top.proofs.RunLemmas.{steps_few}
use Rattle.xv_top.proofs.TurnLemmas.{turn_noted}
use Rattle.xv_top.proofs.manager.Manager.turn.Goals as goal

pub returns-clause-turn : goal.returns-clause-turn
returns-clause-turn g c idle work earlier =
    let m = c.args.self.now in
    let machine = c.args.machine.now in
    let new = c.turn.new.machine in
    let key = c.in-Some.next.key in
    let vcpu = c.in-Some.next.vcpu in
    let one = c.in-Some.ensures.picked in
    let alone = alone_named m.guest m.host.guests one.name key c.requires.sound.guests one.guest in
    let guest = alone.guest in
    let at = guest_there m.host.guests key alone in
    let w = world_of m machine.mem in
    let next = candidate (live_guest one.name m.last guest machine.mem) vcpu in
    let picked : pick w ≡ Some next =
    one.picked machine.mem ∙ ap (option_map (λ (x : Guest).
    candidate (live_guest one.name m.last x machine.mem) vcpu)) at in
    let whole = ap (one_turn (going w idle work earlier)) picked in
    let change = journal.Turn vcpu m.clock in
    let count = steps_few core_of guest.plan vcpu (time_of guest m.clock) (lone_of guest
    machine.mem)
    (trail_of new.hart) (c.turn.ensures.trail guest at) in
    record {
      world = ap (λ r. r.world) whole
          ∙ sym (c.pass-2.ensures.world new.mem
          ∙ ap (λ (x : Manager). passed (world_of x new.mem)) c.note.ensures
          ∙ (ap passed (turn_noted (record m { host = c.turn.new.self }) one.name key (m.turns + 1)
          next new.mem one.guest refl)
          ∙ ap (λ w. passed (with_turn next (m.turns + 1) w))
          (change_world m c.turn.new.self one.name key one.guest alone change machine.mem new.mem
          guest at (c.turn.ensures.turned.guest guest at))));
      idle = ap (λ r. r.idle) whole ∙ (let e : idle ≡ idle + 0 = omega arith in e);
      work = omega (arith, ap (λ r. r.work) whole, c.turn.ensures.taken, count);
    }

pub returns-clause-kept : goal.returns-clause-kept
returns-clause-kept g c earlier =
    let m = c.args.self.now in
    let machine = c.args.machine.now in
    let key = c.in-Some.next.key in
    let vcpu = c.in-Some.next.vcpu in
    let one = c.in-Some.ensures.picked in
    let alone = alone_named m.guest m.host.guests one.name key c.requires.sound.guests one.guest in
    busy_kept earlier (pick (world_of m machine.mem))
    (candidate (live_guest one.name m.last alone.guest machine.mem) vcpu) _
    (one.picked machine.mem ∙ ap (option_map (λ (x : Guest).
    candidate (live_guest one.name m.last x machine.mem) vcpu))
    (guest_there m.host.guests key alone))

pub returns-clause-sound : goal.returns-clause-sound
returns-clause-sound g c =
    let m = c.args.self.now in
    let machine = c.args.machine.now in
    let new = c.turn.new.machine in
    let key = c.in-Some.next.key in
    let one = c.in-Some.ensures.picked in
    let alone = alone_named m.guest m.host.guests one.name key c.requires.sound.guests one.guest in
    let at = guest_there m.host.guests key alone in
    let turned = change_sound m c.turn.new.self one.name key (journal.Turn c.in-Some.next.vcpu
    m.clock)
    machine new alone.guest one.guest at (c.turn.ensures.turned.guest alone.guest at)
    c.turn.ensures.area
    c.turn.ensures.hosted c.requires.sound in
    let pass = c.pass-2.ensures in
    let note = c.note.ensures in
    passed_sound (record m { host = c.turn.new.self }) c.pass-2.new.self new
    (pass.guest ∙ ap (λ (x : Manager). x.guest) note) (pass.host ∙ ap (λ (x : Manager). x.host)
    note)
    (omega (arith, pass.turns, ap (λ (x : Manager). x.turns) note, c.requires.turns)) turned
