use Rattle.std.proofs.Common.{◌≡◌, ◌∙◌, ℕ, List, Option, Some, option_map, slice_set, refl, sym}
use Rattle.std.proofs.Common.{ap, subst}
use Rattle.xv_base.specs.Serial.{Serial}
use Rattle.xv_bus.specs.Uart.{UartPort}
use Rattle.xv_lone.specs.Device.{DeviceState, Uart, device_at, device_dumped, dumped_serial}
use Rattle.xv_lone.specs.Device.{serial_of}
use Rattle.xv_lone.specs.Journal as journal
use Rattle.xv_guest.specs.Guest.{Guest, held_of}
use Rattle.xv_host.specs.Change.{HasBecome, changed}
use Rattle.xv_host.specs.Host.{Host, IsHosted}
use Rattle.xv_host.specs.Lending.{places_with, with_uart}
use Rattle.xv_host.specs.Places.{guest_at}
use Rattle.xv_host.proofs.ChangeLemmas.{hosted_after}
use Rattle.xv_host.proofs.StageLemmas.{good_first}
use Rattle.xv_top.specs.Answer.{Answer, changes}
use Rattle.xv_top.specs.Commands.{at_port, by_port, dump_at}
use Rattle.xv_top.specs.Lists.{dump_text}
use Rattle.xv_top.specs.Manager.{live_guest, world_of}
use Rattle.xv_top.specs.World.{LiveGuest}
use Rattle.xv_top.proofs.HostLemmas.{alone_named, guest_there, change_world, change_sound}
use Rattle.xv_top.proofs.ManagerLemmas.{gives_by, gives_change, name_short}
use Rattle.xv_top.proofs.manager.Manager.dump.Goals as goal

-- once the loan has ended, the guest's output is dumped
become : (host : Host) (key region : ℕ) (g : Guest) (port : UartPort) (serial : Serial)
    → guest_at host.guests key ≡ Some g → device_at g.devices region ≡ Uart port
    → serial ≡ dumped_serial port.serial → (bytes : List ℕ)
    → HasBecome (changed (journal.Dump region) g bytes) key g host (record host {
      guests = places_with host.guests key region (record port { serial = serial });
    }) bytes
become host key region g port serial at is dumped bytes = record {
  host = ap (λ (s : Serial). record host {
    guests = places_with host.guests key region (record port { serial = s });
  }) dumped
      ∙ (ap (λ (o : Option Guest). record host {
        guests = slice_set host.guests key (option_map
            (with_uart region (record port { serial = dumped_serial port.serial })) o);
      }) at
      ∙ ap (λ (d : DeviceState). record host {
        guests = slice_set host.guests key (Some (record g {
          devices = slice_set g.devices region (device_dumped d);
        }));
      }) (sym is));
  machine = refl;
}

pub dump-requires-clause-short : goal.dump-requires-clause-short
dump-requires-clause-short c =
    name_short c.args.name.now c.bytes.result.now c.bytes.ensures.value c.bytes.ensures.grammar

pub returns-clause-answer : goal.returns-clause-answer
returns-clause-answer c machine =
    let m = c.args.self.now in
    let w = world_of m machine.mem in
    let name = c.args.name.now in
    let dev = c.args.dev.now in
    let key = c.in-Some.key in
    let region = c.in-Some-port.region in
    let alone = alone_named m.guest m.host.guests name key c.requires.guests
    c.in-Some.ensures.named in
    let g = alone.guest in
    let at = guest_there m.host.guests key alone in
    let port = c.uart.result.now in
    let is = c.uart.ensures.value g at in
    let live = live_guest name m.last g machine.mem in
    let next : LiveGuest → Answer = at_port w dev (dump_at w name dev) in
    let shown = dump_text name dev (serial_of (device_at g.devices region)) in
    gives_by _ (changes w name (journal.Dump region) shown)
    (c.in-Some.ensures.next g at machine.mem next
    ∙ ap (by_port w (dump_at w name dev live)) (sym (c.in-Some-port.ensures.region g at)))
    (gives_change m _ machine machine name (journal.Dump region) _ shown
    (c.dump.ensures
    ∙ (ap (λ (n : List ℕ). dump_text n dev c.serial-serial.result.now) c.bytes.ensures.value
    ∙ (ap (dump_text name dev) c.serial-serial.ensures.value
    ∙ ap (λ (d : DeviceState). dump_text name dev (serial_of d)) (sym is))))
    (change_world m _ name key c.in-Some.ensures.named alone (journal.Dump region) machine.mem
    machine.mem g at (become m.host key region g port c.clear_kept.new.self at is
    (c.clear_kept.ensures ∙ ap dumped_serial c.serial-serial.ensures.value) machine.mem)) refl)

pub returns-clause-sound : goal.returns-clause-sound
returns-clause-sound c machine sound =
    let m = c.args.self.now in
    let name = c.args.name.now in
    let key = c.in-Some.key in
    let region = c.in-Some-port.region in
    let alone = alone_named m.guest m.host.guests name key c.requires.guests
    c.in-Some.ensures.named in
    let g = alone.guest in
    let at = guest_there m.host.guests key alone in
    let bytes = machine.mem in
    let made = become m.host key region g c.uart.result.now c.clear_kept.new.self at
    (c.uart.ensures.value g at)
    (c.clear_kept.ensures ∙ ap dumped_serial c.serial-serial.ensures.value) bytes in
    let hosted = hosted_after bytes bytes m.host key g (changed (journal.Dump region) g bytes) at
    sound.hosted (good_first (held_of g) bytes (sound.hosted.owned key g at)) in
    change_sound m _ name key (journal.Dump region) machine machine g c.in-Some.ensures.named at
    made
    refl (subst (λ (h : Host). IsHosted h bytes) (sym made.host) hosted) sound
