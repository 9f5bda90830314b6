use Rattle.std.proofs.Common.{◌∙◌, refl, ap, sym}
use Rattle.xv_top.specs.Contents.{load_bytes, load_file}
use Rattle.xv_top.specs.Manager.{live_guest, world_of}
use Rattle.xv_top.proofs.FetchLemmas.{told_at_fetch}
use Rattle.xv_top.proofs.HostLemmas.{alone_named, guest_there}
use Rattle.xv_top.proofs.ManagerLemmas.{gives_by, gives_text, load_fetches, some_at}
use Rattle.xv_top.proofs.manager.Manager.load.Goals as goal

pub returns-in-Ok-Some-clause-answer : goal.returns-in-Ok-Some-clause-answer
returns-in-Ok-Some-clause-answer g c told is =
    let m = c.args.self.now in
    let host = c.args.machine.now.mem in
    let w = world_of m host in
    let name = c.args.name.now in
    let alone = alone_named m.guest m.host.guests name c.in-Some.key c.requires.sound.guests
    c.in-Some.ensures.named in
    let at = guest_there m.host.guests c.in-Some.key alone in
    let live = live_guest name c.args.self.now.last alone.guest host in
    gives_by _ _
    (c.in-Some.ensures.next alone.guest at host (load_file told w name c.args.gpa c.args.file.now)
    ∙ (some_at _ c.in-Ok-Some.field-0 c.in-Ok-Some.bytes c.in-Ok-Some.field-0-is
    c.in-Ok-Some.ensures.bytes told w (load_bytes w name c.args.gpa live)
    (told_at_fetch is (load_fetches w name c.args.gpa c.args.file.now
    (c.in-Some.ensures.loadable host)))
    ∙ ap (load_bytes w name c.args.gpa live) (sym c.deref.ensures.value)))
    (c.load_bytes.ensures.answer alone.guest at)

pub returns-in-Err-clause-fetching : goal.returns-in-Err-clause-fetching
returns-in-Err-clause-fetching g c =
    let host = c.args.machine.now.mem in
    load_fetches (world_of c.args.self.now host) c.args.name.now c.args.gpa c.args.file.now
    (c.in-Some.ensures.loadable host)

pub returns-in-Ok-None-clause-answer : goal.returns-in-Ok-None-clause-answer
returns-in-Ok-None-clause-answer g c told is =
    let m = c.args.self.now in
    let machine = c.args.machine.now in
    let w = world_of m machine.mem in
    let name = c.args.name.now in
    let alone = alone_named m.guest m.host.guests name c.in-Some.key c.requires.sound.guests
    c.in-Some.ensures.named in
    let at = guest_there m.host.guests c.in-Some.key alone in
    let live = live_guest name c.args.self.now.last alone.guest machine.mem in
    gives_text _ m machine _ _
    (c.in-Some.ensures.next alone.guest at machine.mem
    (load_file told w name c.args.gpa c.args.file.now)
    ∙ c.in-Ok-None.ensures.refused c.in-Ok-None.field-0-is told w
    (load_bytes w name c.args.gpa live)
    (told_at_fetch is (load_fetches w name c.args.gpa c.args.file.now
    (c.in-Some.ensures.loadable machine.mem)))) refl
