use Rattle.std.proofs.Common.{◌∙◌, length, refl, ap}
use Rattle.xv_top.specs.Contents.{put_into}
use Rattle.xv_top.specs.Manager.{world_of}
use Rattle.xv_top.specs.Texts.{poked_text}
use Rattle.xv_top.proofs.HostLemmas.{alone_named, guest_there}
use Rattle.xv_top.proofs.ManagerLemmas.{gives_by, gives_printed, gives_text, name_short}
use Rattle.xv_top.proofs.manager.Manager.poke.Goals as goal

pub poked-requires-clause-short : goal.poked-requires-clause-short
poked-requires-clause-short c =
    name_short c.args.name.now c.bytes.result.now c.bytes.ensures.value c.bytes.ensures.grammar

pub returns-in_default-clause-answer : goal.returns-in_default-clause-answer
returns-in_default-clause-answer c =
    let m = c.args.self.now in
    let bytes = c.args.machine.now.mem in
    let piece = c.args.bytes.now in
    gives_text _ m c.args.machine.now _ c.at_reset.new.printer
    (c.in_default.ensures.refused refl bytes
    (put_into (world_of m bytes) c.args.name.now c.args.gpa piece
    (poked_text c.args.name.now (length piece)))) refl

pub returns-then-put-clause-answer : goal.returns-then-put-clause-answer
returns-then-put-clause-answer c =
    let m = c.args.self.now in
    let name = c.args.name.now in
    let bytes = c.args.machine.now.mem in
    let piece = c.args.bytes.now in
    let text = poked_text name (length piece) in
    let alone = alone_named m.guest m.host.guests name c.in-Some.key c.requires.sound.guests
    c.in-Some.ensures.named in
    let at = guest_there m.host.guests c.in-Some.key alone in
    gives_by _ _
    (c.in-Some.ensures.next alone.guest at bytes (put_into (world_of m bytes) name c.args.gpa piece
    text))
    (gives_printed _ text
    (c.poked.ensures ∙ ap (λ n. poked_text n (length piece)) c.bytes.ensures.value)
    (c.if-put.ensures.put refl text alone.guest at))

pub returns-else-put-clause-answer : goal.returns-else-put-clause-answer
returns-else-put-clause-answer c =
    let m = c.args.self.now in
    let name = c.args.name.now in
    let bytes = c.args.machine.now.mem in
    let piece = c.args.bytes.now in
    let text = poked_text name (length piece) in
    let alone = alone_named m.guest m.host.guests name c.in-Some.key c.requires.sound.guests
    c.in-Some.ensures.named in
    let at = guest_there m.host.guests c.in-Some.key alone in
    gives_by _ _
    (c.in-Some.ensures.next alone.guest at bytes (put_into (world_of m bytes) name c.args.gpa piece
    text))
    (c.if-put.ensures.refused refl text alone.guest at)
