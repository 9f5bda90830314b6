use Rattle.std.proofs.Common.{◌∙◌, sym, ap, codes}
use Rattle.std.proofs.lemmas.Result.{on_ok_weaker}
use Rattle.xv_top.specs.Contents.{poke_guest}
use Rattle.xv_top.specs.Manager.{world_of}
use Rattle.xv_top.specs.Texts.{refused_text}
use Rattle.xv_top.specs.World.{guest_named}
use Rattle.xv_top.specs.Commands.{input_guest}
use Rattle.xv_top.proofs.CommandLemmas.{create_is, flat_is, load_is, poke_is, kick_is, regs_is}
use Rattle.xv_top.proofs.CommandLemmas.{mem_is, digest_is, audit_is, list_is, ports_is, clock_is}
use Rattle.xv_top.proofs.CommandLemmas.{dump_is, input_is, tick_is, run_is, unbuilt_is}
use Rattle.xv_top.proofs.FetchLemmas.{stands_command}
use Rattle.xv_top.proofs.ManagerLemmas.{create_stops, flat_stops, load_stops, gives_by, gives_text}
use Rattle.xv_top.proofs.manager.Manager.apply.Goals as goal

pub returns-in-Create-clause-answer : goal.returns-in-Create-clause-answer
returns-in-Create-clause-answer g c =
    let w = world_of c.args.self.now c.args.machine.now.mem in
    on_ok_weaker c.create.result
    (λ answer told is. gives_by _ _ (create_is told w c.args.line.now.command _ _ c.in-Create.is)
    (answer told (stands_command w c.in-Create.is is))) c.create.ensures.answer

pub returns-in-Create-clause-may : goal.returns-in-Create-clause-may
returns-in-Create-clause-may g c stop is =
    create_stops (world_of c.args.self.now c.args.machine.now.mem) c.args.line.now.command _ _
    c.in-Create.is c.create.result stop is c.create.ensures.fetching

pub returns-in-Load-clause-answer : goal.returns-in-Load-clause-answer
returns-in-Load-clause-answer g c =
    let w = world_of c.args.self.now c.args.machine.now.mem in
    on_ok_weaker c.load.result
    (λ answer told is. gives_by _ _ (load_is told w c.args.line.now.command _ _ _ c.in-Load.is)
    (answer told (stands_command w c.in-Load.is is))) c.load.ensures.answer

pub returns-in-Load-clause-may : goal.returns-in-Load-clause-may
returns-in-Load-clause-may g c stop is =
    load_stops (world_of c.args.self.now c.args.machine.now.mem) c.args.line.now.command _ _ _
    c.in-Load.is c.load.result stop is c.load.ensures.fetching

pub returns-in-Flat-clause-answer : goal.returns-in-Flat-clause-answer
returns-in-Flat-clause-answer g c =
    let w = world_of c.args.self.now c.args.machine.now.mem in
    on_ok_weaker c.flat.result
    (λ answer told is. gives_by _ _ (flat_is told w c.args.line.now.command _ _ c.in-Flat.is)
    answer) c.flat.ensures.answer

pub returns-in-Flat-clause-may : goal.returns-in-Flat-clause-may
returns-in-Flat-clause-may g c stop is =
    flat_stops (world_of c.args.self.now c.args.machine.now.mem) c.args.line.now.command _ _
    c.in-Flat.is c.flat.result stop is c.flat.ensures.file c.flat.ensures.want

pub returns-in-Poke-clause-answer : goal.returns-in-Poke-clause-answer
returns-in-Poke-clause-answer g c told is =
    let w = world_of c.args.self.now c.args.machine.now.mem in
    let name = c.in-Poke.name in
    gives_by _ _
    (poke_is told w c.args.line.now.command _ _ _ c.in-Poke.is
    ∙ ap (λ b. poke_guest w name c.in-Poke.gpa b (guest_named name w)) (sym
    (c.as_slice.ensures.value ∙ c.bytes.view_is)))
    c.poke.ensures.answer

pub returns-in-Kick-clause-answer : goal.returns-in-Kick-clause-answer
returns-in-Kick-clause-answer g c told is =
    let w = world_of c.args.self.now c.args.machine.now.mem in
    gives_by _ _ (kick_is told w c.args.line.now.command _ c.in-Kick.is)
    (c.kick.ensures.answer c.args.machine.now)

pub returns-in-Regs-clause-answer : goal.returns-in-Regs-clause-answer
returns-in-Regs-clause-answer g c told is =
    let w = world_of c.args.self.now c.args.machine.now.mem in
    gives_by _ _ (regs_is told w c.args.line.now.command _ _ c.in-Regs.is)
    (c.regs.ensures c.args.machine.now)

pub returns-in-Mem-clause-answer : goal.returns-in-Mem-clause-answer
returns-in-Mem-clause-answer g c told is =
    let w = world_of c.args.self.now c.args.machine.now.mem in
    gives_by _ _ (mem_is told w c.args.line.now.command _ _ _ c.in-Mem.is) c.mem.ensures

pub returns-in-Digest-clause-answer : goal.returns-in-Digest-clause-answer
returns-in-Digest-clause-answer g c told is =
    let w = world_of c.args.self.now c.args.machine.now.mem in
    gives_by _ _ (digest_is told w c.args.line.now.command _ c.in-Digest.is) c.digest.ensures

pub returns-in-Audit-clause-answer : goal.returns-in-Audit-clause-answer
returns-in-Audit-clause-answer g c told is =
    let w = world_of c.args.self.now c.args.machine.now.mem in
    gives_by _ _ (audit_is told w c.args.line.now.command _ c.in-Audit.is) c.audit.ensures

pub returns-in-List-clause-answer : goal.returns-in-List-clause-answer
returns-in-List-clause-answer g c told is =
    let w = world_of c.args.self.now c.args.machine.now.mem in
    gives_by _ _ (list_is told w c.args.line.now.command c.in-List.is)
    (c.list.ensures c.args.machine.now)

pub returns-in-Input-clause-answer : goal.returns-in-Input-clause-answer
returns-in-Input-clause-answer g c told is =
    let w = world_of c.args.self.now c.args.machine.now.mem in
    let name = c.in-Input.name in
    gives_by _ _
    (input_is told w c.args.line.now.command _ _ _ c.in-Input.is
    ∙ ap (λ b. input_guest w name c.in-Input.dev b (guest_named name w)) (sym
    (c.as_slice-in-Input.ensures.value ∙ c.bytes-in-Input.view_is)))
    (c.input.ensures.answer c.args.machine.now)

pub returns-in-Dump-clause-answer : goal.returns-in-Dump-clause-answer
returns-in-Dump-clause-answer g c told is =
    let w = world_of c.args.self.now c.args.machine.now.mem in
    gives_by _ _ (dump_is told w c.args.line.now.command _ _ c.in-Dump.is)
    (c.dump.ensures.answer c.args.machine.now)

pub returns-in-Ports-clause-answer : goal.returns-in-Ports-clause-answer
returns-in-Ports-clause-answer g c told is =
    let w = world_of c.args.self.now c.args.machine.now.mem in
    gives_by _ _ (ports_is told w c.args.line.now.command c.in-Ports.is)
    (c.ports.ensures c.args.machine.now)

pub returns-in-Clock-clause-answer : goal.returns-in-Clock-clause-answer
returns-in-Clock-clause-answer g c told is =
    let w = world_of c.args.self.now c.args.machine.now.mem in
    gives_by _ _ (clock_is told w c.args.line.now.command _ c.in-Clock.is)
    (c.set_clock.ensures.answer c.args.machine.now)

pub returns-in-Tick-clause-answer : goal.returns-in-Tick-clause-answer
returns-in-Tick-clause-answer g c told is =
    let w = world_of c.args.self.now c.args.machine.now.mem in
    gives_by _ _ (tick_is told w c.args.line.now.command _ c.in-Tick.is)
    (c.set_tick.ensures.answer c.args.machine.now)

pub returns-in-Run-clause-answer : goal.returns-in-Run-clause-answer
returns-in-Run-clause-answer g c told is =
    let w = world_of c.args.self.now c.args.machine.now.mem in
    gives_by _ _ (run_is told w c.args.line.now.command _ c.in-Run.is) c.run.ensures.answer

pub returns-in_default-clause-answer : goal.returns-in_default-clause-answer
returns-in_default-clause-answer g c told is =
    let m = c.args.self.now in
    let machine = c.args.machine.now in
    let others = c.in_default in
    gives_text _ m machine _ (refused_text (codes "unbuilt"))
    (unbuilt_is told (world_of m machine.mem) c.args.line.now.command
    others.not-Create others.not-Flat others.not-Load others.not-Poke others.not-Kick
    others.not-Regs others.not-Mem others.not-Digest others.not-Audit others.not-List
    others.not-Input others.not-Dump others.not-Ports others.not-Clock others.not-Tick
    others.not-Run)
    c.refused.ensures
