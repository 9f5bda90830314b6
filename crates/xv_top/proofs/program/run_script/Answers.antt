use Rattle.std.proofs.Common.{◌∙◌}
use Rattle.std.proofs.lemmas.Result.{on_ok_weaker}
use Rattle.xv_top.specs.Manager.{may_stop, world_of}
use Rattle.xv_top.proofs.BootLemmas.{served_is, stop_is, cut_line_is}
use Rattle.xv_top.proofs.program.run_script.Goals as goal

pub returns-clause-served : goal.returns-clause-served
returns-clause-served g c mib size area =
    let mem = c.args.machine.now.mem in
    on_ok_weaker c.run_counted.result
    (λ ran. served_is mib (g.F.Files.map c.args.files.now)
    c.args.text.now c.in-Ok.lines.items c.deref.result.now
    (world_of c.in-Ok-new.manager mem) c.in-Ok.ensures.exact c.deref.ensures.value
    (c.in-Ok-new.ensures.world mib size area)
    (g.K.Sink.taken c.args.sink.now) (g.K.Sink.taken c.run_counted.new.sink) c.args.machine.now
    c.run_counted.new.machine c.run_counted.new.manager (c.run_counted.ensures.size ∙ size)
    (c.run_counted.ensures.area ∙ area) c.run_counted.ensures.sound c.hosts_stand.ensures ran)
    c.run_counted.ensures.ran

pub returns-clause-cut : goal.returns-clause-cut
returns-clause-cut g c mib size area ended =
    let mem = c.args.machine.now.mem in
    cut_line_is mib (g.F.Files.map c.args.files.now)
    c.args.text.now c.in-Ok.lines.items c.deref.result.now
    (world_of c.in-Ok-new.manager mem) c.in-Ok.ensures.exact c.deref.ensures.value
    (c.in-Ok-new.ensures.world mib size area)
    (g.K.Sink.taken c.args.sink.now) (g.K.Sink.taken c.run_counted.new.sink) c.args.machine.now
    c.run_counted.new.machine c.run_counted.new.manager (c.run_counted.ensures.size ∙ size)
    (c.run_counted.ensures.area ∙ area) c.run_counted.ensures.sound c.hosts_stand.ensures
    (c.run_counted.ensures.cut ended)

pub returns-clause-stopped : goal.returns-clause-stopped
returns-clause-stopped g c mib stop size area ended =
    let mem = c.args.machine.now.mem in
    stop_is mib (g.F.Files.map c.args.files.now)
    c.args.text.now c.in-Ok.lines.items c.deref.result.now
    (world_of c.in-Ok-new.manager mem) c.in-Ok.ensures.exact c.deref.ensures.value
    (c.in-Ok-new.ensures.world mib size area)
    (g.K.Sink.taken c.args.sink.now) (g.K.Sink.taken c.run_counted.new.sink) c.args.machine.now
    c.run_counted.new.machine c.run_counted.new.manager (c.run_counted.ensures.size ∙ size)
    (c.run_counted.ensures.area ∙ area) c.run_counted.ensures.sound c.hosts_stand.ensures
    (may_stop stop) (c.run_counted.ensures.stopped stop ended)
