use Rattle.std.proofs.Common.{◌∙◌, length, subst, sym, ap}
use Rattle.std.proofs.lemmas.List.{length-replicate}
use Rattle.std.proofs.lemmas.Result.{on_ok_weaker}
use Rattle.xv_top.specs.Boot.{IsTextOf}
use Rattle.xv_top.specs.Layout.{memory_size}
use Rattle.xv_top.specs.Manager.{may_stop}
use Rattle.xv_top.proofs.BootLemmas.{run_is, refused_is, stopped_is, cut_is}
use Rattle.xv_top.proofs.program.serve.Goals as goal

pub returns-in-Ok-read_script-clause-run : goal.returns-in-Ok-read_script-clause-run
returns-in-Ok-read_script-clause-run g c =
    let left = g.S.Source.left c.args.source.now in
    let told = subst (IsTextOf left) (sym c.deref.ensures.value) c.in-Ok-read_script.ensures.text in
    on_ok_weaker c.run_script.result
    (run_is c.args.mib left (g.S.Source.left c.read_script.new.source)
    (g.K.Sink.taken c.args.sink.now) (g.K.Sink.taken c.run_script.new.sink) c.deref.result.now
    told c.run_script.new.machine (g.F.Files.map c.args.files.now)
    c.in-Ok-read_script.ensures.left)
    (c.run_script.ensures.served c.args.mib (ap length c.in-Ok.ensures.memory
    ∙ length-replicate (memory_size c.args.mib) 0)
    c.in-Ok.ensures.area)

pub returns-in-Ok-read_script-clause-refused : goal.returns-in-Ok-read_script-clause-refused
returns-in-Ok-read_script-clause-refused g c ended =
    let left = g.S.Source.left c.args.source.now in
    let told = subst (IsTextOf left) (sym c.deref.ensures.value) c.in-Ok-read_script.ensures.text in
    refused_is c.args.mib left (g.S.Source.left c.read_script.new.source)
    (g.K.Sink.taken c.args.sink.now) (g.K.Sink.taken c.run_script.new.sink) c.deref.result.now
    told c.run_script.new.machine
    c.in-Ok-read_script.ensures.left (c.run_script.ensures.refused ended)

pub returns-in-Ok-read_script-clause-cut : goal.returns-in-Ok-read_script-clause-cut
returns-in-Ok-read_script-clause-cut g c ended =
    let left = g.S.Source.left c.args.source.now in
    let told = subst (IsTextOf left) (sym c.deref.ensures.value) c.in-Ok-read_script.ensures.text in
    cut_is c.args.mib left (g.S.Source.left c.read_script.new.source)
    (g.K.Sink.taken c.args.sink.now) (g.K.Sink.taken c.run_script.new.sink) c.deref.result.now
    told c.run_script.new.machine (g.F.Files.map c.args.files.now)
    (c.run_script.ensures.cut c.args.mib (ap length c.in-Ok.ensures.memory
    ∙ length-replicate (memory_size c.args.mib) 0)
    c.in-Ok.ensures.area ended)

pub returns-in-Ok-read_script-clause-stopped : goal.returns-in-Ok-read_script-clause-stopped
returns-in-Ok-read_script-clause-stopped g c stop ended =
    let left = g.S.Source.left c.args.source.now in
    let told = subst (IsTextOf left) (sym c.deref.ensures.value) c.in-Ok-read_script.ensures.text in
    stopped_is c.args.mib left (g.S.Source.left c.read_script.new.source)
    (g.K.Sink.taken c.args.sink.now) (g.K.Sink.taken c.run_script.new.sink) c.deref.result.now
    told c.run_script.new.machine (may_stop stop) (g.F.Files.map c.args.files.now)
    (c.run_script.ensures.stopped c.args.mib stop (ap length c.in-Ok.ensures.memory
    ∙ length-replicate (memory_size c.args.mib) 0)
    c.in-Ok.ensures.area ended)
