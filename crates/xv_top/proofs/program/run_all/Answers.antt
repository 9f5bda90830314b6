use Rattle.std.proofs.Common.{◌≡◌, ◌∙◌, ◌+◌, [], drop, take, Err, IsErrOf, refl, sym, ap}
use Rattle.std.proofs.Common.{subst, arith}
use Rattle.xv_hart.specs.Hart.{taken_by}
use Rattle.xv_top.specs.declared.stop.LineStop.{LineStop}
use Rattle.xv_top.specs.declared.stop.Stop.TheVariants.{InLine}
use Rattle.xv_top.specs.Manager.{may_stop, world_of}
use Rattle.xv_top.specs.Run.{HaveRun}
use Rattle.xv_top.proofs.FetchLemmas.{stands_also, stands_behind, stands_before, stands_at}
use Rattle.xv_top.proofs.FoldLemmas.{run_none, run_more, run_cut, run_stops, whole}
use Rattle.xv_top.proofs.program.run_all.Goals as goal

-- the stop of a line
in_line : (one stop : LineStop) → IsErrOf {T = Unit {0}} (Err (InLine one)) (InLine stop)
    → IsErrOf {T = Unit {0}} (Err one) stop
in_line one stop is = let same : one ≡ stop = cc in ap Err same

pub loop-line-init : goal.loop-line-init
loop-line-init g c =
    let first = world_of c.args.manager.now c.args.machine.now.mem in
    let taken = g.K.Sink.taken c.args.sink.now in
    record {
      run = λ told is. subst (HaveRun told [] first first taken taken) (sym c.requires.taken)
          (run_none told first taken);
      sound = c.requires.sound;
      fit = c.requires.fit;
      size = refl;
      area = refl;
      few = omega (arith, c.requires.taken);
      quiet = refl;
      map = refl;
      files_quiet = refl;
    }

pub loop-line-preserved : goal.loop-line-preserved
loop-line-preserved g c =
    let inv = c.loop-line.invariant in
    let ls = c.args.lines.now in
    let at = c.loop-line.line-index in
    let l = c.line-item.result in
    let first = world_of c.args.manager.now c.args.machine.now.mem in
    let now = world_of c.loop-line.manager c.loop-line.machine.mem in
    let after = world_of c.apply.new.self c.apply.new.machine.mem in
    record {
      run = λ told all.
          let is = stands_behind told ls at c.loop-line-test.true l c.line-item.is first all in
          let run = inv.run told
          (stands_before told ls at c.loop-line-test.true l c.line-item.is first is) in
          let gives = c.in-Ok.ensures.answer told (stands_also inv.map
          (stands_at told ls at c.loop-line-test.true l c.line-item.is first now run.world is)) in
          run_more told ls at c.loop-line-test.true
          l c.line-item.is first now after (g.K.Sink.taken c.args.sink.now)
          (g.K.Sink.taken c.loop-line.sink) (g.K.Sink.taken c.put.new.self)
          (taken_by c.loop-line.machine.hart) (taken_by c.apply.new.machine.hart)
          run c.bytes.result.now (c.bytes.ensures.printed ∙ gives.text)
          gives.world gives.work c.in-Ok-put.ensures.appended;
      sound = c.apply.ensures.sound;
      fit = c.apply.ensures.fit;
      size = c.apply.ensures.size ∙ inv.size;
      area = c.apply.ensures.area ∙ inv.area;
      few = omega (arith, c.apply.ensures.few, inv.few);
      quiet = c.in-Ok-put.ensures.quiet ∙ inv.quiet;
      map = c.apply.ensures.map ∙ inv.map;
      files_quiet = c.in-Ok.ensures.quiet ∙ inv.files_quiet;
    }

pub returns-in-Err-clause-stopped : goal.returns-in-Err-clause-stopped
returns-in-Err-clause-stopped g c stop ended =
    let inv = c.loop-line.invariant in
    let stopped = c.in-Err.ensures.stopped in
    let ls = c.args.lines.now in
    let at = c.loop-line.line-index in
    let l = c.line-item.result in
    let first = world_of c.args.manager.now c.args.machine.now.mem in
    let now = world_of c.loop-line.manager c.loop-line.machine.mem in
    let after = world_of c.apply.new.self c.apply.new.machine.mem in
    record {
      before = take at ls;
      line = l;
      after = drop (at + 1) ls;
      whole = whole ls at c.loop-line-test.true l c.line-item.is;
      ran = λ told is. run_stops told ls at c.loop-line-test.true
          l c.line-item.is first now after (g.K.Sink.taken c.args.sink.now)
          (g.K.Sink.taken c.loop-line.sink) (g.K.Sink.taken c.loop-line.sink)
          (taken_by c.loop-line.machine.hart) (taken_by c.apply.new.machine.hart)
          (inv.run told is) (may_stop stop)
          (c.in-Err.ensures.may stop (in_line c.in-Err.stop stop ended))
          (ap (λ m. world_of m c.apply.new.machine.mem) stopped.manager
          ∙ ap (world_of c.loop-line.manager) stopped.memory) stopped.taken refl;
    }

pub returns-in-Err-put-clause-cut : goal.returns-in-Err-put-clause-cut
returns-in-Err-put-clause-cut g c ended =
    let inv = c.loop-line.invariant in
    let ls = c.args.lines.now in
    let at = c.loop-line.line-index in
    let l = c.line-item.result in
    let first = world_of c.args.manager.now c.args.machine.now.mem in
    let now = world_of c.loop-line.manager c.loop-line.machine.mem in
    let after = world_of c.apply.new.self c.apply.new.machine.mem in
    record {
      before = take at ls;
      line = l;
      after = drop (at + 1) ls;
      whole = whole ls at c.loop-line-test.true l c.line-item.is;
      ran = λ told is.
          let run = inv.run told
          (stands_before told ls at c.loop-line-test.true l c.line-item.is first is) in
          let gives = c.in-Ok.ensures.answer told (stands_also inv.map
          (stands_at told ls at c.loop-line-test.true l c.line-item.is first now run.world is)) in
          run_cut told ls at c.loop-line-test.true
          l c.line-item.is first now after (g.K.Sink.taken c.args.sink.now)
          (g.K.Sink.taken c.loop-line.sink) (g.K.Sink.taken c.put.new.self)
          (taken_by c.loop-line.machine.hart) (taken_by c.apply.new.machine.hart)
          run c.bytes.result.now (c.bytes.ensures.printed ∙ gives.text)
          gives.world gives.work c.in-Err-put.ensures.front;
    }
