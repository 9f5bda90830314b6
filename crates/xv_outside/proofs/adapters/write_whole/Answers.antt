use Rattle.std.proofs.Common.{◌+◌, arith}
use Rattle.std.proofs.lemmas.List.{length-drop}
use Rattle.xv_outside.proofs.Tries.{appends_more, appends_keeps, appends_front}
use Rattle.xv_outside.proofs.adapters.write_whole.Goals as goal

pub loop-at-preserved : goal.loop-at-preserved
loop-at-preserved g c = (
  appends_more (g.W.Write.contents c.args.writer.now) (g.W.Write.contents c.loop-at.writer)
      (g.W.Write.contents c.write_some.new.writer) c.args.piece.now c.loop-at.at c.in-Ok.n
      c.loop-at.invariant.0 c.in-Ok.ensures.bytes,
  omega (
    arith,
    c.loop-at.invariant.1,
    c.in-Ok.ensures.within,
    length-drop c.loop-at.at c.args.piece.now,
  ),
)

pub returns-in-Ok-eq0-clause-front : goal.returns-in-Ok-eq0-clause-front
returns-in-Ok-eq0-clause-front g c =
    appends_front (g.W.Write.contents c.args.writer.now)
    (g.W.Write.contents c.write_some.new.writer) c.args.piece.now
    (c.loop-at.at + c.in-Ok-eq0.field-0)
    (appends_more (g.W.Write.contents c.args.writer.now) (g.W.Write.contents c.loop-at.writer)
    (g.W.Write.contents c.write_some.new.writer) c.args.piece.now c.loop-at.at
    c.in-Ok-eq0.field-0 c.loop-at.invariant.0 c.in-Ok-eq0.ensures.bytes)

pub returns-in-Err-clause-front : goal.returns-in-Err-clause-front
returns-in-Err-clause-front g c =
    appends_front (g.W.Write.contents c.args.writer.now)
    (g.W.Write.contents c.write_some.new.writer) c.args.piece.now c.loop-at.at
    (appends_keeps (g.W.Write.contents c.args.writer.now) (g.W.Write.contents c.loop-at.writer)
    (g.W.Write.contents c.write_some.new.writer) _ c.loop-at.invariant.0 c.in-Err.ensures.bytes)
