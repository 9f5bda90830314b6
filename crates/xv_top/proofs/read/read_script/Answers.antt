use Rattle.std.proofs.Common.{◌∙◌, ◌+◌, ◌++◌, length, take, drop, subst, sym, ap, arith}
use Rattle.std.proofs.lemmas.List.{length-append, length-take-le, length-drop, take-append-le}
use Rattle.xv_outside.specs.Outside.{EndsWithTheBytes, left_after}
use Rattle.xv_top.proofs.ReadLemmas.{IsFront, front_more, front_within, front_all, front_limit}
use Rattle.xv_top.proofs.ReadLemmas.{nothing_taken}
use Rattle.xv_top.proofs.read.read_script.Goals as goal

pub loop-chunk-preserved : goal.loop-chunk-preserved
loop-chunk-preserved g c =
    let a = c.in-Ok.ensures in
    let inv = c.loop-chunk.invariant in
    let buf = c.read.new.buf in
    let rest = drop c.min-most.result c.loop-chunk.chunk in
    let text = c.loop-chunk.text.items in
    let n = c.in-Ok.count in
    let now = c.in-Ok-extend_from_slice.ensures.items
    ∙ ap (λ t. text ++ t) (take-append-le n buf rest a.within) in
    let longer =
    ap length now
    ∙ (length-append text (take n buf)
    ∙ ap (λ k. length text + k) (length-take-le n buf a.within)) in
    let whole = length-append buf rest
    ∙ ap (λ k. length buf + k) (length-drop c.min-most.result c.loop-chunk.chunk) in
    record {
      front = subst (IsFront _ _) (sym now)
          (front_more (g.S.Source.left c.args.source.now) (g.S.Source.left c.loop-chunk.source)
          (g.S.Source.left c.read.new.self) text buf n inv.front a.front a.within a.moved);
      few = omega (
        arith,
        longer,
        a.within,
        c.read.auto.buf,
        c.min-most.ensures,
        c.len-in-loop-chunk.ensures,
        c.loop-chunk.text.ok.0,
        inv.chunk,
      );
      faults = a.quiet ∙ inv.faults;
      chunk = omega (arith, whole, c.read.auto.buf, c.min-most.ensures, inv.chunk);
    }

pub returns-in_default-extend_from_slice-clause-within :
    goal.returns-in_default-extend_from_slice-clause-within
returns-in_default-extend_from_slice-clause-within g c =
    let a = c.in-Ok.ensures in
    let inv = c.loop-chunk.invariant in
    let buf = c.read.new.buf in
    let text = c.loop-chunk.text.items in
    let n = c.in-Ok.count in
    let longer = length-append text (take n buf)
    ∙ ap (λ k. length text + k) (length-take-le n buf a.within) in
    let cut = length-take-le c.min-most.result c.loop-chunk.chunk
    (omega (arith, c.min-most.ensures, inv.chunk)) in
    front_within (g.S.Source.left c.args.source.now) (g.S.Source.left c.read.new.self)
    (text ++ take n buf)
    (front_more (g.S.Source.left c.args.source.now) (g.S.Source.left c.loop-chunk.source)
    (g.S.Source.left c.read.new.self) text buf n inv.front a.front a.within a.moved)
    (omega (
      arith,
      longer,
      cut,
      a.within,
      c.read.auto.buf,
      c.min-most.ensures,
      c.len-in-loop-chunk.ensures,
      c.loop-chunk.text.ok.0,
      inv.chunk,
    ))

pub returns-then-count-eq0-clause-text : goal.returns-then-count-eq0-clause-text
returns-then-count-eq0-clause-text g c =
    let inv = c.loop-chunk.invariant in
    let end = subst (EndsWithTheBytes (g.S.Source.left c.loop-chunk.source)) c.if-count-eq0.true
    c.in-Ok.ensures.end in
    (front_all (g.S.Source.left c.args.source.now) (g.S.Source.left c.loop-chunk.source)
    c.loop-chunk.text.items inv.front end inv.few).0

pub returns-then-count-eq0-clause-left : goal.returns-then-count-eq0-clause-left
returns-then-count-eq0-clause-left g c =
    let inv = c.loop-chunk.invariant in
    let end = subst (EndsWithTheBytes (g.S.Source.left c.loop-chunk.source)) c.if-count-eq0.true
    c.in-Ok.ensures.end in
    let same = c.in-Ok.ensures.moved
    ∙ (ap (left_after (g.S.Source.left c.loop-chunk.source)) c.if-count-eq0.true
    ∙ nothing_taken (g.S.Source.left c.loop-chunk.source)) in
    same ∙ (front_all (g.S.Source.left c.args.source.now) (g.S.Source.left c.loop-chunk.source)
    c.loop-chunk.text.items inv.front end inv.few).1

pub returns-clause-text : goal.returns-clause-text
returns-clause-text g c =
    let inv = c.loop-chunk.invariant in
    (front_limit (g.S.Source.left c.args.source.now) (g.S.Source.left c.loop-chunk.source)
    c.loop-chunk.text.items inv.front
    (omega (arith, c.loop-chunk-test.false, c.len.ensures, inv.few, c.loop-chunk.text.ok.0))).0

pub returns-clause-left : goal.returns-clause-left
returns-clause-left g c =
    let inv = c.loop-chunk.invariant in
    (front_limit (g.S.Source.left c.args.source.now) (g.S.Source.left c.loop-chunk.source)
    c.loop-chunk.text.items inv.front
    (omega (arith, c.loop-chunk-test.false, c.len.ensures, inv.few, c.loop-chunk.text.ok.0))).1
