use Rattle.xv_fdt.proofs.WritingLemmas.{ends-more, ends-done}
use Rattle.xv_fdt.proofs.writing.put_ends.Goals as goal

pub loop-preserved : goal.loop-preserved
loop-preserved c =
    ends-more c.loop.out.items c.put_word.new.out.items c.args.count c.loop.counter _
    c.loop-test.true c.in_ok-put_word.ensures c.loop.invariant

pub returns : goal.returns
returns c = ends-done c.loop.out.items c.args.count c.loop.counter _ c.loop-test.false
    c.loop.invariant
