use Rattle.xv_fdt.proofs.WritingLemmas.{zeros-more}
use Rattle.xv_fdt.proofs.writing.put_zeros.Goals as goal

pub loop-preserved : goal.loop-preserved
loop-preserved c =
    zeros-more c.loop.out.items c.push.new.self.items c.args.count c.loop.counter _ c.loop-test.true
    c.in_ok-push.ensures.items c.loop.invariant
