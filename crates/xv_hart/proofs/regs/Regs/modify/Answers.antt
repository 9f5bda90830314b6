use Rattle.xv_hcsr.specs.Stage.{root_of}
use Rattle.xv_hart.proofs.UnledLemmas.{wrote_unled}
use Rattle.xv_hart.proofs.regs.Regs.modify.Goals as goal

pub returns-clause-outside : goal.returns-clause-outside
returns-clause-outside g c =
    wrote_unled c.args.mem.now c.write.new.mem (root_of c.args.self.now.h) c.args.width c.in-Ok.at
    _ c.write.ensures.value c.in-Ok.ensures.inside c.in-Ok.ensures.aligned c.in-Ok.ensures.led
