use Rattle.std.proofs.Common.{◌∙◌, ap, get_or}
use Rattle.xv_hcsr.specs.Stage.{root_of}
use Rattle.xv_hart.proofs.UnledLemmas.{wrote_unled}
use Rattle.xv_hart.proofs.regs.Regs.store_reserved.Goals as goal
use Rattle.xv_hart.proofs.regs.Regs.store_reserved.Goals.{then-reserved, else-reserved}

pub returns-clause-outside : goal.returns-clause-outside
returns-clause-outside g c i unled = elim c.if-reserved.branch [
  | then-reserved w ↦ ap (λ bytes. get_or bytes i 0) w.mem-is
      ∙ wrote_unled c.args.mem.now w.write.new.mem (root_of c.args.self.now.h) c.args.width
      c.in-Ok.at _ w.write.ensures.value c.in-Ok.ensures.inside c.in-Ok.ensures.aligned
      c.in-Ok.ensures.led i unled
  | else-reserved w ↦ ap (λ bytes. get_or bytes i 0) w.mem-is
]
