use Rattle.std.proofs.Common.{◌∙◌, ◌%◌, ap}
use Rattle.xv_hart.proofs.StepLemmas.{sepc_aligned, return_ssip}
use Rattle.xv_hart.proofs.regs.Regs.supervisor_return.Goals as goal

pub returns-clause-formed : goal.returns-clause-formed
returns-clause-formed c = record {
  pc = ap (λ pc. pc % 4) c.leave-pc.ensures.pc
      ∙ sepc_aligned c.args.self.now.csrs c.requires.formed.csrs;
  csrs = c.leave-pc.ensures.keeps c.requires.formed.csrs;
  guest = c.requires.formed.guest;
  software = ap (λ csrs. csrs.ssip) c.leave-pc.ensures.registers
      ∙ (return_ssip c.args.self.now.csrs ∙ c.requires.formed.software);
}
