use Rattle.xv_csr.proofs.KeptLemmas.{satp_mode}
use Rattle.xv_hart.proofs.regs.Regs.walk.Goals as goal

pub translated-requires-clause-mode : goal.translated-requires-clause-mode
translated-requires-clause-mode g c =
    satp_mode c.args.self.now.csrs.satp c.requires.formed.csrs.satp
