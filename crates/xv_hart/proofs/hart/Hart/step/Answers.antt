use Rattle.std.proofs.Common.{subst, sym}
use Rattle.xv_hcsr.specs.Stage.{root_of}
use Rattle.xv_hart.specs.Hart.{regs_of}
use Rattle.xv_hart.specs.Stage.{HasStage}
use Rattle.xv_hart.proofs.StepLemmas.{same_root}
use Rattle.xv_hart.proofs.UnledLemmas.{tables_stay, ground_stays, stage_stays}
use Rattle.xv_hart.proofs.hart.Hart.step.Goals as goal

pub returns-clause-tables : goal.returns-clause-tables
returns-clause-tables g c ground =
    tables_stay c.args.mem.now c.step.new.mem (root_of (regs_of c.args.self.now).h)
    c.step.ensures.outside ground

pub returns-clause-ground : goal.returns-clause-ground
returns-clause-ground g c ground =
    ground_stays c.args.mem.now c.step.new.mem (root_of (regs_of c.args.self.now).h)
    c.step.ensures.outside ground

pub returns-clause-memory : goal.returns-clause-memory
returns-clause-memory g c ground =
    let r = regs_of c.args.self.now in
    let bytes = c.args.mem.now in
    let now = c.step.new.mem in
    subst (HasStage now)
    (sym (same_root r bytes c.step.result c.step.new.self now c.step.ensures.step))
    (stage_stays bytes now (root_of r.h) c.step.ensures.outside ground c.requires.memory
    c.step.ensures.size)
