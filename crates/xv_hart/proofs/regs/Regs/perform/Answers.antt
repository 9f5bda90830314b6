use Rattle.std.proofs.Common.{◌∙◌, sym, ap}
use Rattle.xv_hart.proofs.StepLemmas.{done_by}
use Rattle.xv_hart.proofs.regs.Regs.perform.Goals as goal

pub returns-in-Jump-clause-came : goal.returns-in-Jump-clause-came
returns-in-Jump-clause-came g c = c.jump.ensures.came c.args.mem.now c.args.word c.args.next
    ∙ ap (done_by c.args.self.now c.args.mem.now c.args.word c.args.next) (sym c.in-Jump.is)

pub returns-in-Load-clause-came : goal.returns-in-Load-clause-came
returns-in-Load-clause-came g c = c.load.ensures.came c.args.word
    ∙ ap (done_by c.args.self.now c.args.mem.now c.args.word c.args.next) (sym c.in-Load.is)

pub returns-in-Store-clause-came : goal.returns-in-Store-clause-came
returns-in-Store-clause-came g c = c.store.ensures.came c.args.word
    ∙ ap (done_by c.args.self.now c.args.mem.now c.args.word c.args.next) (sym c.in-Store.is)

pub returns-in-LoadReserved-clause-came : goal.returns-in-LoadReserved-clause-came
returns-in-LoadReserved-clause-came g c = c.reserve.ensures.came c.args.word
    ∙ ap (done_by c.args.self.now c.args.mem.now c.args.word c.args.next) (sym c.in-LoadReserved.is)

pub returns-in-StoreConditional-clause-came : goal.returns-in-StoreConditional-clause-came
returns-in-StoreConditional-clause-came g c =
    c.store_reserved.ensures.came c.args.word
    ∙ ap (done_by c.args.self.now c.args.mem.now c.args.word c.args.next)
    (sym c.in-StoreConditional.is)

pub returns-in-Modify-clause-came : goal.returns-in-Modify-clause-came
returns-in-Modify-clause-came g c = c.modify.ensures.came c.args.word
    ∙ ap (done_by c.args.self.now c.args.mem.now c.args.word c.args.next) (sym c.in-Modify.is)

pub returns-in-FenceTranslations-clause-came : goal.returns-in-FenceTranslations-clause-came
returns-in-FenceTranslations-clause-came g c =
    c.fence_translations.ensures.came c.args.mem.now
    ∙ ap (done_by c.args.self.now c.args.mem.now c.args.word c.args.next)
    (sym c.in-FenceTranslations.is)

pub returns-in-EnvironmentCall-clause-came : goal.returns-in-EnvironmentCall-clause-came
returns-in-EnvironmentCall-clause-came g c =
    c.call.ensures.came c.args.mem.now c.args.word c.args.next
    ∙ ap (done_by c.args.self.now c.args.mem.now c.args.word c.args.next)
    (sym c.in-EnvironmentCall.is)

pub returns-in-SupervisorReturn-clause-came : goal.returns-in-SupervisorReturn-clause-came
returns-in-SupervisorReturn-clause-came g c =
    c.supervisor_return.ensures.came c.args.mem.now c.args.next
    ∙ ap (done_by c.args.self.now c.args.mem.now c.args.word c.args.next)
    (sym c.in-SupervisorReturn.is)

pub returns-in-WaitForInterrupt-clause-came : goal.returns-in-WaitForInterrupt-clause-came
returns-in-WaitForInterrupt-clause-came g c =
    c.wait.ensures.came c.args.mem.now c.args.next
    ∙ ap (done_by c.args.self.now c.args.mem.now c.args.word c.args.next)
    (sym c.in-WaitForInterrupt.is)
