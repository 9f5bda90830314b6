use Rattle.std.proofs.Common.{ap}
use Rattle.std.proofs.lemmas.Result.{on_ok_weaker}
use Rattle.xv_top.specs.Births.{tree_answer}
use Rattle.xv_top.specs.Manager.{world_of}
use Rattle.xv_top.proofs.ManagerLemmas.{gives_by}
use Rattle.xv_top.proofs.manager.Manager.of_bytes.Goals as goal

pub returns-in-Ok-clause-answer : goal.returns-in-Ok-clause-answer
returns-in-Ok-clause-answer c =
    on_ok_weaker c.of_tree.result
    (λ answer. gives_by _ _
    (ap (tree_answer (world_of c.args.self.now c.args.machine.now.mem) c.args.name.now)
    c.in-Ok.ensures.exact) answer) c.of_tree.ensures.answer
