use Rattle.std.proofs.Common.{refl}
use Rattle.xv_top.specs.Manager.{world_of}
use Rattle.xv_top.specs.Texts.{tick_text}
use Rattle.xv_top.specs.World.{World}
use Rattle.xv_top.proofs.HostLemmas.{passed_sound}
use Rattle.xv_top.proofs.ManagerLemmas.{gives_says}
use Rattle.xv_top.proofs.manager.Manager.set_tick.Goals as goal

pub returns-clause-answer : goal.returns-clause-answer
returns-clause-answer c machine =
    let m = c.args.self.now in
    let w : World = record (world_of m machine.mem) { tick = c.args.value } in
    gives_says m _ machine w _ (tick_text c.args.value) c.tick.ensures refl refl

pub returns-clause-sound : goal.returns-clause-sound
returns-clause-sound c machine sound =
    passed_sound c.args.self.now _ machine refl refl sound.turns sound
