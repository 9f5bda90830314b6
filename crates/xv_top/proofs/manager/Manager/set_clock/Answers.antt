use Rattle.std.proofs.Common.{refl, codes}
use Rattle.std.proofs.lemmas.Bool.{cond-true, cond-false, lt-ltb, le-ltb}
use Rattle.xv_top.specs.Answer.{says}
use Rattle.xv_top.specs.Manager.{world_of}
use Rattle.xv_top.specs.Texts.{clock_text, refused_text}
use Rattle.xv_top.specs.World.{World}
use Rattle.xv_top.proofs.HostLemmas.{passed_sound}
use Rattle.xv_top.proofs.ManagerLemmas.{gives_by, gives_says, gives_text}
use Rattle.xv_top.proofs.manager.Manager.set_clock.Goals as goal

pub returns-then-value-self-clause-answer : goal.returns-then-value-self-clause-answer
returns-then-value-self-clause-answer c machine =
    let m = c.args.self.now in
    gives_text _ m machine _ (refused_text (codes "clock"))
    (cond-true _ _ _ (lt-ltb c.args.value m.clock c.if-value-self.true)) c.refused.ensures

pub returns-clause-answer : goal.returns-clause-answer
returns-clause-answer c machine =
    let m = c.args.self.now in
    let value = c.args.value in
    let w : World = record (world_of m machine.mem) { clock = value } in
    gives_by _ (says w (clock_text value))
    (cond-false _ _ _ (le-ltb value m.clock c.if-value-self.false))
    (gives_says m _ machine w _ (clock_text value) c.clock.ensures refl refl)

pub returns-clause-sound : goal.returns-clause-sound
returns-clause-sound c machine sound =
    passed_sound c.args.self.now _ machine refl refl sound.turns sound
