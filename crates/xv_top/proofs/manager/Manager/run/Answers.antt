use Rattle.std.proofs.Common.{◌∙◌, ◌+◌, ◌<◌, ◌≤◌, ℕ, sym, ap, codes, arith}
use Rattle.std.proofs.lemmas.Bool.{cond-true, cond-false, lt-ltb, le-ltb}
use Rattle.xv_top.specs.Texts.{ran_text, refused_text}
use Rattle.xv_top.specs.World.{World, most_turns, run_of}
use Rattle.xv_top.specs.Commands.{ran_answer}
use Rattle.xv_top.specs.Manager.{world_of}
use Rattle.xv_top.proofs.ManagerLemmas.{gives_by, gives_text}
use Rattle.xv_top.proofs.manager.Manager.run.Goals as goal

pub returns-then-self-turns-clause-answer : goal.returns-then-self-turns-clause-answer
returns-then-self-turns-clause-answer g c =
    let m = c.args.self.now in
    let machine = c.args.machine.now in
    let w = world_of m machine.mem in
    let many : most_turns < w.turns + c.args.turns =
    omega (arith, c.if-self-turns.true, c.requires.sound.turns) in
    gives_text _ m machine _ (refused_text (codes "turns"))
    (cond-true _ _ _ (lt-ltb most_turns (w.turns + c.args.turns) many)) c.refused.ensures

pub returns-clause-answer : goal.returns-clause-answer
returns-clause-answer g c =
    let w = world_of c.args.self.now c.args.machine.now.mem in
    let run = run_of c.args.turns w in
    let few : w.turns + c.args.turns ≤ most_turns =
    omega (arith, c.if-self-turns.false, c.requires.sound.turns) in
    let made = c.make_turns-idle.ensures in
    gives_by _ (ran_answer c.args.turns run)
    (cond-false _ _ _ (le-ltb most_turns (w.turns + c.args.turns) few))
    (record {
      text = c.ran.ensures
          ∙ (ap (λ (t : ℕ). ran_text t c.from-2.result c.make_turns-idle.new.self.clock)
          c.from.ensures
          ∙ (ap (λ (i : ℕ). ran_text c.args.turns i c.make_turns-idle.new.self.clock)
          (c.from-2.ensures ∙ sym made.end.idle)
          ∙ ap (λ (x : World). ran_text c.args.turns run.idle x.clock) (sym made.end.world)));
      world = sym made.end.world;
      work = made.end.work;
      memory = λ none. (made.kept none).0;
      host = λ none. (made.kept none).1;
    })
