use Rattle.std.proofs.Common.{◌≡◌, ◌∙◌, ◌+◌, ℕ, subst, refl, sym, ap, arith}
use Rattle.xv_hart.specs.Hart.{taken_by}
use Rattle.xv_top.specs.Manager.{world_of, idle_of}
use Rattle.xv_top.proofs.RunLemmas.{IsKept, turns_start, kept_goes_on, turns_end, entries_end}
use Rattle.xv_top.proofs.RunLemmas.{idle_few}
use Rattle.xv_top.proofs.manager.Manager.make_turns.Goals as goal
use Rattle.xv_top.proofs.manager.Manager.make_turns.Goals.{then-turn, else-turn}

pub loop-made-init : goal.loop-made-init
loop-made-init g c = record {
  going = record {
    so_far = turns_start c.args.turns
        (world_of c.args.self.now c.args.machine.now.mem) (taken_by c.args.machine.now.hart);
    all = λ none. (refl, refl);
  };
  sound = c.requires.sound;
  fit = c.requires.fit;
  size = refl;
  area = refl;
  turns = omega arith;
  few = omega arith;
  idle = omega arith;
}

pub loop-made-preserved : goal.loop-made-preserved
loop-made-preserved g c =
    let inv = c.loop-made.invariant in
    let bytes = c.args.machine.now.mem in
    let first = world_of c.args.self.now bytes in
    let now = world_of c.loop-made.self c.loop-made.machine.mem in
    let after = world_of c.turn.new.self c.turn.new.machine.mem in
    let turn = c.turn.ensures in
    let before = c.loop-made.idle in
    let so_far = inv.going.so_far in
    let idled : c.if-turn.idle ≡ before + idle_of c.turn.result = elim c.if-turn.branch [
      | then-turn w ↦ w.idle-is ∙ ap (λ b. before + idle_of b) (sym w.if-turn.true)
      | else-turn w ↦
          w.idle-is ∙ ((let e : before ≡ before + 0 = omega arith in e)
          ∙ ap (λ b. before + idle_of b) (sym w.if-turn.false))
    ] in
    let on = kept_goes_on c.args.turns c.loop-made._made first now after before
    (taken_by c.args.machine.now.hart) (taken_by c.loop-made.machine.hart)
    (taken_by c.turn.new.machine.hart)
    bytes c.loop-made.machine.mem c.turn.new.machine.mem c.args.self.now.host c.loop-made.self.host
    c.turn.new.self.host c.loop-made-test.true inv.going
    c.turn.result (turn.turn before so_far.work so_far.entries) turn.taken turn.kept in
    record {
      going = subst (λ (i : ℕ). IsKept c.args.turns (c.loop-made._made + 1) first after i
          (taken_by c.args.machine.now.hart) (taken_by c.turn.new.machine.hart) bytes
          c.turn.new.machine.mem c.args.self.now.host c.turn.new.self.host) (sym idled) on;
      sound = turn.sound;
      fit = turn.fit;
      size = turn.size ∙ inv.size;
      area = turn.area ∙ inv.area;
      turns = omega (arith, turn.turns, inv.turns);
      few = omega (arith, turn.few, inv.few);
      idle = omega (arith, idled, idle_few c.turn.result, inv.idle);
    }

pub returns-clause-end : goal.returns-clause-end
returns-clause-end g c =
    turns_end c.args.turns c.loop-made._made (world_of c.args.self.now c.args.machine.now.mem)
    (world_of c.loop-made.self c.loop-made.machine.mem) c.loop-made.idle
    (taken_by c.args.machine.now.hart) (taken_by c.loop-made.machine.hart)
    c.loop-made-test.false c.loop-made.invariant.going.so_far

pub returns-clause-kept : goal.returns-clause-kept
returns-clause-kept g c none =
    let inv = c.loop-made.invariant in
    inv.going.all
    (sym (entries_end c.args.turns c.loop-made._made
    (world_of c.args.self.now c.args.machine.now.mem)
    (world_of c.loop-made.self c.loop-made.machine.mem) c.loop-made.idle
    (taken_by c.args.machine.now.hart) (taken_by c.loop-made.machine.hart)
    c.loop-made-test.false inv.going.so_far)
    ∙ none)
