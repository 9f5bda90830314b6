use Rattle.std.proofs.Common.{◌≡◌, ◌∙◌, ℕ, [], length, subst, refl, sym, ap, arith}
use Rattle.std.specs.List.{All}
use Rattle.std.proofs.lemmas.List.Elements.{All-nil, All-append}
use Rattle.xv_hart.specs.Hart.{regs_of, trail_of}
use Rattle.xv_hart.specs.Step.{IsWellFormed}
use Rattle.xv_lone.specs.Ready.{has_interrupt}
use Rattle.xv_lone.specs.declared.vcpu.HartState.TheVariants.{Started}
use Rattle.xv_guest.specs.Guest.{held_of, lone_of}
use Rattle.xv_guest.specs.Held.{Held}
use Rattle.xv_host.specs.Change.{time_of}
use Rattle.xv_host.specs.Join.{IsGoodFor}
use Rattle.xv_firmware.specs.declared.calls.Progress.TheVariants.{Goes}
use Rattle.xv_host.specs.OnHart.{regs_of_vcpu, Grows, IsOnHart, IsTurned, Shows}
use Rattle.xv_hcsr.specs.Stage.{root_of}
use Rattle.xv_host.proofs.BegunLemmas.{begun_time, begun_formed, begun_root}
use Rattle.xv_host.proofs.StageLemmas.{good_both, good_first, may_again}
use Rattle.xv_host.proofs.TurnLemmas.{IsTurning, held_now, key_now, may_now, on_first, on_now}
use Rattle.xv_host.proofs.TurnLemmas.{leaves_next, turning_ends, turning_goes_on}
use Rattle.xv_host.proofs.TurnLemmas.{turning_starts, turning_stops, piece_few, piece_some}
use Rattle.xv_host.proofs.turn.run.Goals as goal

pub loop-made-init : goal.loop-made-init
loop-made-init g c =
    let guest = c.args.guest.now in
    let h = c.args.vcpu in
    let v = c.args.view.now in
    let first = c.args.machine.now.mem in
    let clock = c.args.clock in
    let t = c.time_at-time.result in
    let begun = c.requires.begun in
    let none = c.requires.trail in
    record {
      same = refl;
      view = record { at = c.requires.may.vcpu; kept = c.requires.may.view };
      turning = subst (λ r. IsTurning guest h t v first guest 0 r first
          (trail_of c.args.machine.now.hart)) (sym begun)
          (subst (IsTurning guest h t v first guest 0 (regs_of_vcpu guest h clock v) first)
          (sym none) (turning_starts guest h t v first c.requires.may.vcpu clock
          (has_interrupt h (time_of guest clock) (lone_of guest []) v) c.requires.ready));
      on = subst (IsOnHart guest t) (sym begun)
          (record {
            root = begun_root guest h clock v c.requires.may.small;
            time = begun_time guest h clock v ∙ sym c.time_at-time.ensures;
            reserved = tt {0};
          });
      formed = subst IsWellFormed (sym begun)
          (begun_formed guest h clock v c.requires.may.small c.requires.may.view);
      roots = subst (All (λ r. root_of r.h ≡ guest.key)) (sym none)
          (All-nil (λ r. root_of r.h ≡ guest.key));
      few = omega (arith, ap length none);
      taken = omega (arith, ap length none);
      counted = omega (arith, ap length none);
      good = good_first (held_of guest) first c.requires.may.held;
      area = refl;
      fit = c.requires.fit;
    }

pub lone_step-progress-requires-clause-may : goal.lone_step-progress-requires-clause-may
lone_step-progress-requires-clause-may g c =
    let inv = c.loop-made.invariant in
    let guest = c.args.guest.now in
    let v = c.args.view.now in
    may_now guest c.loop-made.guest inv.same c.args.vcpu v c.loop-made.view c.loop-made.machine.mem
    (may_again guest c.args.vcpu v c.args.machine.now.mem c.loop-made.machine.mem c.requires.may
    inv.good) inv.view

pub lone_step-progress-requires-clause-on : goal.lone_step-progress-requires-clause-on
lone_step-progress-requires-clause-on g c =
    let inv = c.loop-made.invariant in
    on_now c.args.guest.now c.loop-made.guest inv.same c.time_at-time.result
    (regs_of c.loop-made.machine.hart) inv.on

pub loop-made-preserved : goal.loop-made-preserved
loop-made-preserved g c =
    let inv = c.loop-made.invariant in
    let guest = c.args.guest.now in
    let here = c.loop-made.guest in
    let there = c.lone_step-progress.new.guest in
    let h = c.args.vcpu in
    let v = c.args.view.now in
    let first = c.args.machine.now.mem in
    let before = c.loop-made.machine in
    let after = c.lone_step-progress.new.machine in
    let step = c.lone_step-progress.ensures in
    let r = regs_of before.hart in
    let progress = c.lone_step-progress.result in
    let started = c.is_started.ensures.started c.if-not-is_started.false in
    let u = c.lone_step-progress.new.view in
    let grows = subst (λ (k : ℕ). Grows k r (trail_of before.hart) (trail_of after.hart))
    (key_now guest here inv.same) step.trail in
    let good = subst (λ (g : Held). IsGoodFor g before.mem after.mem)
    (held_now guest here inv.same) step.good in
    record {
      same = leaves_next guest here inv.same there step.leaves;
      view = subst (λ p. Shows p there h u) started step.view;
      turning = turning_goes_on guest h c.time_at-time.result v first c.requires.may.vcpu here there
          inv.same c.loop-made.view u inv.view.at r (regs_of after.hart) before.mem after.mem
          progress
          step.stepped
          c.loop-made._made c.loop-made-test.true (trail_of before.hart) (trail_of after.hart)
          inv.turning guest.key grows started;
      on = on_first guest here inv.same c.time_at-time.result (regs_of after.hart) step.on;
      formed = step.formed;
      roots = subst (All (λ r. root_of r.h ≡ guest.key)) (sym grows.grown)
          (All-append (λ r. root_of r.h ≡ guest.key) (trail_of before.hart) grows.piece
          inv.roots grows.root);
      few = omega (
        arith,
        piece_few guest.key r (trail_of before.hart) (trail_of after.hart) grows,
        inv.few,
      );
      taken = omega (arith, step.taken, inv.taken);
      counted = omega (
        arith,
        piece_some guest.key r (trail_of before.hart) (trail_of after.hart) grows,
        step.counted,
        inv.counted,
      );
      good = good_both (held_of guest) first before.mem after.mem inv.good good;
      area = step.area ∙ inv.area;
      fit = step.room ∙ inv.fit;
    }

pub returns-then-not-is_started : goal.returns-then-not-is_started
returns-then-not-is_started g c =
    let inv = c.loop-made.invariant in
    let guest = c.args.guest.now in
    let here = c.loop-made.guest in
    let there = c.lone_step-progress.new.guest in
    let h = c.args.vcpu in
    let v = c.args.view.now in
    let u = c.lone_step-progress.new.view in
    let first = c.args.machine.now.mem in
    let before = c.loop-made.machine in
    let after = c.lone_step-progress.new.machine in
    let step = c.lone_step-progress.ensures in
    let r = regs_of before.hart in
    let progress = c.lone_step-progress.result in
    let grows = subst (λ (k : ℕ). Grows k r (trail_of before.hart) (trail_of after.hart))
    (key_now guest here inv.same) step.trail in
    let good = subst (λ (g : Held). IsGoodFor g before.mem after.mem)
    (held_now guest here inv.same) step.good in
    record {
      turn = subst (λ t. IsTurned guest h u t first there (regs_of after.hart) after.mem
          (trail_of after.hart) progress) c.time_at-time.ensures
          (turning_stops guest h c.time_at-time.result v first c.requires.may.vcpu here there
          inv.same c.loop-made.view u inv.view.at r (regs_of after.hart) before.mem after.mem
          progress
          step.stepped c.loop-made._made c.loop-made-test.true (trail_of before.hart) (trail_of
          after.hart)
          inv.turning guest.key grows (c.is_started.ensures.ended c.if-not-is_started.true)
          step.view);
      leaves = leaves_next guest here inv.same there step.leaves;
      view = step.view;
      formed = step.formed;
      root = subst (All (λ r. root_of r.h ≡ guest.key)) (sym grows.grown)
          (All-append (λ r. root_of r.h ≡ guest.key) (trail_of before.hart) grows.piece
          inv.roots grows.root);
      taken = omega (arith, step.taken, inv.taken);
      few = omega (
        arith,
        piece_few guest.key r (trail_of before.hart) (trail_of after.hart) grows,
        inv.few,
        c.loop-made-test.true,
      );
      counted = omega (
        arith,
        piece_some guest.key r (trail_of before.hart) (trail_of after.hart) grows,
        step.counted,
        inv.counted,
      );
      good = good_both (held_of guest) first before.mem after.mem inv.good good;
      area = step.area ∙ inv.area;
      fit = step.room ∙ inv.fit;
    }

pub returns-clause-turn : goal.returns-clause-turn
returns-clause-turn g c =
    let inv = c.loop-made.invariant in
    let now = c.loop-made.machine in
    let first = c.args.machine.now.mem in
    let guest = c.args.guest.now in
    let h = c.args.vcpu in
    let v = c.args.view.now in
    let w = c.loop-made.view in
    subst (λ t. IsTurned guest h w t first c.loop-made.guest (regs_of now.hart) now.mem
    (trail_of now.hart) (Goes Started)) c.time_at-time.ensures
    (turning_ends guest h c.time_at-time.result v first c.requires.may.vcpu c.loop-made.guest w
    c.loop-made._made (regs_of now.hart) now.mem (trail_of now.hart) c.loop-made-test.false
    inv.turning)
