use Rattle.std.proofs.Common.{◌≡◌, ◌+◌, ◌*◌, ◌≤◌, length}
use Rattle.std.specs.List.{All}
use Rattle.xv_hart.specs.Hart.{regs_of, taken_by, trail_of}
use Rattle.xv_hart.specs.Machine.{IsFit}
use Rattle.xv_hart.specs.Step.{IsWellFormed}
use Rattle.xv_hcsr.specs.Stage.{root_of}
use Rattle.xv_guest.specs.Guest.{held_of}
use Rattle.xv_host.specs.Join.{IsGoodFor}
use Rattle.xv_firmware.specs.Calls.{Leaves}
use Rattle.xv_host.specs.OnHart.{IsOnHart, IsViewAt}
use Rattle.xv_host.proofs.TurnLemmas.{IsTurning}
use Rattle.xv_host.proofs.turn.run.Given as goal

-- so many lone steps of the turn are made, each with its piece of the trail
abbrev pub invariant-loop-made : goal.invariant-loop-made
invariant-loop-made g l =
    let hart = l.machine.hart in
    let first = l.fn.guest in
    record {
      same : Leaves first l.guest;
      view : IsViewAt l.guest l.vcpu l.view;
      turning : IsTurning first l.vcpu l.time l.view l.fn.machine.mem l.guest l._made
          (regs_of hart) l.machine.mem (trail_of hart);
      on : IsOnHart first l.time (regs_of hart);
      formed : IsWellFormed (regs_of hart);
      roots : All (λ r. root_of r.h ≡ first.key) (trail_of hart);
      few : length (trail_of hart) ≤ 13 * l._made;
      taken : taken_by hart ≡ taken_by l.fn.machine.hart + length (trail_of hart);
      counted : l.steps ≤ l.fn.steps + 66 * length (trail_of hart);
      good : IsGoodFor (held_of first) l.fn.machine.mem l.machine.mem;
      area : l.machine.area ≡ l.fn.machine.area;
      fit : IsFit l.machine;
    }
