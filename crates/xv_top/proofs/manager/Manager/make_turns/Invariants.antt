use Rattle.std.proofs.Common.{◌≡◌, ◌+◌, ◌*◌, ◌≤◌, length}
use Rattle.xv_hart.specs.Hart.{taken_by}
use Rattle.xv_hart.specs.Machine.{IsFit}
use Rattle.xv_top.specs.Manager.{world_of, IsSound}
use Rattle.xv_top.proofs.RunLemmas.{IsKept}
use Rattle.xv_top.proofs.manager.Manager.make_turns.Given as goal

abbrev pub invariant-loop-made : goal.invariant-loop-made
invariant-loop-made g l = record {
  going : IsKept l.turns l._made (world_of l.fn.self l.fn.machine.mem)
      (world_of l.self l.machine.mem) l.idle (taken_by l.fn.machine.hart) (taken_by l.machine.hart)
      l.fn.machine.mem l.machine.mem l.fn.self.host l.self.host;
  sound : IsSound l.self l.machine;
  fit : IsFit l.machine;
  size : length l.machine.mem ≡ length l.fn.machine.mem;
  turns : l.self.turns ≤ l.fn.self.turns + l._made;
  area : l.machine.area ≡ l.fn.machine.area;
  few : taken_by l.machine.hart ≤ taken_by l.fn.machine.hart + 13000 * l._made;
  idle : l.idle ≤ l._made;
}
