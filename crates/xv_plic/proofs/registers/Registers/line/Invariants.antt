use Rattle.std.proofs.Common.{◌≡◌, ℕ, ◌<◌, false}
use Rattle.xv_bus.specs.Plic.{is_above_threshold}
use Rattle.xv_plic.proofs.registers.Registers.line.Given as goal

abbrev pub invariant-loop-id : goal.invariant-loop-id
invariant-loop-id l = (k : ℕ) → k < l.id → is_above_threshold l.self l.context k ≡ false
