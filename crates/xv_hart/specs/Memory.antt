-- The memory of the hart's guest, by what its registers say of it: the bus of its steps, and what
-- host memory needs for them.
use Rattle.std.specs.Prelude.{ℕ, List}
use Rattle.xv_hcsr.specs.Stage.{root_of}
use Rattle.xv_step.specs.Bus.{Bus}
use Rattle.xv_hart.specs.declared.regs.Regs.{Regs}
use Rattle.xv_hart.specs.Stage.{stage_bus, HasStage}

-- the root is hgatp's (Privileged Architecture 20211203, 8.2.10)
abbrev pub bus_of : Regs → (bytes : List ℕ) → Bus (List ℕ) ℕ
bus_of r bytes = stage_bus bytes (root_of r.h)

abbrev pub HasMemory : Regs → (bytes : List ℕ) → Type 0
HasMemory r bytes = HasStage bytes (root_of r.h)
