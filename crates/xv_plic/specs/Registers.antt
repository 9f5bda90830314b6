-- What the program's data are of the interrupt controller's automaton.
use Rattle.std.specs.Prelude.{ℕ, ◌<◌, Bool, List, [], ◌∷◌}
use Rattle.xv_bus.specs.declared.registers.PlicRegister.{PlicRegister}
use Rattle.xv_bus.specs.declared.registers.PlicRegister.TheVariants.{Priority, Pending, Enables}
use Rattle.xv_bus.specs.declared.registers.PlicRegister.TheVariants.{Threshold, Claim}
use Rattle.xv_bus.specs.Plic.{PlicUnit, context_line}
use Rattle.xv_plic.specs.declared.state.PlicState.{PlicState}

-- the controller with these registers
abbrev pub unit_of : ℕ → PlicState → PlicUnit
unit_of contexts state =
    record {
      contexts = contexts;
      priority = state.priority;
      pending = state.pending;
      in_service = state.in_service;
      enables = state.enables;
      threshold = state.threshold;
    }

-- a context that is there
abbrev pub IsContext : ℕ → ℕ → Type 0
IsContext contexts context = (context < contexts) × (context < 8)

-- a register of a controller with so many contexts
abbrev pub IsRegister : ℕ → PlicRegister → Type 0
IsRegister contexts (Priority id) = (0 < id) × (id < 64)
IsRegister contexts (Pending half) = Unit {0}
IsRegister contexts (Enables context half) = IsContext contexts context
IsRegister contexts (Threshold context) = IsContext contexts context
IsRegister contexts (Claim context) = IsContext contexts context

-- the lines of eight contexts
abbrev pub lines_of : PlicUnit → List Bool
lines_of plic =
    context_line plic 0 ∷ context_line plic 1 ∷ context_line plic 2 ∷ context_line plic 3
    ∷ context_line plic 4 ∷ context_line plic 5 ∷ context_line plic 6 ∷ context_line plic 7 ∷ []
