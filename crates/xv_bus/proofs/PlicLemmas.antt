-- No access changes how many contexts an interrupt controller has.
use Rattle.std.proofs.Common.{◌≡◌, ℕ, ◌%◌, ◌==◌, Bool, true, false, Option, Some, None, refl}
use Rattle.std.proofs.Common.{if◌then◌else◌}
use Rattle.std.specs.Option.{option_map_or}
use Rattle.xv_base.specs.Bits.{with_bit}
use Rattle.xv_bus.specs.declared.access.Access.{Access}
use Rattle.xv_bus.specs.declared.access.Access.TheVariants.{Load, Store}
use Rattle.xv_bus.specs.declared.access.Outcome.TheVariants.{Refused}
use Rattle.xv_bus.specs.declared.access.Width.TheVariants.{W1, W2, W4, W8}
use Rattle.xv_bus.specs.declared.registers.PlicRegister.{PlicRegister}
use Rattle.xv_bus.specs.declared.registers.PlicRegister.TheVariants.{Priority, Pending, Enables}
use Rattle.xv_bus.specs.declared.registers.PlicRegister.TheVariants.{Threshold, Claim}
use Rattle.xv_bus.specs.Device.{Answer, answer}
use Rattle.xv_bus.specs.Plic.{PlicUnit, plic_accessed, plic_load, plic_store, plic_after_read}
use Rattle.xv_bus.specs.Plic.{plic_written, plic_register, load_answer, store_answer, claim}
use Rattle.xv_bus.specs.Plic.{claimed, is_served, lifted}

after_read-contexts : (plic : PlicUnit) (register : PlicRegister)
    → (plic_after_read plic register).contexts ≡ plic.contexts
unfolding plic_after_read
after_read-contexts plic (Priority id) = refl
after_read-contexts plic (Pending half) = refl
after_read-contexts plic (Enables context half) = refl
after_read-contexts plic (Threshold context) = refl
after_read-contexts plic (Claim context) = either (claim plic context)
  where
    either : (first : Option ℕ) → (option_map_or (claimed plic) first plic).contexts ≡ plic.contexts
    either None = refl
    either (Some id) = refl

written-contexts : (plic : PlicUnit) (register : PlicRegister) (value : ℕ)
    → (plic_written plic register value).contexts ≡ plic.contexts
unfolding plic_written
written-contexts plic (Priority id) value = refl
written-contexts plic (Pending half) value = refl
written-contexts plic (Enables context half) value = refl
written-contexts plic (Threshold context) value = refl
written-contexts plic (Claim context) value = either (is_served plic context value)
  where
    either : (served : Bool)
        → (if served then record plic { in_service = with_bit value false plic.in_service }
        else plic).contexts ≡ plic.contexts
    either true = refl
    either false = refl

load-contexts : (plic : PlicUnit) (register : Option PlicRegister)
    → (load_answer plic register).device.contexts ≡ plic.contexts
load-contexts plic None = refl
load-contexts plic (Some register) = after_read-contexts plic register

store-contexts : (plic : PlicUnit) (value : ℕ) (register : Option PlicRegister)
    → (store_answer plic value register).device.contexts ≡ plic.contexts
store-contexts plic value None = refl
store-contexts plic value (Some register) = written-contexts plic register value

aligned-contexts : (plic : PlicUnit) (aligned : Bool) (given : Answer PlicUnit)
    → given.device.contexts ≡ plic.contexts
    → (if aligned then given else answer plic Refused).device.contexts ≡ plic.contexts
aligned-contexts plic true given same = same
aligned-contexts plic false given same = refl

pub accessed-contexts : (plic : PlicUnit) (at : ℕ) (access : Access)
    → (plic_accessed plic at access).device.contexts ≡ plic.contexts
unfolding plic_accessed
accessed-contexts plic at (Load W1) = refl
accessed-contexts plic at (Load W2) = refl
accessed-contexts plic at (Load W4) =
    aligned-contexts plic (at % 4 == 0) (plic_load plic at)
    (load-contexts plic (plic_register plic.contexts at))
accessed-contexts plic at (Load W8) = refl
accessed-contexts plic at (Store W1 value) = refl
accessed-contexts plic at (Store W2 value) = refl
accessed-contexts plic at (Store W4 value) =
    aligned-contexts plic (at % 4 == 0) (plic_store plic at value)
    (store-contexts plic value (plic_register plic.contexts at))
accessed-contexts plic at (Store W8 value) = refl

pub lifted-contexts : (lines : ℕ) (plic : PlicUnit) → (lifted lines plic).contexts ≡ plic.contexts
unfolding lifted
lifted-contexts lines plic = refl

pub ruleset contexts_stay = (accessed-contexts, lifted-contexts)
