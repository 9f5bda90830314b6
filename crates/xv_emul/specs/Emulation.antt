-- A plain load or store as an access to a device, and what the value of a load becomes
-- (Unprivileged ISA 20191213, section 2.6). Which access an instruction makes is said by its effect
-- alone.
use Rattle.std.specs.Prelude.{ℕ, ◌==◌, Bool, true, false, if◌then◌else◌, List, Option, Some, None}
use Rattle.std.specs.Prelude.{option_map}
use Rattle.xv_isa.specs.declared.instruction.Insn.{Insn}
use Rattle.xv_isa.specs.Effects as effects
use Rattle.xv_isa.specs.Effects.{effect_of, extended, low_bytes}
use Rattle.xv_bus.specs.declared.access.Access.{Access}
use Rattle.xv_bus.specs.declared.access.Access.TheVariants as access
use Rattle.xv_bus.specs.declared.access.Width.{Width}
use Rattle.xv_bus.specs.declared.access.Width.TheVariants.{W1, W2, W4, W8}
use Rattle.xv_step.specs.State.{with_register}

-- the width of 1, 2, 4 or 8 bytes
abbrev pub width_named : ℕ → Width
width_named bytes =
    if bytes == 1 then W1 else if bytes == 2 then W2 else if bytes == 4 then W4 else W8

-- a plain access as a device sees it: without its address and its register
abbrev pub at_bus : effects.Access → Access
at_bus (effects.Load width signed va rd) = access.Load (width_named width)
at_bus (effects.Store width va value) = access.Store (width_named width) value

-- the plain access that an action asks for
abbrev pub plain_of : effects.Action → Option effects.Access
plain_of (effects.Plain plain) = Some plain
plain_of (effects.Set rd value) = None
plain_of (effects.Jump target rd link) = None
plain_of (effects.LoadReserved width va rd) = None
plain_of (effects.StoreConditional width va value rd) = None
plain_of (effects.Modify op width va value rd) = None
plain_of (effects.AccessCsr number change rd) = None
plain_of effects.FenceTranslations = None
plain_of effects.Continue = None
plain_of effects.EnvironmentCall = None
plain_of effects.Breakpoint = None
plain_of effects.SupervisorReturn = None
plain_of effects.WaitForInterrupt = None

-- and that an instruction makes, for which neither its own address nor the next one's matters
unfoldable pub access_of : Insn → (x : List ℕ) → Option effects.Access
access_of i x = plain_of (effect_of i x 0 0)

-- the access of a device that an instruction makes
abbrev pub emulated : Insn → (x : List ℕ) → Option Access
emulated i x = option_map at_bus (access_of i x)

-- the registers after a load got this value, of which its bytes count alone
abbrev pub written_back : effects.Access → (value : ℕ) → (x : List ℕ) → List ℕ
written_back (effects.Load width signed va rd) value x =
    with_register rd (extended signed width (low_bytes width value)) x
written_back (effects.Store width va stored) value x = x

abbrev pub after_load : Option effects.Access → (value : ℕ) → (x : List ℕ) → List ℕ
after_load None value x = x
after_load (Some plain) value x = written_back plain value x

abbrev pub is_load : Option effects.Access → Bool
is_load None = false
is_load (Some (effects.Load width signed va rd)) = true
is_load (Some (effects.Store width va value)) = false

-- whether it is a load, as the device sees it
abbrev pub is_bus_load : Option Access → Bool
is_bus_load None = false
is_bus_load (Some (access.Load width)) = true
is_bus_load (Some (access.Store width value)) = false
