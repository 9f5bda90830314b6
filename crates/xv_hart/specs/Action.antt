-- The hart's own forms of what an instruction asks for, as the instruction table has it.
use Rattle.std.specs.Prelude.{ℕ, ◌<◌, ◌*◌, ◌^◌}
use Rattle.xv_isa.specs.Effects as effects
use Rattle.xv_hart.specs.declared.action.Action.{Action}
use Rattle.xv_hart.specs.declared.action.Action.TheVariants as action
use Rattle.xv_hart.specs.declared.action.CsrChange.{CsrChange}
use Rattle.xv_hart.specs.declared.action.CsrChange.TheVariants as change
use Rattle.xv_hart.specs.declared.action.Width.{Width}
use Rattle.xv_hart.specs.declared.action.Width.TheVariants.{W1, W2, W4, W8}

abbrev pub bytes_of : Width → ℕ
bytes_of W1 = 1
bytes_of W2 = 2
bytes_of W4 = 4
bytes_of W8 = 8

abbrev pub change_of : CsrChange → effects.CsrChange
change_of (change.Written value) = effects.Written value
change_of (change.BitsSet value) = effects.BitsSet value
change_of (change.BitsCleared value) = effects.BitsCleared value
change_of change.Unwritten = effects.Unwritten

abbrev pub action_of : Action → effects.Action
action_of (action.Set rd value) = effects.Set rd value
action_of (action.Jump target rd link) = effects.Jump target rd link
action_of (action.Load width signed va rd) =
    effects.Plain (effects.Load (bytes_of width) signed va rd)
action_of (action.Store width va value) = effects.Plain (effects.Store (bytes_of width) va value)
action_of (action.LoadReserved width va rd) = effects.LoadReserved (bytes_of width) va rd
action_of (action.StoreConditional width va value rd) =
    effects.StoreConditional (bytes_of width) va value rd
action_of (action.Modify op width va value rd) = effects.Modify op (bytes_of width) va value rd
action_of (action.AccessCsr number change rd) = effects.AccessCsr number (change_of change) rd
action_of action.FenceTranslations = effects.FenceTranslations
action_of action.Continue = effects.Continue
action_of action.EnvironmentCall = effects.EnvironmentCall
action_of action.Breakpoint = effects.Breakpoint
action_of action.SupervisorReturn = effects.SupervisorReturn
action_of action.WaitForInterrupt = effects.WaitForInterrupt

-- registers are below 32, and what is stored has no more bytes than the access
abbrev pub Fits : Action → Type 0
Fits (action.Set rd value) = rd < 32
Fits (action.Jump target rd link) = rd < 32
Fits (action.Load width signed va rd) = rd < 32
Fits (action.Store width va value) = value < 2 ^ (8 * bytes_of width)
Fits (action.LoadReserved width va rd) = rd < 32
Fits (action.StoreConditional width va value rd) = (rd < 32) × (value < 2 ^ (8 * bytes_of width))
Fits (action.Modify op width va value rd) = rd < 32
Fits (action.AccessCsr number change rd) = rd < 32
Fits action.FenceTranslations = Unit {0}
Fits action.Continue = Unit {0}
Fits action.EnvironmentCall = Unit {0}
Fits action.Breakpoint = Unit {0}
Fits action.SupervisorReturn = Unit {0}
Fits action.WaitForInterrupt = Unit {0}
