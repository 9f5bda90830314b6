-- A turn: the lone steps of one VCPU, one after another.
use Rattle.std.specs.Prelude.{ℕ, zero, suc, Bool, true, false, if◌then◌else◌, List, [], ◌∷◌, ◌++◌}
use Rattle.std.specs.Prelude.{length, Option, Some, None, option_map, slice_get}
use Rattle.xv_csr.specs.declared.SCsrs.{SCsrs}
use Rattle.xv_lone.specs.declared.vcpu.VcpuView.{VcpuView}
use Rattle.xv_lone.specs.declared.vcpu.HartState.{HartState}
use Rattle.xv_lone.specs.declared.vcpu.HartState.TheVariants.{Started, Waiting, Suspended, Stopped}
use Rattle.xv_lone.specs.declared.vcpu.TurnEnd.{TurnEnd}
use Rattle.xv_lone.specs.declared.vcpu.TurnEnd.TheVariants.{Spent, Waits, Stops, Halted, Rebooted}
use Rattle.xv_region.specs.Plan.{Plan}
use Rattle.xv_lone.specs.Machine.{Machine, on_vcpu}
use Rattle.xv_lone.specs.Step.{OnHart, Onward, On, Halts, Reboots, After, lone_step}

-- s where there is none, and else what follows it
abbrev pub or_on : {S : Type 0} → (S → S) → S → Option S → S
or_on next s None = s
or_on next s (Some t) = next t

-- f, time after time, n times at the most, until it gives none
unfoldable pub iterate : {S : Type 0} → (S → Option S) → ℕ → S → S
iterate f zero s = s
iterate f (suc n) s = or_on (iterate f n) s (f s)

-- the greatest number of lone steps in a turn
abbrev pub turn_steps : ℕ
turn_steps = 1000

-- what of a VCPU a lone step begins with
pub record Core : Type 0 where
  pub x : List ℕ
  pub pc : ℕ
  pub user : Bool
  pub csrs : SCsrs

abbrev pub core_of : VcpuView → Core
core_of v = record { x = v.x; pc = v.pc; user = v.user; csrs = v.csrs }

-- a machine within a turn of one of its VCPUs, how the turn goes on, and what each lone step so far
-- began with
pub record InTurn : Type 0 where
  pub on_hart : OnHart
  pub onward : Onward
  pub begun : List Core

abbrev pub is_started : HartState → Bool
is_started Started = true
is_started Waiting = false
is_started Suspended = false
is_started Stopped = false

-- a turn goes on while its VCPU is started and the guest neither halted nor rebooted
abbrev pub runs_on : Onward → HartState → Bool
runs_on On hart = is_started hart
runs_on Halts hart = false
runs_on Reboots hart = false

abbrev pub with_step : InTurn → VcpuView → After → InTurn
with_step r v a =
    record { on_hart = a.on_hart; onward = a.onward; begun = r.begun ++ core_of v ∷ [] }

-- one more lone step of VCPU h, from what it is now; none where the turn doesn't go on
abbrev pub one_more_of : Plan → (h t : ℕ) → InTurn → Option VcpuView → Option InTurn
one_more_of plan h t r None = None
one_more_of plan h t r (Some v) =
    if runs_on r.onward v.hart
    then option_map (with_step r v) (lone_step plan h t r.on_hart) else None

abbrev pub one_more : Plan → (h t : ℕ) → InTurn → Option InTurn
one_more plan h t r = one_more_of plan h t r (slice_get r.on_hart.machine.vcpus h)

-- a VCPU that waits or is suspended runs again
abbrev pub woken : HartState → HartState
woken Started = Started
woken Waiting = Started
woken Suspended = Started
woken Stopped = Stopped

abbrev pub woken_vcpu : VcpuView → VcpuView
woken_vcpu v = record v { hart = woken v.hart }

-- a turn begins without a reservation
abbrev pub begin : (h : ℕ) → Machine → InTurn
begin h m = record {
  on_hart = record { machine = on_vcpu h woken_vcpu m; held = None };
  onward = On;
  begun = [];
}

-- a turn of VCPU h at guest time t, to its end
unfoldable pub whole_turn : Plan → (h t : ℕ) → Machine → InTurn
whole_turn plan h t m = iterate (one_more plan h t) turn_steps (begin h m)

-- the machine after it, which holds no reservation
unfoldable pub turn : Plan → (h t : ℕ) → Machine → Machine
turn plan h t m = (whole_turn plan h t m).on_hart.machine

-- what each lone step of it began with
unfoldable pub visited : Plan → (h t : ℕ) → Machine → List Core
visited plan h t m = (whole_turn plan h t m).begun

-- the number of its lone steps
unfoldable pub steps : Plan → (h t : ℕ) → Machine → ℕ
steps plan h t m = length (visited plan h t m)

-- how a turn ends that goes on no more in this way: its VCPU waits, is stopped, or has made all its
-- steps; or its guest halted or rebooted
abbrev pub ends_as : Onward → HartState → TurnEnd
ends_as On Started = Spent
ends_as On Waiting = Waits
ends_as On Suspended = Waits
ends_as On Stopped = Stops
ends_as Halts hart = Halted
ends_as Reboots hart = Rebooted

abbrev pub ending_of : Onward → Option VcpuView → TurnEnd
ending_of onward None = ends_as onward Started
ending_of onward (Some v) = ends_as onward v.hart

abbrev pub ending_in : (h : ℕ) → InTurn → TurnEnd
ending_in h r = ending_of r.onward (slice_get r.on_hart.machine.vcpus h)

unfoldable pub ending : Plan → (h t : ℕ) → Machine → TurnEnd
ending plan h t m = ending_in h (whole_turn plan h t m)
