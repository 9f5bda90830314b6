-- A host, as contracts see it: what it hands out, and its live guests by their keys.
use Rattle.std.specs.Prelude.{ℕ, ◌≡◌, ◌*◌, ◌%◌, ◌^◌, ◌<◌, ◌≤◌, List, length, replicate}
use Rattle.std.specs.Prelude.{Result, Err}
use Rattle.xv_pool.specs.declared.fault.PoolFault.{PoolFault}
use Rattle.xv_host.specs.declared.host.Admit.{Admit}
use Rattle.xv_host.specs.declared.host.Admit.TheVariants as refusals
use Rattle.xv_base.specs.Range.{range_end}
use Rattle.xv_pool.specs.Resources.{Resources}
use Rattle.xv_region.specs.Plan.{Plan}
use Rattle.xv_lone.specs.declared.vcpu.GuestState.TheVariants.{Reset}
use Rattle.xv_guest.specs.Guest.{Guest, new_guest}
use Rattle.xv_guest.specs.Take.{taken_guest}
use Rattle.xv_host.specs.Holdings.{Holdings}
use Rattle.xv_host.specs.Places.{Places}
use Rattle.xv_hart.specs.declared.machine.Machine.{Machine}

pub record Host : Type 0 where
  pub pool : Resources
  pub guests : Places

-- its guests hold what it says in these host bytes
abbrev pub IsHosted : Host → List ℕ → Type 0
IsHosted host bytes = Holdings bytes host.pool host.guests

-- a machine of zeros: the root tables' frames, those of guests, and the reserved area, to the end
pub record IsFresh (m : Machine) : Type 0 where
  pub zeros : m.mem ≡ replicate (length m.mem) 0
  pub start : m.area.start % 4096 ≡ 0
  pub roots : 4096 * 64 ≤ m.area.start
  pub end : range_end m.area ≡ length m.mem
  pub small : length m.mem < 2 ^ 44

-- the guest of a plan that was admitted under a key at a clock
abbrev pub admitted : Resources → Plan → (key clock : ℕ) → Guest
admitted pool plan key clock =
    record (taken_guest pool (new_guest plan key)) { state = Reset; birth = clock }

-- a refusal is the pool's, unless the program wants memory
abbrev pub IsRefusal : Result (Unit {0}) PoolFault → Admit → Type 0
IsRefusal answer (refusals.Pool fault) = answer ≡ Err fault
IsRefusal answer refusals.NoMemory = Unit {0}
