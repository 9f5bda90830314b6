-- What the calls to firmware do to a guest's machine (Supervisor Binary Interface 1.0, chapters 3,
-- 4 and 6 to 10). A call may change other VCPUs than the one that makes it.
use Rattle.std.specs.Prelude.{ℕ, suc, ◌-◌, ◌%◌, ◌^◌, ◌==◌, Bool, true, false, ◌&&◌, ◌||◌, nat_le}
use Rattle.std.specs.Prelude.{nat_lt, if◌then◌else◌, List, [], ◌∷◌, length, Option, Some, None}
use Rattle.std.specs.Prelude.{slice_get, slice_index}
use Rattle.std.specs.List.{list_any}
use Rattle.xv_bus.specs.declared.access.Ending.{Ending}
use Rattle.xv_bus.specs.declared.access.Ending.TheVariants.{Shutdown}
use Rattle.xv_sbi.specs.declared.call.Call.{Call}
use Rattle.xv_sbi.specs.declared.call.Call.TheVariants as calls
use Rattle.xv_sbi.specs.Calls.{call_of, rows}
use Rattle.xv_sbi.specs.Mask.{mask_ok, names}
use Rattle.xv_step.specs.State.{with_register}
use Rattle.xv_region.specs.declared.cell.Cell.{Cell}
use Rattle.xv_region.specs.declared.cell.Cell.TheVariants as cells
use Rattle.xv_region.specs.Cell.{cell}
use Rattle.xv_region.specs.Plan.{Plan}
use Rattle.xv_lone.specs.declared.vcpu.HartState.{HartState}
use Rattle.xv_lone.specs.declared.vcpu.HartState.TheVariants.{Started, Waiting, Suspended, Stopped}
use Rattle.xv_lone.specs.declared.vcpu.VcpuView.{VcpuView}
use Rattle.xv_lone.specs.Machine.{Machine, on_vcpu, with_vcpu}
use Rattle.xv_lone.specs.Vcpu.{reset_vcpu}

-- ---- what a call comes to

pub data Reply : Type 0 where
  -- error and value for the caller, and what became of the machine
  Returns : (error value : ℕ) → Machine → Reply
  -- nothing is returned
  StopsCaller : Reply
  HaltsGuest : Ending → Reply
  RebootsGuest : Reply

-- errors (chapter 3), as numbers of 64 bits: -2, -3, -5 and -6
abbrev pub not_supported : ℕ
not_supported = 2 ^ 64 - 2

abbrev pub invalid_param : ℕ
invalid_param = 2 ^ 64 - 3

abbrev pub invalid_address : ℕ
invalid_address = 2 ^ 64 - 5

abbrev pub already_available : ℕ
already_available = 2 ^ 64 - 6

abbrev pub gives : (value : ℕ) → Machine → Reply
gives value m = Returns 0 value m

-- the value of a call that failed is 0
abbrev pub fails : (error : ℕ) → Machine → Reply
fails error m = Returns error 0 m

-- the registers of error and value, which are those of the first two arguments
abbrev pub a0 : ℕ
a0 = 10

abbrev pub a1 : ℕ
a1 = 11

-- a7 has the extension, a6 the function, and a0 to a5 the arguments
abbrev pub call_in : (x : List ℕ) → Call
call_in x =
    call_of (slice_index x 17) (slice_index x 16)
    (slice_index x 10 ∷ slice_index x 11 ∷ slice_index x 12 ∷ slice_index x 13
    ∷ slice_index x 14 ∷ slice_index x 15 ∷ [])

-- ---- base (chapter 4)

-- version 1.0: the major number in bits 30:24, the minor one in 23:0
abbrev pub spec_version : ℕ
spec_version = 2 ^ 24

-- the number of Xvisor among the implementations
abbrev pub impl_id : ℕ
impl_id = 2

-- 1 where there is a call of the extension
abbrev pub probed : (extension : ℕ) → ℕ
probed extension = if list_any (λ r. r.extension == extension) rows then 1 else 0

-- ---- masks of VCPUs (3.1), interrupts between them (chapter 7)

-- a mask that names a VCPU which isn't there is refused
abbrev pub where_named : (mask base : ℕ) → (before after : Machine) → Reply
where_named mask base before after =
    if mask_ok mask base (length before.vcpus) then gives 0 after else fails invalid_param before

-- its software interrupt is pending
abbrev pub signalled : VcpuView → VcpuView
signalled v = record v { csrs = record v.csrs { ssip = true } }

-- so it is for each VCPU that the mask names, of these, the first of which has number k
unfoldable pub signalled_from : (mask base k : ℕ) → List VcpuView → List VcpuView
signalled_from mask base k [] = []
signalled_from mask base k (v ∷ vs) =
    (if names mask base k then signalled v else v) ∷ signalled_from mask base (suc k) vs

abbrev pub with_signals : (mask base : ℕ) → Machine → Machine
with_signals mask base m = record m { vcpus = signalled_from mask base 0 m.vcpus }

-- ---- hart states (chapter 9)

-- a VCPU is started (9.1): all is reset but its number in a0, and a1
abbrev pub started_vcpu : (hart address opaque : ℕ) → VcpuView
started_vcpu hart address opaque =
    let v = reset_vcpu address in
    record v { x = with_register a1 opaque (with_register a0 hart v.x); hart = Started }

abbrev pub is_memory : Cell → Bool
is_memory (cells.Memory region offset writable) = true
is_memory (cells.Device region offset) = false
is_memory cells.Nothing = false

-- an instruction may stand there: the address is a multiple of 4, and its 4 bytes are memory
abbrev pub may_start : Plan → (address : ℕ) → Bool
may_start plan address = address % 4 == 0 && is_memory (cell plan.regions address 4)

module _ (plan : Plan) (hart address opaque : ℕ) (m : Machine) where
  abbrev pub start_stopped : Reply
  start_stopped =
      if may_start plan address then gives 0 (with_vcpu hart (started_vcpu hart address opaque) m)
      else fails invalid_address m

  abbrev pub start_from : HartState → Reply
  start_from Started = fails already_available m
  start_from Waiting = fails already_available m
  start_from Suspended = fails already_available m
  start_from Stopped = start_stopped

  abbrev pub start : Option VcpuView → Reply
  start None = fails invalid_param m
  start (Some v) = start_from v.hart

-- the numbers of the states (9, table 4). A VCPU that waits is started
abbrev pub state_number : HartState → ℕ
state_number Started = 0
state_number Waiting = 0
state_number Suspended = 4
state_number Stopped = 1

abbrev pub status : Machine → Option VcpuView → Reply
status m None = fails invalid_param m
status m (Some v) = gives (state_number v.hart) m

abbrev pub suspended : VcpuView → VcpuView
suspended v = record v { hart = Suspended }

abbrev pub lies_within : (low high value : ℕ) → Bool
lies_within low high value = nat_le low value && nat_le value high

-- kinds that the standard reserves (9.4)
abbrev pub is_reserved : (kind : ℕ) → Bool
is_reserved kind =
    lies_within 1 0x0FFF_FFFF kind || lies_within 0x8000_0001 0x8FFF_FFFF kind

-- of the others there is the default kind, which keeps all state
abbrev pub suspend : (h kind : ℕ) → Machine → Reply
suspend h kind m =
    if kind == 0 then gives 0 (on_vcpu h suspended m)
    else (if is_reserved kind then fails invalid_param m else fails not_supported m)

-- ---- system reset (chapter 10)

-- kinds: shutdown, cold and warm reboot; reasons: none, and a failure of the system
abbrev pub reset : (kind reason : ℕ) → Machine → Reply
reset kind reason m =
    if nat_lt 2 kind || nat_lt 1 reason then fails invalid_param m
    else (if kind == 0 then HaltsGuest Shutdown else RebootsGuest)

-- ---- the calls of VCPU h

abbrev pub replied : Plan → (h : ℕ) → Machine → Call → Reply
replied plan h m calls.SpecVersion = gives spec_version m
replied plan h m calls.ImplId = gives impl_id m
replied plan h m calls.ImplVersion = gives 0 m
replied plan h m (calls.Probe extension) = gives (probed extension) m
replied plan h m calls.VendorId = gives 0 m
replied plan h m calls.ArchId = gives 0 m
replied plan h m calls.MachineId = gives 0 m
replied plan h m (calls.SetTimer compare) =
    gives 0 (on_vcpu h (λ v. record v { timer = compare }) m)
replied plan h m (calls.Ipi mask base) = where_named mask base m (with_signals mask base m)
replied plan h m (calls.Fence mask base) = where_named mask base m m
replied plan h m (calls.HartStart hart address opaque) =
    start plan hart address opaque m (slice_get m.vcpus hart)
replied plan h m calls.HartStop = StopsCaller
replied plan h m (calls.HartStatus hart) = status m (slice_get m.vcpus hart)
replied plan h m (calls.HartSuspend kind) = suspend h kind m
replied plan h m (calls.SystemReset kind reason) = reset kind reason m
replied plan h m calls.Unknown = fails not_supported m
