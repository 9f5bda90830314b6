-- Worked rows of the calls to firmware, computed by the checker: a guest with 64 bytes of memory
-- that can be written and 64 that can't, an alias of the former, a finisher, and two VCPUs, of
-- which the first is started and makes the call.
use Rattle.std.proofs.Common.{◌≡◌, ℕ, ◌+◌, ◌-◌, ◌^◌, Bool, true, false, List, [], ◌∷◌, map}
use Rattle.std.proofs.Common.{slice_index, refl}
use Rattle.std.specs.List.{flat_map}
use Rattle.xv_csr.specs.Reset.{reset_csrs}
use Rattle.xv_region.specs.declared.plan.DeviceKind.TheVariants.{Finisher}
use Rattle.xv_region.specs.declared.plan.Kind.{Kind}
use Rattle.xv_region.specs.declared.plan.Kind.TheVariants.{Ram, Rom, Alias, Device}
use Rattle.xv_region.specs.declared.plan.Region.{Region}
use Rattle.xv_region.specs.declared.plan.VcpuPlan.{VcpuPlan}
use Rattle.xv_region.specs.Cell.{cell}
use Rattle.xv_region.specs.Plan.{Plan, flat_base, usual_priority}
use Rattle.xv_sbi.specs.declared.call.Call.{Call}
use Rattle.xv_sbi.specs.declared.call.Call.TheVariants as calls
use Rattle.xv_sbi.specs.Mask.{bits_ok, mask_ok}
use Rattle.xv_lone.specs.declared.vcpu.VcpuView.{VcpuView}
use Rattle.xv_lone.specs.declared.vcpu.HartState.{HartState}
use Rattle.xv_lone.specs.declared.vcpu.HartState.TheVariants.{Started, Waiting, Suspended, Stopped}
use Rattle.xv_lone.specs.Calls.{Reply, Returns, StopsCaller, HaltsGuest, RebootsGuest, replied}
use Rattle.xv_lone.specs.Calls.{signalled_from}
use Rattle.xv_lone.specs.Machine.{Machine, kicked, new_machine}

region_of : (base size : ℕ) → Kind → Region
region_of base size kind = record { name = []; base = base; size = size; kind = kind }

vcpu_at : ℕ → VcpuPlan
vcpu_at start = record { start = start; priority = usual_priority }

plan : Plan
plan = record {
  regions = region_of flat_base 64 Ram
      ∷ region_of 0x1000 64 Rom
      ∷ region_of 0x2000 64 (Alias flat_base)
      ∷ region_of 0x3000 64 (Device Finisher)
      ∷ [];
  vcpus = vcpu_at flat_base ∷ vcpu_at flat_base ∷ [];
}

machine : Machine
machine = kicked (new_machine plan 0)

bit : Bool → ℕ
bit true = 1
bit false = 0

hart_number : HartState → ℕ
hart_number Started = 0
hart_number Waiting = 1
hart_number Suspended = 2
hart_number Stopped = 3

-- the hart state, the software interrupt, the pc, a0, a1 and the timer
vcpu_shows : VcpuView → List ℕ
vcpu_shows v = hart_number v.hart ∷ bit v.csrs.ssip ∷ v.pc ∷ slice_index v.x 10
    ∷ slice_index v.x 11 ∷ v.timer ∷ []

shows : Reply → List ℕ
shows (Returns error value m) = error ∷ value ∷ flat_map vcpu_shows m.vcpus
shows StopsCaller = 1 ∷ []
shows (HaltsGuest ending) = 2 ∷ []
shows RebootsGuest = 3 ∷ []

never : ℕ
never = 2 ^ 64 - 1

-- error and value, and the VCPUs as they were
plain : (error value : ℕ) → List ℕ
plain error value =
    error ∷ value ∷ 0 ∷ 0 ∷ flat_base ∷ 0 ∷ 0 ∷ never ∷ 3 ∷ 0 ∷ flat_base ∷ 0 ∷ 0 ∷ never ∷ []

-- it succeeded, and these of the two have software interrupts
signals : (first second : ℕ) → List ℕ
signals first second =
    0 ∷ 0 ∷ 0 ∷ first ∷ flat_base ∷ 0 ∷ 0 ∷ never ∷ 3 ∷ second ∷ flat_base ∷ 0 ∷ 0 ∷ never ∷ []

-- the second is started at an address, with a1
starts : (address opaque : ℕ) → List ℕ
starts address opaque =
    0 ∷ 0 ∷ 0 ∷ 0 ∷ flat_base ∷ 0 ∷ 0 ∷ never ∷ 0 ∷ 0 ∷ address ∷ 1 ∷ opaque ∷ never ∷ []

error : ℕ → ℕ
error n = 2 ^ 64 - n

table : List (Call × List ℕ)
table =
    (calls.SpecVersion, plain 0 0x0100_0000)
    ∷ (calls.ImplId, plain 0 2)
    ∷ (calls.ImplVersion, plain 0 0)
    ∷ (calls.Probe 0x10, plain 0 1)
    ∷ (calls.Probe 0x735049, plain 0 1)
    ∷ (calls.Probe 0x735048, plain 0 0)
    ∷ (calls.VendorId, plain 0 0)
    ∷ (
      calls.SetTimer 7,
      0 ∷ 0 ∷ 0 ∷ 0 ∷ flat_base ∷ 0 ∷ 0 ∷ 7 ∷ 3 ∷ 0 ∷ flat_base ∷ 0 ∷ 0 ∷ never ∷ [],
    )
    -- VCPU 2 isn't there, and nobody is signalled
    ∷ (calls.Ipi 7 0, plain (error 3) 0)
    ∷ (calls.Ipi 0 never, signals 1 1)
    ∷ (calls.Ipi 2 0, signals 0 1)
    ∷ (calls.Ipi 1 1, signals 0 1)
    ∷ (calls.Ipi 1 2, plain (error 3) 0)
    ∷ (calls.Ipi 0 2, signals 0 0)
    ∷ (calls.Fence 3 0, plain 0 0)
    ∷ (calls.Fence 4 0, plain (error 3) 0)
    -- the VCPU comes first, then its state, then the address
    ∷ (calls.HartStart 2 1 0, plain (error 3) 0)
    ∷ (calls.HartStart 0 1 0, plain (error 6) 0)
    ∷ (calls.HartStart 1 (flat_base + 2) 0, plain (error 5) 0)
    ∷ (calls.HartStart 1 0x9000_0000 0, plain (error 5) 0)
    ∷ (calls.HartStart 1 0x3000 0, plain (error 5) 0)
    ∷ (calls.HartStart 1 (flat_base + 64) 0, plain (error 5) 0)
    ∷ (calls.HartStart 1 (flat_base + 60) 9, starts (flat_base + 60) 9)
    ∷ (calls.HartStart 1 0x1000 0, starts 0x1000 0)
    ∷ (calls.HartStart 1 0x2000 0, starts 0x2000 0)
    ∷ (calls.HartStop, 1 ∷ [])
    ∷ (calls.HartStatus 0, plain 0 0)
    ∷ (calls.HartStatus 1, plain 0 1)
    ∷ (calls.HartStatus 2, plain (error 3) 0)
    ∷ (
      calls.HartSuspend 0,
      0 ∷ 0 ∷ 2 ∷ 0 ∷ flat_base ∷ 0 ∷ 0 ∷ never ∷ 3 ∷ 0 ∷ flat_base ∷ 0 ∷ 0 ∷ never ∷ [],
    )
    ∷ (calls.HartSuspend 1, plain (error 3) 0)
    ∷ (calls.HartSuspend 0x0FFF_FFFF, plain (error 3) 0)
    ∷ (calls.HartSuspend 0x1000_0000, plain (error 2) 0)
    ∷ (calls.HartSuspend 0x8000_0000, plain (error 2) 0)
    ∷ (calls.HartSuspend 0x8000_0001, plain (error 3) 0)
    ∷ (calls.HartSuspend 0x8FFF_FFFF, plain (error 3) 0)
    ∷ (calls.HartSuspend 0x9000_0000, plain (error 2) 0)
    ∷ (calls.SystemReset 0 0, 2 ∷ [])
    ∷ (calls.SystemReset 1 0, 3 ∷ [])
    ∷ (calls.SystemReset 2 1, 3 ∷ [])
    ∷ (calls.SystemReset 3 0, plain (error 3) 0)
    ∷ (calls.SystemReset 0 2, plain (error 3) 0)
    ∷ (calls.Unknown, plain (error 2) 0)
    ∷ []

the_calls : map (λ r. shows (replied plan 0 machine r.0)) table ≡ map (λ r. r.1) table
unfolding region_of vcpu_at plan machine bit hart_number vcpu_shows shows never plain signals starts
    error table cell mask_ok bits_ok signalled_from reset_csrs
the_calls = refl
