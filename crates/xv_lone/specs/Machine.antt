-- The lone machine: its birth, and what happens to it whole.
use Rattle.std.specs.Prelude.{ℕ, ◌+◌, ◌-◌, ◌%◌, ◌^◌, List, map, Option, Some, None}
use Rattle.std.specs.Prelude.{slice_get, slice_set}
use Rattle.xv_lone.specs.declared.vcpu.VcpuView.{VcpuView}
use Rattle.xv_bus.specs.declared.access.Ending.{Ending}
use Rattle.xv_lone.specs.declared.vcpu.GuestState.{GuestState}
use Rattle.xv_lone.specs.declared.vcpu.GuestState.TheVariants.{Reset, Running, Paused, Halted}
use Rattle.xv_region.specs.Plan.{Plan}
use Rattle.xv_bus.specs.declared.access.Access.{Access}
use Rattle.xv_bus.specs.Device.{Accessed}
use Rattle.xv_lone.specs.Device.{DeviceState, Devices, after_gateways, device_accessed, device_at}
use Rattle.xv_lone.specs.Device.{device_reset, flat_of, new_devices}
use Rattle.xv_lone.specs.Memory.{Memory, zeros_of}
use Rattle.xv_lone.specs.Vcpu.{reset_vcpu, kicked_vcpu}

-- one guest by itself
pub record Machine : Type 0 where
  pub memory : Memory
  pub devices : Devices
  pub vcpus : List VcpuView
  pub state : GuestState
  pub birth : ℕ

-- each VCPU of a plan, with reset values
abbrev pub reset_vcpus : Plan → List VcpuView
reset_vcpus plan = map (λ v. reset_vcpu v.start) plan.vcpus

-- a machine at its create: zeros, reset values, and the clock as its birth
abbrev pub new_machine : Plan → ℕ → Machine
new_machine plan clock = record {
  memory = map zeros_of plan.regions;
  devices = new_devices plan;
  vcpus = reset_vcpus plan;
  state = Reset;
  birth = clock;
}

-- guest time: how far the clock is past the guest's birth, modulo 2^64
abbrev pub guest_time : (clock : ℕ) → Machine → ℕ
guest_time clock m = (clock + (2 ^ 64 - m.birth)) % 2 ^ 64

-- ---- one VCPU of a machine

-- the machine in which VCPU h is now this
abbrev pub with_vcpu : (h : ℕ) → VcpuView → Machine → Machine
with_vcpu h v m = record m { vcpus = slice_set m.vcpus h v }

abbrev pub on_vcpu_of : (h : ℕ) → (VcpuView → VcpuView) → Machine → Option VcpuView → Machine
on_vcpu_of h change m None = m
on_vcpu_of h change m (Some v) = with_vcpu h (change v) m

-- the machine after a change of VCPU h, if it has it
abbrev pub on_vcpu : (h : ℕ) → (VcpuView → VcpuView) → Machine → Machine
on_vcpu h change m = on_vcpu_of h change m (slice_get m.vcpus h)

-- ---- an access to a device of a machine

-- at an offset of a region
abbrev pub access_in : Plan → (region offset : ℕ) → Access → Machine → Accessed DeviceState
access_in plan region offset access m =
    device_accessed (flat_of plan m.memory) (device_at m.devices region) offset access

-- the machine after it, and after the gateways' step
abbrev pub after_access : Plan → (region : ℕ) → Accessed DeviceState → Machine → Machine
after_access plan region accessed m = record m {
  memory = accessed.cells;
  devices = after_gateways plan.regions (slice_set m.devices region accessed.device);
}

-- ---- what happens to a machine whole

-- its first VCPU is started
abbrev pub kicked : Machine → Machine
kicked m = record (on_vcpu 0 kicked_vcpu m) { state = Running }

abbrev pub paused : Machine → Machine
paused m = record m { state = Paused }

abbrev pub resumed : Machine → Machine
resumed m = record m { state = Running }

abbrev pub halted : Ending → Machine → Machine
halted ending m = record m { state = Halted ending }

-- every VCPU and every device has reset values
abbrev pub reset_parts : Plan → Machine → Machine
reset_parts plan m =
    record m { devices = map device_reset m.devices; vcpus = reset_vcpus plan }

-- so it is, and the guest isn't started. Its birth is the clock; memory stays
abbrev pub reset_at : Plan → (clock : ℕ) → Machine → Machine
reset_at plan clock m = record (reset_parts plan m) { state = Reset; birth = clock }

-- so it is, and the first VCPU is started. Memory and birth stay
abbrev pub rebooted : Plan → Machine → Machine
rebooted plan m = kicked (reset_parts plan m)
