-- A guest over host memory, as contracts see it, and the lone machine that it is.
use Rattle.std.specs.Prelude.{ℕ, List, [], map, Option, Some, None}
use Rattle.xv_csr.specs.Fields.{IsInstructionAddress}
use Rattle.xv_csr.specs.Kept.{IsKept}
use Rattle.xv_region.specs.Plan.{Plan}
use Rattle.xv_lone.specs.declared.vcpu.GuestState.{GuestState}
use Rattle.xv_lone.specs.declared.vcpu.VcpuView.{VcpuView}
use Rattle.xv_lone.specs.declared.vcpu.GuestState.TheVariants.{Reset}
use Rattle.xv_lone.specs.Device.{Devices, device_reset, new_devices}
use Rattle.xv_lone.specs.Machine.{Machine, reset_vcpus}
use Rattle.xv_guest.specs.Held.{Held, memory_of}

pub record Guest : Type 0 where
  -- the key under which its host knows it
  pub key : ℕ
  pub plan : Plan
  -- its root table, once it has taken one, and its frames
  pub root : Option ℕ
  pub frames : List ℕ
  -- one for each region
  pub devices : Devices
  pub vcpus : List VcpuView
  pub state : GuestState
  pub birth : ℕ

-- a VCPU between two turns: the pc is an instruction's address, and the CSRs hold what writes keep
pub record IsView (v : VcpuView) : Type 0 where
  pub pc : IsInstructionAddress v.pc
  pub csrs : IsKept v.csrs

abbrev pub root_or_none : Option ℕ → ℕ
root_or_none None = 0
root_or_none (Some root) = root

-- what the guest holds, where it has taken its root
abbrev pub held_of : Guest → Held
held_of g = record {
  root = root_or_none g.root;
  regions = g.plan.regions;
  frames = g.frames;
}

-- the lone machine that the guest is, over these host bytes
abbrev pub lone_of : Guest → List ℕ → Machine
lone_of g bytes = record {
  memory = memory_of bytes (held_of g);
  devices = g.devices;
  vcpus = g.vcpus;
  state = g.state;
  birth = g.birth;
}

-- the guest with the devices, the VCPUs, the state and the birth of this lone machine
abbrev pub with_machine : Guest → Machine → Guest
with_machine g m = record g {
  devices = m.devices;
  vcpus = m.vcpus;
  state = m.state;
  birth = m.birth;
}

-- a guest at its make: reset values, and nothing held
abbrev pub new_guest : Plan → (key : ℕ) → Guest
new_guest plan key = record {
  key = key;
  plan = plan;
  root = None;
  frames = [];
  devices = new_devices plan;
  vcpus = reset_vcpus plan;
  state = Reset;
  birth = 0;
}

-- every VCPU and every device has reset values, and the guest isn't started
abbrev pub reset_guest : Guest → Guest
reset_guest g = record g {
  devices = map device_reset g.devices;
  vcpus = reset_vcpus g.plan;
  state = Reset;
}
