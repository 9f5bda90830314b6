-- One lone step of a VCPU: the step of a hart over the cells of its guest's memory, and at once
-- what becomes of its exceptions and the answer to what memory alone can't give (Privileged
-- Architecture 20211203, sections 4.1 and 3.3; SBI 1.0, chapter 3). An answer is about the machine:
-- it may change other VCPUs than the one that asked, halt the guest or reboot it.
use Rattle.std.specs.Prelude.{ℕ, ◌==◌, Bool, ◌&&◌, nat_le, if◌then◌else◌}
use Rattle.std.specs.Prelude.{Option, None, option_map, slice_get}
use Rattle.xv_bus.specs.declared.access.Ending.{Ending}
use Rattle.xv_bus.specs.declared.access.Outcome as bus
use Rattle.xv_bus.specs.declared.access.Outcome.TheVariants.{Value, Done, Refused, Halt, Reboot}
use Rattle.xv_bus.specs.Device.{Accessed}
use Rattle.xv_csr.specs.declared.Lines.{Lines}
use Rattle.xv_csr.specs.Pending.{pending}
use Rattle.xv_pte.specs.declared.access.Kind3.{Kind3}
use Rattle.xv_step.specs.Bus.{Bus}
use Rattle.xv_step.specs.State.{Held, State, with_register, at_pc, trapped}
use Rattle.xv_step.specs.Outcome.{Ask, TableEntry, Target, Plain, Call, Wait, Outcome, Went, Raised}
use Rattle.xv_step.specs.Outcome.{Left, access_kind, width_of, address_of, access_fault}
use Rattle.xv_step.specs.Perform.{Inputs}
use Rattle.xv_step.specs.Step.{step}
use Rattle.xv_isa.specs.Effects as effects
use Rattle.xv_emul.specs.Emulation.{at_bus, written_back}
use Rattle.xv_region.specs.declared.cell.Cell.{Cell}
use Rattle.xv_region.specs.declared.cell.Cell.TheVariants as cells
use Rattle.xv_region.specs.Cell.{cell}
use Rattle.xv_lone.specs.declared.vcpu.VcpuView.{VcpuView}
use Rattle.xv_lone.specs.declared.vcpu.HartState.{HartState}
use Rattle.xv_lone.specs.declared.vcpu.HartState.TheVariants.{Started, Waiting, Stopped}
use Rattle.xv_region.specs.Plan.{Plan}
use Rattle.xv_lone.specs.Calls.{Reply, Returns, StopsCaller, HaltsGuest, RebootsGuest, a0, a1}
use Rattle.xv_lone.specs.Calls.{call_in, replied}
use Rattle.xv_lone.specs.Device.{DeviceState, external_line}
use Rattle.xv_lone.specs.Memory.{Memory, Place, spot_at, load_place, put_place}
use Rattle.xv_lone.specs.Machine.{Machine, access_in, after_access, with_vcpu, on_vcpu, halted}
use Rattle.xv_lone.specs.Machine.{rebooted}

-- ---- the memory of a lone hart

abbrev pub same_place : Place → Place → Bool
same_place one other = one.region == other.region && one.offset == other.offset

-- what the plan's regions have at an address, of an alias those of the region that it names
abbrev pub lone_bus : Plan → Bus Memory Place
lone_bus plan = record {
  find = spot_at plan;
  get = λ memory width p. load_place memory p width;
  put = λ memory width p value. put_place memory p width value;
  same = same_place;
}

-- ---- what comes from outside, at guest time t, for VCPU h of a machine, which is v now

-- the timer's line is up from the VCPU's compare on, the other one by its interrupt controller
abbrev pub lines_at : (h t : ℕ) → Machine → VcpuView → Lines
lines_at h t m v = record { timer = nat_le v.timer t; external = external_line h m.devices }

abbrev pub inputs_at : (h t : ℕ) → Machine → VcpuView → Inputs
inputs_at h t m v = record { lines = lines_at h t m v; time = t }

-- ---- a machine in a lone step

-- a machine one of whose VCPUs is on the hart, and the reservation of that VCPU
pub record OnHart : Type 0 where
  pub machine : Machine
  pub held : Option (Held Place)

-- how a turn goes on after a lone step, where its VCPU may
pub data Onward : Type 0 where
  On : Onward
  Halts : Onward
  Reboots : Onward

pub record After : Type 0 where
  pub on_hart : OnHart
  pub onward : Onward

-- the VCPU, as a hart over the machine's memory
abbrev pub hart_of : OnHart → VcpuView → State Memory Place
hart_of r v =
    record {
      x = v.x;
      pc = v.pc;
      user = v.user;
      csrs = v.csrs;
      held = r.held;
      memory = r.machine.memory;
    }

-- and the VCPU that such a hart is, in a hart state
abbrev pub vcpu_of : State Memory Place → HartState → VcpuView → VcpuView
vcpu_of s hart v = record v { x = s.x; pc = s.pc; user = s.user; csrs = s.csrs; hart = hart }

-- ---- how a lone step goes on

module _ (h : ℕ) (r : OnHart) (v : VcpuView) where
  -- the hart is put back into the machine as VCPU h
  abbrev pub put_back : State Memory Place → HartState → OnHart
  put_back s hart = record {
    machine = with_vcpu h (vcpu_of s hart v) (record r.machine { memory = s.memory });
    held = s.held;
  }

  abbrev pub goes_on : State Memory Place → HartState → After
  goes_on s hart = record { on_hart = put_back s hart; onward = On }

  -- an exception is taken
  abbrev pub traps : (cause tval : ℕ) → After
  traps cause tval = goes_on (trapped cause tval (hart_of r v)) Started

  -- the guest halts, and the VCPU is as the step leaves it
  abbrev pub halts : Ending → State Memory Place → After
  halts ending s =
      let last = put_back s Started in
      record { on_hart = record last { machine = halted ending last.machine }; onward = Halts }

-- the guest reboots
abbrev pub reboots : Plan → Machine → After
reboots plan m =
    record { on_hart = record { machine = rebooted plan m; held = None }; onward = Reboots }

-- ---- an access to a device

-- a plain access that memory doesn't serve, of an instruction behind which another stands at next
module _ (plan : Plan) (h : ℕ) (v : VcpuView) (access : effects.Access) (next : ℕ) where
  abbrev pub access_faults : OnHart → After
  access_faults r = traps h r v (access_fault (access_kind access)) (address_of access)

  -- the hart has made its access, which gave this value, and goes on
  abbrev pub retired : (value : ℕ) → OnHart → State Memory Place
  retired value r =
      let s = hart_of r v in at_pc next (record s { x = written_back access value s.x })

  abbrev pub by_outcome : OnHart → bus.Outcome → After
  by_outcome r (Value value) = goes_on h r v (retired value r) Started
  by_outcome r Done = goes_on h r v (retired 0 r) Started
  by_outcome r Refused = access_faults r
  by_outcome r (Halt ending) = halts h r v ending (retired 0 r)
  by_outcome r Reboot = reboots plan r.machine

  abbrev pub by_accessed : OnHart → (region : ℕ) → Accessed DeviceState → After
  by_accessed r region a =
      by_outcome (record r { machine = after_access plan region a r.machine }) a.outcome

  abbrev pub by_device : OnHart → (region offset : ℕ) → After
  by_device r region offset =
      by_accessed r region (access_in plan region offset (at_bus access) r.machine)

  -- memory that a store may not write, and nothing, are access faults
  abbrev pub by_cell : OnHart → Cell → After
  by_cell r (cells.Device region offset) = by_device r region offset
  by_cell r (cells.Memory region offset writable) = access_faults r
  by_cell r cells.Nothing = access_faults r

-- ---- the answers

-- error and value are written, and the hart goes on
abbrev pub with_reply : (next error value : ℕ) → VcpuView → VcpuView
with_reply next error value v =
    record v { x = with_register a1 value (with_register a0 error v.x); pc = next }

-- WFI (Privileged Architecture, 3.3.3): it goes on where an interrupt is pending and enabled,
-- whether or not one may be taken
abbrev pub after_wait : (interrupts : ℕ) → HartState
after_wait interrupts = if interrupts == 0 then Waiting else Started

module _ (plan : Plan) (h t : ℕ) (r : OnHart) (v : VcpuView) where
  -- memory that isn't there, or may not be written (Privileged Architecture, 3.6 and 4.1.8)
  abbrev pub faults : Kind3 → (va : ℕ) → After
  faults access va = traps h r v (access_fault access) va

  abbrev pub by_reply : (next : ℕ) → Reply → After
  by_reply next (Returns error value m) =
      record {
        on_hart = record r { machine = on_vcpu h (with_reply next error value) m };
        onward = On;
      }
  by_reply next StopsCaller = goes_on h r v (at_pc next (hart_of r v)) Stopped
  by_reply next (HaltsGuest ending) = halts h r v ending (at_pc next (hart_of r v))
  by_reply next RebootsGuest = reboots plan r.machine

  abbrev pub calls : (next : ℕ) → After
  calls next = by_reply next (replied plan h r.machine (call_in v.x))

  abbrev pub waits : (next : ℕ) → After
  waits next =
      goes_on h r v (at_pc next (hart_of r v))
      (after_wait (pending v.csrs (lines_at h t r.machine v)))

  -- no device is fetched from, reserved or modified at once; nor is a page table read in one
  unfoldable pub answered : Ask → After
  answered (TableEntry access va gpa) = faults access va
  answered (Target access va gpa) = faults access va
  answered (Plain access gpa next) =
      by_cell plan h v access next r (cell plan.regions gpa (width_of access))
  answered (Call next) = calls next
  answered (Wait next) = waits next

  abbrev pub after : Outcome Memory Place → After
  after (Went s) = goes_on h r v s Started
  after (Raised cause tval) = traps h r v cause tval
  after (Left ask) = answered ask

  abbrev pub stepped : After
  stepped = after (step (lone_bus plan) (inputs_at h t r.machine v) (hart_of r v))

-- the lone step of VCPU h at guest time t; None where there is no such VCPU
unfoldable pub lone_step : Plan → (h t : ℕ) → OnHart → Option After
lone_step plan h t r = option_map (stepped plan h t r) (slice_get r.machine.vcpus h)
