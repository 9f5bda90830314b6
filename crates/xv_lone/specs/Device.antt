-- The devices of a guest, each as its automaton: one state for each region of the plan. What an
-- access, input, a dump and a reset make of them, and the lines between them.
use Rattle.std.specs.Prelude.{ℕ, ◌==◌, Bool, true, false, not, ◌&&◌, if◌then◌else◌, List, [], ◌∷◌}
use Rattle.std.specs.Prelude.{map, length, get_or, slice_set, Option, Some, None, option_map}
use Rattle.std.specs.Option.{option_map_or}
use Rattle.xv_base.specs.Bits.{with_bit}
use Rattle.xv_base.specs.Serial.{Serial, empty_serial}
use Rattle.xv_bus.specs.declared.access.Access.{Access}
use Rattle.xv_bus.specs.declared.access.Outcome.TheVariants.{Refused}
use Rattle.xv_bus.specs.Device.{Accessed, Answer, answer, over}
use Rattle.xv_bus.specs.Finisher.{finisher_outcome}
use Rattle.xv_bus.specs.Memory as bus
use Rattle.xv_bus.specs.Memory.{Flat}
use Rattle.xv_bus.specs.Plic.{PlicUnit, new_plic, plic_reset, plic_accessed, context_line, lifted}
use Rattle.xv_bus.specs.Uart.{UartPort, new_port, uart_reset, uart_accessed, uart_line, uart_input}
use Rattle.xv_step.specs.Bus.{Spot}
use Rattle.xv_region.specs.declared.plan.DeviceKind.{DeviceKind}
use Rattle.xv_region.specs.declared.plan.DeviceKind.TheVariants as devices
use Rattle.xv_region.specs.declared.plan.Kind.{Kind}
use Rattle.xv_region.specs.declared.plan.Kind.TheVariants as kinds
use Rattle.xv_region.specs.declared.plan.Region.{Region}
use Rattle.xv_region.specs.Plan.{Plan}
use Rattle.xv_lone.specs.Memory.{Memory, Place, spot_at}

-- a region of memory has no device
pub data DeviceState : Type 0 where
  Absent : DeviceState
  Uart : UartPort → DeviceState
  Plic : PlicUnit → DeviceState
  Finisher : DeviceState

abbrev pub Devices : Type 0
Devices = List DeviceState

abbrev pub device_at : Devices → (region : ℕ) → DeviceState
device_at ds region = get_or ds region Absent

-- the devices after a change of that of a region
abbrev pub on_device : (region : ℕ) → (DeviceState → DeviceState) → Devices → Devices
on_device region change ds = slice_set ds region (change (device_at ds region))

-- the queues of a UART; a region without one has empty ones
abbrev pub serial_of : DeviceState → Serial
serial_of Absent = empty_serial
serial_of (Uart port) = port.serial
serial_of (Plic plic) = empty_serial
serial_of Finisher = empty_serial

-- ---- their birth and their reset

-- a PLIC has a context for each VCPU
abbrev pub device_of : (contexts : ℕ) → DeviceKind → DeviceState
device_of contexts (devices.Uart shift irq) = Uart (new_port shift empty_serial)
device_of contexts devices.Plic = Plic (new_plic contexts)
device_of contexts devices.Finisher = Finisher

abbrev pub new_device : (contexts : ℕ) → Kind → DeviceState
new_device contexts kinds.Ram = Absent
new_device contexts kinds.Rom = Absent
new_device contexts (kinds.Reserved host) = Absent
new_device contexts (kinds.Alias target) = Absent
new_device contexts (kinds.Device kind) = device_of contexts kind

abbrev pub new_devices : Plan → Devices
new_devices plan = map (λ r. new_device (length plan.vcpus) r.kind) plan.regions

abbrev pub device_reset : DeviceState → DeviceState
device_reset Absent = Absent
device_reset (Uart port) = Uart (uart_reset port)
device_reset (Plic plic) = Plic (plic_reset plic)
device_reset Finisher = Finisher

-- ---- an access

-- the guest's memory, as a device reaches it
abbrev pub place_of : Spot Place → bus.Place
place_of spot = record {
  region = spot.place.region;
  offset = spot.place.offset;
  writable = spot.writable;
}

abbrev pub flat_of : Plan → Memory → Flat
flat_of plan memory = record {
  find = λ gpa len. option_map place_of (spot_at plan len gpa);
  cells = memory;
}

-- what is answered by a device of some kind
abbrev pub answered_as : {D : Type 0} → (D → DeviceState) → Answer D → Answer DeviceState
answered_as kind given = answer (kind given.device) given.outcome

-- an access at an offset of a region
abbrev pub device_accessed : Flat → DeviceState → (at : ℕ) → Access → Accessed DeviceState
device_accessed flat Absent at access = over flat (answer Absent Refused)
device_accessed flat (Uart port) at access =
    over flat (answered_as Uart (uart_accessed port at access))
device_accessed flat (Plic plic) at access =
    over flat (answered_as Plic (plic_accessed plic at access))
device_accessed flat Finisher at access =
    over flat (answer Finisher (finisher_outcome at access))

-- ---- lines

-- the source of the interrupt controller that is a device's line; 0 is none
abbrev pub source_of : Kind → ℕ
source_of kinds.Ram = 0
source_of kinds.Rom = 0
source_of (kinds.Reserved host) = 0
source_of (kinds.Alias target) = 0
source_of (kinds.Device (devices.Uart shift irq)) = irq
source_of (kinds.Device devices.Plic) = 0
source_of (kinds.Device devices.Finisher) = 0

abbrev pub line_of : DeviceState → Bool
line_of Absent = false
line_of (Uart port) = uart_line port
line_of (Plic plic) = false
line_of Finisher = false

-- with the bit of a source whose line is up
abbrev pub with_source : (source : ℕ) → Bool → (lines : ℕ) → ℕ
with_source source up lines =
    if up && not (source == 0) then with_bit source true lines else lines

-- the sources whose lines are up, bit k for source k
unfoldable pub sources_up : List Region → Devices → ℕ
sources_up [] ds = 0
sources_up (r ∷ rs) [] = 0
sources_up (r ∷ rs) (d ∷ ds) = with_source (source_of r.kind) (line_of d) (sources_up rs ds)

abbrev pub lifted_by : (lines : ℕ) → DeviceState → DeviceState
lifted_by lines Absent = Absent
lifted_by lines (Uart port) = Uart port
lifted_by lines (Plic plic) = Plic (lifted lines plic)
lifted_by lines Finisher = Finisher

-- the gateways' step: the lines as they are come to the interrupt controller
unfoldable pub after_gateways : List Region → Devices → Devices
after_gateways regions ds = map (lifted_by (sources_up regions ds)) ds

-- the interrupt controller: the first PLIC, of which a tree has no second
abbrev pub controller : Devices → Option PlicUnit
controller [] = None
controller (Absent ∷ ds) = controller ds
controller (Uart port ∷ ds) = controller ds
controller (Plic plic ∷ ds) = Some plic
controller (Finisher ∷ ds) = controller ds

-- the line of VCPU h's context; without a controller it is down
unfoldable pub external_line : (h : ℕ) → Devices → Bool
external_line h ds = option_map_or (λ plic. context_line plic h) (controller ds) false

-- ---- what comes from outside

abbrev pub device_input : List ℕ → DeviceState → DeviceState
device_input bytes Absent = Absent
device_input bytes (Uart port) = Uart (uart_input bytes port)
device_input bytes (Plic plic) = Plic plic
device_input bytes Finisher = Finisher

-- bytes come in at a UART, and then the gateways make their step
unfoldable pub after_input : List Region → (region : ℕ) → List ℕ → Devices → Devices
after_input regions region bytes ds =
    after_gateways regions (on_device region (device_input bytes) ds)

-- what a UART sent is kept no more, and the count of what was lost is 0
abbrev pub dumped_serial : Serial → Serial
dumped_serial serial = record serial { kept = []; lost = 0 }

abbrev pub device_dumped : DeviceState → DeviceState
device_dumped Absent = Absent
device_dumped (Uart port) = Uart (record port { serial = dumped_serial port.serial })
device_dumped (Plic plic) = Plic plic
device_dumped Finisher = Finisher
