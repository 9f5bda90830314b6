-- What the program's device of a region is of the guest's devices.
use Rattle.std.specs.Prelude.{Option, Some, None}
use Rattle.xv_bus.specs.Plic.{PlicUnit}
use Rattle.xv_lone.specs.Device.{DeviceState, Absent, Uart, Plic, Finisher}
use Rattle.xv_guest.specs.declared.device.AnyDevice.{AnyDevice}
use Rattle.xv_guest.specs.declared.device.AnyDevice.TheVariants as any

abbrev pub state_of : AnyDevice → DeviceState
state_of any.Absent = Absent
state_of (any.Uart port) = Uart port
state_of (any.Plic plic) = Plic plic
state_of (any.Finisher finisher) = Finisher

-- the interrupt controller that a device is
abbrev pub plic_of : DeviceState → Option PlicUnit
plic_of Absent = None
plic_of (Uart port) = None
plic_of (Plic plic) = Some plic
plic_of Finisher = None
