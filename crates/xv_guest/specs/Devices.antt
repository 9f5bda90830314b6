-- Which device stands in which region of a guest.
use Rattle.std.specs.Prelude.{◌≡◌, ℕ, Bool, true, false, map}
use Rattle.xv_region.specs.declared.plan.DeviceKind.{DeviceKind}
use Rattle.xv_region.specs.declared.plan.DeviceKind.TheVariants as devices
use Rattle.xv_region.specs.declared.plan.Kind.{Kind}
use Rattle.xv_region.specs.declared.plan.Kind.TheVariants as kinds
use Rattle.xv_region.specs.declared.plan.Region.{Region}
use Rattle.xv_region.specs.Plan.{Plan}
use Rattle.xv_lone.specs.Device.{DeviceState, Devices, Absent, Uart, Plic, Finisher, device_at}

-- which device it is, whatever its registers hold
pub data Shape : Type 0 where
  NoDevice : Shape
  UartShape : Shape
  PlicShape : Shape
  FinisherShape : Shape

abbrev pub shape_of : DeviceState → Shape
shape_of Absent = NoDevice
shape_of (Uart port) = UartShape
shape_of (Plic plic) = PlicShape
shape_of Finisher = FinisherShape

abbrev pub shape_of_device : DeviceKind → Shape
shape_of_device (devices.Uart shift irq) = UartShape
shape_of_device devices.Plic = PlicShape
shape_of_device devices.Finisher = FinisherShape

abbrev pub shape_of_kind : Kind → Shape
shape_of_kind kinds.Ram = NoDevice
shape_of_kind kinds.Rom = NoDevice
shape_of_kind (kinds.Reserved host) = NoDevice
shape_of_kind (kinds.Alias target) = NoDevice
shape_of_kind (kinds.Device kind) = shape_of_device kind

-- each region has its own
abbrev pub HasDevices : Plan → Devices → Type 0
HasDevices plan ds = map shape_of ds ≡ map (λ r. shape_of_kind r.kind) plan.regions

abbrev pub IsUart : Devices → (region : ℕ) → Type 0
IsUart ds region = shape_of (device_at ds region) ≡ UartShape

abbrev pub IsController : Devices → (region : ℕ) → Type 0
IsController ds region = shape_of (device_at ds region) ≡ PlicShape

abbrev pub is_plic : Kind → Bool
is_plic kinds.Ram = false
is_plic kinds.Rom = false
is_plic (kinds.Reserved host) = false
is_plic (kinds.Alias target) = false
is_plic (kinds.Device (devices.Uart shift irq)) = false
is_plic (kinds.Device devices.Plic) = true
is_plic (kinds.Device devices.Finisher) = false

abbrev pub has_plic : Region → Bool
has_plic r = is_plic r.kind
