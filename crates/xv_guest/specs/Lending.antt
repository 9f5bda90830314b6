-- What a guest is once a loan of one of its devices has ended.
use Rattle.std.specs.Prelude.{ℕ, slice_set}
use Rattle.std.specs.Borrow.{Lends, MutBor, Fml}
use Rattle.xv_bus.specs.Plic.{PlicUnit}
use Rattle.xv_bus.specs.Uart.{UartPort}
use Rattle.xv_plic.specs.contracts.plic.Plic.{the_row as plic_row}
use Rattle.xv_uart.specs.contracts.uart.Uart.{the_row as uart_row}
use Rattle.xv_lone.specs.Device.{DeviceState, Plic, Uart}
use Rattle.xv_guest.specs.declared.device.AnyDevice.{AnyDevice}
use Rattle.xv_guest.specs.declared.device.AnyDevice.TheVariants as any
use Rattle.xv_guest.specs.contracts.device.AnyDevice.{the_row as any_row}
use Rattle.xv_guest.specs.contracts.device.RegionDevice.{the_row as device_row}
use Rattle.xv_guest.specs.contracts.guest.Guest.{the_row as guest_row}
use Rattle.xv_guest.specs.Guest.{Guest}

abbrev pub LendsAny : MutBor AnyDevice → MutBor UartPort → Fml
LendsAny device uart = Lends any_row uart_row device uart (λ last. any.Uart last)

abbrev pub LendsDevice : MutBor DeviceState → MutBor UartPort → Fml
LendsDevice device uart = Lends device_row uart_row device uart (λ last. Uart last)

-- the device of a region is then the last that the loan had
abbrev pub LendsUart : MutBor Guest → (region : ℕ) → MutBor UartPort → Fml
LendsUart guest region uart = Lends guest_row uart_row guest uart
    (λ last. record guest.now { devices = slice_set guest.now.devices region (Uart last) })

abbrev pub LendsAnyPlic : MutBor AnyDevice → MutBor PlicUnit → Fml
LendsAnyPlic device plic = Lends any_row plic_row device plic (λ last. any.Plic last)

abbrev pub LendsDevicePlic : MutBor DeviceState → MutBor PlicUnit → Fml
LendsDevicePlic device plic = Lends device_row plic_row device plic (λ last. Plic last)

abbrev pub LendsPlic : MutBor Guest → (region : ℕ) → MutBor PlicUnit → Fml
LendsPlic guest region plic = Lends guest_row plic_row guest plic
    (λ last. record guest.now { devices = slice_set guest.now.devices region (Plic last) })
