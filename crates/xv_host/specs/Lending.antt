-- What a table ends as, where a `&mut` to one of its values is returned.
use Rattle.std.specs.Prelude.{ℕ, List, Option, Some, option_map, slice_set}
use Rattle.std.specs.Borrow.{Lends, Fml, RattleType, MutBor}
use Rattle.xv_bus.specs.Uart.{UartPort}
use Rattle.xv_uart.specs.contracts.uart.Uart.{the_row as uart_row}
use Rattle.xv_lone.specs.Device.{Uart}
use Rattle.xv_guest.specs.Guest.{Guest}
use Rattle.xv_host.specs.Host.{Host}
use Rattle.xv_host.specs.Places.{Places, guest_at}
use Rattle.xv_host.specs.contracts.host.Host.{the_row as host_row}
use Rattle.xv_host.specs.contracts.table.Table.{the_row}

module _ (T : RattleType) (table : MutBor (List (Option T.Denot))) (key : ℕ) where
  -- once the borrow r ends, the key has the last value written through r
  abbrev pub lends_value : MutBor T.Denot → Fml
  lends_value r = Lends (the_row T) T table r (λ value. slice_set table.now key (Some value))

-- the guest with another UART in a region
abbrev pub with_uart : (region : ℕ) → UartPort → Guest → Guest
with_uart region port g = record g { devices = slice_set g.devices region (Uart port) }

-- the places in which the guest of a key has another UART in a region
abbrev pub places_with : Places → (key region : ℕ) → UartPort → Places
places_with places key region port =
    slice_set places key (option_map (with_uart region port) (guest_at places key))

-- once the loan has ended, the UART of the guest's region is the last that it had
abbrev pub LendsUart : MutBor Host → (key region : ℕ) → MutBor UartPort → Fml
LendsUart host key region uart =
    Lends host_row uart_row host uart
    (λ last. record host.now { guests = places_with host.now.guests key region last })
