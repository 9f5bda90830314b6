-- What the program's UART is, as an automaton.
use Rattle.std.specs.Prelude.{◌≡◌}
use Rattle.xv_bus.specs.Uart.{UartPort, IsPort}
use Rattle.xv_uart.specs.declared.uart.Uart.TheInside.{Inside}

abbrev pub port_of : Inside → UartPort
port_of uart =
    record {
      shift = uart.shift;
      ier = uart.ier;
      fifo_on = uart.fifo_on;
      trigger = uart.trigger;
      lcr = uart.lcr;
      mcr = uart.mcr;
      msr = uart.msr;
      scr = uart.scr;
      dll = uart.dll;
      dlm = uart.dlm;
      overrun = uart.overrun;
      thre = uart.thre;
      fifo = uart.fifo.items;
      serial = uart.serial;
    }

-- the ring holds a whole FIFO
pub record IsUart (uart : Inside) : Type 0 where
  pub port : IsPort (port_of uart)
  pub room : uart.fifo.capacity ≡ 16
