-- What a UART is once a loan of its queues has ended.
use Rattle.std.specs.Borrow.{Lends, MutBor, Fml}
use Rattle.xv_base.specs.Serial.{Serial}
use Rattle.xv_bus.specs.Uart.{UartPort}
use Rattle.xv_uart.specs.contracts.uart.Uart.{the_row}
use Rattle.xv_vserial.specs.contracts.serial.Vserial.{the_row as serial_row}

-- its queues are then the last that the loan had
abbrev pub LendsSerial : MutBor UartPort → MutBor Serial → Fml
LendsSerial uart serial =
    Lends the_row serial_row uart serial (λ last. record uart.now { serial = last })
