use Rattle.std.proofs.Common.{◌≡◌, ◌-◌, false, length}
use Rattle.xv_bus.specs.Uart.{is_loop, moved}
use Rattle.xv_uart.proofs.uart.Uart.receive.Given as goal

abbrev pub invariant-loop : goal.invariant-loop
invariant-loop l =
    record { direct : is_loop l.self ≡ false; same : moved l.self ≡ moved l.initial.self }

abbrev pub decreases-loop : goal.decreases-loop
decreases-loop l = 16 - length l.self.fifo
