use Rattle.std.proofs.Common.{◌≡◌, ◌≤◌, ◌<◌, false, length, sym, ap, ◌∙◌, arith}
use Rattle.xv_bus.specs.Uart.{UartPort, fifo_size, is_loop}
use Rattle.xv_uart.specs.Inside.{port_of}
use Rattle.xv_uart.proofs.PortLemmas.{moved-empty, moved-full, moved-next, nothing-first}
use Rattle.xv_uart.proofs.PortLemmas.{size-small}
use Rattle.xv_uart.proofs.uart.Uart.receive_byte.Goals as goal

pub returns-then-len-fifo_size-clause-end : goal.returns-then-len-fifo_size-clause-end
returns-then-len-fifo_size-clause-end c = λ end.
    let full : fifo_size c.args.self.now.fifo_on ≤ length c.args.self.now.fifo =
    omega (
      arith,
      c.if-len-fifo_size.true,
      c.fifo_size.ensures,
      c.len.ensures.len,
      ap (λ (p : UartPort). length p.fifo) c.self.view_is,
    ) in
    moved-full c.args.self.now c.requires full

pub returns-in-Some-clause-same : goal.returns-in-Some-clause-same
returns-in-Some-clause-same c =
    let direct : is_loop (port_of c.self.inside) ≡ false = ap is_loop c.self.view_is ∙ c.requires in
    let room : length c.self.inside.fifo.items < fifo_size c.self.inside.fifo_on =
    omega (
      arith,
      c.if-len-fifo_size.false,
      c.fifo_size.ensures,
      c.len.ensures.len,
      ap (λ (p : UartPort). fifo_size p.fifo_on) c.self.view_is,
    ) in
    rw (c.push_back.ensures.items, c.next.ensures.rest, c.self.invariant.room, ← c.self.view_is)
    (moved-next (port_of c.self.inside) c.in-Some.byte direct (sym c.next.ensures.byte
    ∙ c.in-Some.is) room (size-small c.self.inside.fifo_on))

pub returns-in-None-clause-end : goal.returns-in-None-clause-end
returns-in-None-clause-end c = λ end.
    let direct : is_loop (port_of c.self.inside) ≡ false = ap is_loop c.self.view_is ∙ c.requires in
    rw c.next.ensures.rest
    (moved-empty (port_of c.self.inside) _ direct
    (nothing-first c.self.inside.serial.queue (sym c.next.ensures.byte ∙ c.in-None.is)))
