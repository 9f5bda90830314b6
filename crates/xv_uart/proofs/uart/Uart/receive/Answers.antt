use Rattle.std.proofs.Common.{sym, ◌∙◌}
use Rattle.xv_uart.proofs.PortLemmas.{moved-loop}
use Rattle.xv_uart.proofs.uart.Uart.receive.Goals as goal

pub returns-then-is_loop : goal.returns-then-is_loop
returns-then-is_loop c =
    sym (moved-loop c.args.self.now (sym c.is_loop.ensures ∙ c.if-is_loop.true))
