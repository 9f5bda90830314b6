use Rattle.std.proofs.Common.{◌≤◌, ◌+◌, length, ap, arith, length-append}
use Rattle.xv_uart.proofs.PortLemmas.{padded-pieces}
use Rattle.xv_uart.proofs.uart.padded.Goals as goal

pub returns : goal.returns
returns c =
    let front = c.as_slices.result.0.now in
    let back = c.as_slices.result.1.now in
    let fits : length front + length back ≤ 16 =
    omega (arith, c.requires, length-append front back, ap length c.as_slices.ensures) in
    rw (c.overwrite-2.ensures, c.overwrite.ensures, ← c.as_slices.ensures)
    (padded-pieces front back fits)
