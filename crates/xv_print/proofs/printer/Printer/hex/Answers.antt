use Rattle.std.proofs.Common.{arith, append_assoc}
use Rattle.xv_print.proofs.TextLemmas.{hex_bytes-take_more}
use Rattle.xv_print.proofs.printer.Printer.hex.Goals as goal

pub loop-byte-preserved : goal.loop-byte-preserved
loop-byte-preserved c =
    let more = hex_bytes-take_more c.args.bytes.now c.loop-byte.byte-index (omega arith) in record {
      printed = grind (arith, append_assoc, more);
      longer = grind arith;
    }
