use Rattle.std.proofs.Common.{◌∙◌, arith}
use Rattle.std.proofs.Math.ListN.{length-set}
use Rattle.xv_print.proofs.TextLemmas.{hex_digits_step, hex16_written}
use Rattle.xv_print.proofs.digits.sixteen_digits.Goals as goal

pub loop-place-preserved : goal.loop-place-preserved
loop-place-preserved c = record {
  sixteen = simp length-set c.loop-place.invariant.sixteen;
  written = rw c.digit.ensures
      (hex_digits_step c.loop-place.place _ c.loop-place.rest c.loop-place.digits (omega arith)
      (omega arith) ∙ c.loop-place.invariant.written);
}

pub returns : goal.returns
returns c = hex16_written _ _ _ _ c.loop-place-test.false c.loop-place.invariant.written
