use Rattle.std.proofs.Common.{refl, sym, arith}
use Rattle.xv_sbi.specs.Mask.{bits_ok}
use Rattle.xv_sbi.proofs.MaskLemmas.{bits_ok-more, bits_ok-wrong}
use Rattle.xv_sbi.proofs.mask.bits_ok.Goals as goal

pub loop-bit-init : goal.loop-bit-init
unfolding bits_ok
loop-bit-init c = refl

pub loop-bit-preserved : goal.loop-bit-preserved
loop-bit-preserved c =
    bits_ok-more c.args.mask c.args.base c.args.vcpus c.loop-bit.bit c.loop-bit.invariant
    (sym c.if-not-bit_ok.ensures)

pub returns-then-not-bit_ok : goal.returns-then-not-bit_ok
returns-then-not-bit_ok c =
    sym (bits_ok-wrong c.args.mask c.args.base c.args.vcpus 64 c.loop-bit.bit (omega arith)
    (sym c.if-not-bit_ok.ensures))
