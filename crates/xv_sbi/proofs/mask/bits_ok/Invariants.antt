use Rattle.std.proofs.Common.{◌≡◌, true}
use Rattle.xv_sbi.specs.Mask.{bits_ok}
use Rattle.xv_sbi.proofs.mask.bits_ok.Given as goal

abbrev pub invariant-loop-bit : goal.invariant-loop-bit
invariant-loop-bit l = bits_ok l.bit l.mask l.base l.vcpus ≡ true
