use Rattle.std.proofs.Common.{arith}
use Rattle.std.proofs.lemmas.Bool.Decides.{nat_tests}
use Rattle.xv_trap.proofs.DelegationLemmas.{has_bit-past}
use Rattle.xv_trap.proofs.delegation.has_bit.Goals as goal

pub returns-else-bit-lt64 : goal.returns-else-bit-lt64
returns-else-bit-lt64 c =
    rw (has_bit-past c.args.number c.args.bit (omega arith) c.if-bit-lt64.false)
    (grind (arith, nat_tests))
