use Rattle.std.proofs.Common.{◌≡◌, ◌-◌, ◌++◌, replicate}
use Rattle.xv_fdt.proofs.writing.put_zeros.Given as goal

abbrev pub invariant-loop : goal.invariant-loop
invariant-loop l =
    l.out.items ++ replicate (l.count - l.counter) 0 ≡ l.fn.out.items ++ replicate l.count 0
