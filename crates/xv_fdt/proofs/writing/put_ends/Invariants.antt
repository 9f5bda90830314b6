use Rattle.std.proofs.Common.{◌≡◌, ◌-◌, ◌++◌}
use Rattle.xv_fdt.specs.Written as spec
use Rattle.xv_fdt.proofs.writing.put_ends.Given as goal

abbrev pub invariant-loop : goal.invariant-loop
invariant-loop l =
    l.out.items ++ spec.ends (l.count - l.counter) ≡ l.fn.out.items ++ spec.ends l.count
