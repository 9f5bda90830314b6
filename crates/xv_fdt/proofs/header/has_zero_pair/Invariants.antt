use Rattle.std.proofs.Common.{◌≡◌, ◌*◌, ◌-◌, ◌≤◌, length}
use Rattle.xv_fdt.specs.Header as headers
use Rattle.xv_fdt.proofs.header.has_zero_pair.Given as goal

abbrev pub invariant-loop : goal.invariant-loop
invariant-loop l = record {
  left : 16 * (l.count - l.counter) ≤ length l.bytes - l.at;
  same : headers.has_zero_pair (l.count - l.counter) l.bytes l.at
      ≡ headers.has_zero_pair l.count l.bytes l.from;
}
