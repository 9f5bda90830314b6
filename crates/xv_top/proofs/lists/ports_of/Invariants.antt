use Rattle.std.proofs.Common.{◌≡◌, ◌+◌, ◌*◌, ◌≤◌, ◌++◌, length, take}
use Rattle.xv_top.proofs.ListLemmas.{port_lines}
use Rattle.xv_top.proofs.lists.ports_of.Given as goal

abbrev pub invariant-loop-region : goal.invariant-loop-region
invariant-loop-region l = record {
  text : l.printer ≡ l.fn.printer ++ port_lines l.name (take l.region-index l.regions);
  short : length l.printer ≤ length l.fn.printer + 120 * l.region-index;
}
