use Rattle.std.proofs.Common.{◌≡◌, ◌+◌, ◌*◌, ◌≤◌, ◌++◌, length, take}
use Rattle.std.specs.List.{flat_map}
use Rattle.xv_print.specs.Escape.{escaped}
use Rattle.xv_top.proofs.lists.kept.Given as goal

abbrev pub invariant-loop-at : goal.invariant-loop-at
invariant-loop-at l = record {
  text : l.printer ≡ l.fn.printer ++ flat_map escaped (take l.at l.serial.kept);
  short : length l.printer ≤ length l.fn.printer + 4 * l.at;
}
