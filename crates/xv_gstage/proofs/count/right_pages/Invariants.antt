use Rattle.std.proofs.Common.{◌≡◌, ◌≤◌, ◌/◌}
use Rattle.xv_gstage.specs.Audit.{right_from}
use Rattle.xv_gstage.proofs.count.right_pages.Given as goal

abbrev pub invariant-loop-i : goal.invariant-loop-i
invariant-loop-i g l = record {
  count : l.count ≡ right_from l.mem l.root l.map l.frames (l.region.base / 4096) l.i;
  small : l.count ≤ l.i;
}
