use Rattle.std.proofs.Common.{◌≡◌, ◌≤◌, ◌*◌, ◌^◌, sum_by, take}
use Rattle.xv_gstage.specs.Audit.{right_pages}
use Rattle.xv_gstage.proofs.count.audit.Given as goal

abbrev pub invariant-loop-region : goal.invariant-loop-region
invariant-loop-region g l = record {
  count : l.count ≡ sum_by (right_pages l.mem l.root l.map l.frames) (take l.region-index l.map);
  small : l.count ≤ l.region-index * 2 ^ 41;
}
