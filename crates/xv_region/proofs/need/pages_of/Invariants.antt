use Rattle.std.proofs.Common.{◌≡◌, ◌*◌, ◌≤◌, ◌^◌, take, sum_by}
use Rattle.xv_region.specs.Need.{own_pages}
use Rattle.xv_region.proofs.need.pages_of.Given as goal

abbrev pub invariant-loop-region : goal.invariant-loop-region
invariant-loop-region l = record {
  sum : l.pages ≡ sum_by own_pages (take l.region-index l.regions);
  small : l.pages ≤ l.region-index * 2 ^ 41;
}
