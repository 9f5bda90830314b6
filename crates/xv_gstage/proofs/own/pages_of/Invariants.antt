use Rattle.std.proofs.Common.{◌≡◌, take, sum_by}
use Rattle.xv_region.specs.Need.{own_pages}
use Rattle.xv_gstage.proofs.own.pages_of.Given as goal

abbrev pub invariant-loop-region : goal.invariant-loop-region
invariant-loop-region l = l.pages ≡ sum_by own_pages (take l.region-index l.regions)
