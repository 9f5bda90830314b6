use Rattle.std.proofs.Common.{ap, arith}
use Rattle.std.proofs.lemmas.List.Sums.{sum_by_more, sum_by_more_le}
use Rattle.xv_region.specs.Need.{own_pages}
use Rattle.xv_gstage.proofs.own.pages_of.Goals as goal

pub overflow_add-pages : goal.overflow_add-pages
overflow_add-pages c =
    let less = sum_by_more_le own_pages c.args.regions.now c.loop-region.region-index
    c.region-item.result c.loop-region-test.true in
    let here = ap own_pages c.region-item.is in
    omega arith

pub loop-region-preserved : goal.loop-region-preserved
loop-region-preserved c =
    let more = sum_by_more own_pages c.args.regions.now c.loop-region.region-index
    c.region-item.result c.loop-region-test.true in
    let here = ap own_pages c.region-item.is in
    omega arith
