use Rattle.std.proofs.Common.{ap, arith}
use Rattle.std.proofs.lemmas.List.Sums.{sum_by_more}
use Rattle.xv_region.specs.Need.{own_pages}
use Rattle.xv_region.proofs.NeedLemmas.{own-small}
use Rattle.xv_region.proofs.RuleLemmas.{sound-length}
use Rattle.xv_region.proofs.need.pages_of.Goals as goal

pub overflow_add-pages : goal.overflow_add-pages
overflow_add-pages c =
    let small = own-small c.args.regions.now c.loop-region.region-index c.region-item.result
    c.requires.sound c.loop-region-test.true c.region-item.is in
    let few = sound-length c.args.regions.now c.requires.sound in
    omega arith

pub loop-region-preserved : goal.loop-region-preserved
loop-region-preserved c =
    let i = c.loop-region.region-index in
    let small = own-small c.args.regions.now i c.region-item.result c.requires.sound
    c.loop-region-test.true c.region-item.is in
    let more = sum_by_more own_pages c.args.regions.now i c.region-item.result
    c.loop-region-test.true in
    let here = ap own_pages c.region-item.is in
    record { sum = omega arith; small = omega arith }
