use Rattle.std.proofs.Common.{◌≡◌, List, get_or, ap, ◌∙◌}
use Rattle.xv_region.specs.declared.plan.Region.{Region}
use Rattle.xv_gstage.proofs.CellsOf.{whole-at}
use Rattle.xv_gstage.proofs.EagerLemmas.{all-led, memory-of, not-before}
use Rattle.xv_gstage.proofs.eager.fill_all.Goals as goal

pub fill_region-used-requires-clause-memory : goal.fill_region-used-requires-clause-memory
fill_region-used-requires-clause-memory g c = λ page is.
    let value = c.regions-region-items.ensures.value in
    let lt = rw value at c.loop-region-test.true in
    let read : c.region-item.result
    ≡ get_or c.args.map.now c.loop-region.region-index c.region-item.result =
    c.region-item.is
    ∙ ap (λ (rs : List Region). get_or rs c.loop-region.region-index c.region-item.result) value in
    memory-of c.args.mem.now c.args.root c.args.map.now c.args.frames.now
    c.regions-region-items.ensures.accepted c.loop-region.region-index c.region-item.result
    lt read page is

pub fill_region-used-requires-clause-unled : goal.fill_region-used-requires-clause-unled
fill_region-used-requires-clause-unled g c = λ page is.
    let value = c.regions-region-items.ensures.value in
    let lt = rw value at c.loop-region-test.true in
    let read : c.region-item.result
    ≡ get_or c.args.map.now c.loop-region.region-index c.region-item.result =
    c.region-item.is
    ∙ ap (λ (rs : List Region). get_or rs c.loop-region.region-index c.region-item.result) value in
    c.loop-region.invariant.led_out page
    (not-before c.args.mem.now c.args.root c.args.map.now c.args.frames.now
    c.regions-region-items.ensures.accepted c.loop-region.region-index c.region-item.result
    lt read page is)

pub fill_region-used-requires-clause-whole : goal.fill_region-used-requires-clause-whole
fill_region-used-requires-clause-whole g c =
    let value = c.regions-region-items.ensures.value in
    let lt = rw value at c.loop-region-test.true in
    let read : c.region-item.result
    ≡ get_or c.args.map.now c.loop-region.region-index c.region-item.result =
    c.region-item.is
    ∙ ap (λ (rs : List Region). get_or rs c.loop-region.region-index c.region-item.result) value in
    whole-at c.args.map.now c.regions-region-items.ensures.accepted c.loop-region.region-index
    c.region-item.result lt read

pub returns-clause-led : goal.returns-clause-led
returns-clause-led g c =
    let value = c.regions-region-items.ensures.value in
    let end = rw value at c.loop-region-test.false in
    all-led c.args.mem.now c.args.root c.args.map.now c.args.frames.now c.loop-region.mem
    c.loop-region.region-index c.loop-region.used c.regions-region-items.ensures.accepted end
    c.loop-region.invariant
