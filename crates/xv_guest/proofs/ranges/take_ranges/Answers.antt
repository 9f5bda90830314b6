use Rattle.std.proofs.Common.{◌≡◌, ◌++◌, List, length, take, sym, ap, ◌∙◌, subst, arith}
use Rattle.std.proofs.Common.{append-nil, length-append, false}
use Rattle.std.specs.List.{All, list_any}
use Rattle.xv_base.specs.declared.keys.Span.{Span}
use Rattle.xv_base.specs.Range.{LiesIn, meets_one}
use Rattle.xv_pool.specs.Resources.{Resources}
use Rattle.xv_guest.specs.Frames.{ranges_of, reserved_ranges}
use Rattle.xv_guest.proofs.RangeLemmas.{take-area, take-room, take-free, take-more}
use Rattle.xv_guest.proofs.ranges.take_ranges.Goals as goal

with_held : Resources → List Span → Resources
with_held pool held = record pool { held = held }

pub loop-region-init : goal.loop-region-init
unfolding reserved_ranges with_held
loop-region-init c =
    ap (with_held c.args.pool.now) (sym (append-nil c.args.pool.now.held))

pub take_range-requires-clause-area : goal.take_range-requires-clause-area
take_range-requires-clause-area c =
    let P : Resources → Type 0 =
    λ pool. All (λ range. LiesIn range pool.area) (ranges_of c.region-item.result) in
    subst P (sym c.loop-region.invariant)
    (take-area c.args.regions.now c.loop-region.region-index c.region-item.result
    c.loop-region-test.true c.region-item.is c.args.pool.now.area c.requires.area)

pub take_range-requires-clause-room : goal.take_range-requires-clause-room
take_range-requires-clause-room c =
    let room = take-room c.args.regions.now c.loop-region.region-index c.region-item.result
    c.loop-region-test.true c.region-item.is in
    let now = ap (λ (pool : Resources). length pool.held) c.loop-region.invariant in
    let parts = length-append c.args.pool.now.held
    (reserved_ranges (take c.loop-region.region-index c.args.regions.now)) in
    let all = c.requires.room in
    omega arith

pub take_range-requires-clause-free : goal.take_range-requires-clause-free
take_range-requires-clause-free c =
    let P : Resources → Type 0 =
    λ pool. list_any (meets_one pool.held) (ranges_of c.region-item.result) ≡ false in
    subst P (sym c.loop-region.invariant)
    (take-free c.args.regions.now c.loop-region.region-index c.region-item.result
    c.loop-region-test.true c.region-item.is c.args.pool.now.held c.requires.accepted
    c.requires.free)

pub loop-region-preserved : goal.loop-region-preserved
unfolding with_held
loop-region-preserved c =
    let more = take-more c.args.regions.now c.loop-region.region-index c.region-item.result
    c.loop-region-test.true c.region-item.is c.args.pool.now.held in
    c.take_range.ensures
    ∙ ap (λ (pool : Resources). with_held pool (pool.held ++ ranges_of c.region-item.result))
    c.loop-region.invariant
    ∙ ap (with_held c.args.pool.now) more
