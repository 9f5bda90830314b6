use Rattle.std.proofs.Common.{◌+◌, ◌*◌, ◌/◌, ◌^◌, ◌≤◌, take, sym, arith}
use Rattle.std.proofs.Math.Nat.{div-le_self}
use Rattle.xv_region.proofs.NeedLemmas.{accepted-apart, accepted-bounded, accepted-some, blocks-le}
use Rattle.xv_region.proofs.NeedLemmas.{blocks-more, blocks-none}
use Rattle.xv_region.proofs.need.blocks_touched.Goals as goal

pub loop-number-init : goal.loop-number-init
loop-number-init c = sym (blocks-none c.args.size (2 ^ 41 / c.args.size))

pub new_blocks-total-requires-clause-apart : goal.new_blocks-total-requires-clause-apart
new_blocks-total-requires-clause-apart c =
    accepted-apart c.args.regions.now c.requires.accepted c.loop-number.number
    c.index-regions-number.result c.loop-number-test.true c.index-regions-number.is

pub new_blocks-total-requires-clause-some : goal.new_blocks-total-requires-clause-some
new_blocks-total-requires-clause-some c =
    accepted-some c.args.regions.now c.requires.accepted c.loop-number.number
    c.index-regions-number.result c.loop-number-test.true c.index-regions-number.is

pub new_blocks-total-requires-clause-bounded : goal.new_blocks-total-requires-clause-bounded
new_blocks-total-requires-clause-bounded c =
    accepted-bounded c.args.regions.now c.requires.accepted c.loop-number.number
    c.index-regions-number.result c.loop-number-test.true c.index-regions-number.is

pub loop-number-preserved : goal.loop-number-preserved
loop-number-preserved c =
    let n = 2 ^ 41 / c.args.size in
    let region = c.index-regions-number.result in
    let end = accepted-bounded c.args.regions.now c.requires.accepted c.loop-number.number region
    c.loop-number-test.true c.index-regions-number.is in
    let whole : region.base + region.size ≤ n * c.args.size = omega (arith, c.requires.whole) in
    let new = c.new_blocks-total.ensures.count n whole in
    let more = blocks-more c.args.size n c.args.regions.now c.loop-number.number region
    c.loop-number-test.true c.index-regions-number.is in
    cc

pub overflow_add-total : goal.overflow_add-total
overflow_add-total c =
    let n = 2 ^ 41 / c.args.size in
    let region = c.index-regions-number.result in
    let end = accepted-bounded c.args.regions.now c.requires.accepted c.loop-number.number region
    c.loop-number-test.true c.index-regions-number.is in
    let whole : region.base + region.size ≤ n * c.args.size = omega (arith, c.requires.whole) in
    let new = c.new_blocks-total.ensures.count n whole in
    let more = blocks-more c.args.size n c.args.regions.now c.loop-number.number region
    c.loop-number-test.true c.index-regions-number.is in
    let most = blocks-le c.args.size n (take (c.loop-number.number + 1) c.args.regions.now) in
    let less : n ≤ 2 ^ 41 = div-le_self (2 ^ 41) c.args.size in
    omega arith

pub returns-clause-small : goal.returns-clause-small
returns-clause-small c =
    let n = 2 ^ 41 / c.args.size in
    let most = blocks-le c.args.size n (take c.loop-number.number c.args.regions.now) in
    let less : n ≤ 2 ^ 41 = div-le_self (2 ^ 41) c.args.size in
    omega arith
