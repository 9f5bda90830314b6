use Rattle.std.proofs.Common.{get_or, ap, arith}
use Rattle.xv_pool.specs.Resources.{Resources}
use Rattle.xv_guest.proofs.FrameLemmas.{hits-get_or}
use Rattle.xv_guest.proofs.GiveLemmas.{next_out}
use Rattle.xv_guest.proofs.give.give_frames.Goals as goal

pub give-requires-clause-least : goal.give-requires-clause-least
give-requires-clause-least c =
    let frame = get_or c.args.frames.now c.loop-frame.frame-index 0 in
    let some = hits-get_or c.args.frames.now c.loop-frame.frame-index 0 c.loop-frame-test.true in
    let bounds = c.requires.pool frame some in
    let first = ap (λ (pool : Resources). pool.first) c.loop-frame.invariant.others in
    omega arith

pub give-requires-clause-greatest : goal.give-requires-clause-greatest
give-requires-clause-greatest c =
    let frame = get_or c.args.frames.now c.loop-frame.frame-index 0 in
    let some = hits-get_or c.args.frames.now c.loop-frame.frame-index 0 c.loop-frame-test.true in
    let bounds = c.requires.pool frame some in
    let first = ap (λ (pool : Resources). pool.first) c.loop-frame.invariant.others in
    let count = ap (λ (pool : Resources). pool.count) c.loop-frame.invariant.others in
    omega arith

pub give-requires-clause-out : goal.give-requires-clause-out
give-requires-clause-out c =
    next_out c.args.frames.now c.args.pool.now.free c.loop-frame.pool.free
    c.loop-frame.frame-index c.loop-frame-test.true c.requires.out c.loop-frame.invariant.sums
