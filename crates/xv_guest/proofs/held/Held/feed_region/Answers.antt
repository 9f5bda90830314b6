use Rattle.std.proofs.Common.{ℕ, List, ◌++◌, take, sym, ap, subst, arith, ◌∙◌}
use Rattle.sha2.specs.Hashers.{Holds256}
use Rattle.xv_guest.specs.Frames.{bytes_under}
use Rattle.xv_guest.proofs.CellLemmas.{frames_under}
use Rattle.xv_guest.proofs.DigestLemmas.{fed_all, fed_more, fed_none, frame_is, frame_lies}
use Rattle.xv_guest.proofs.DigestLemmas.{index_small, index_within}
use Rattle.xv_guest.proofs.HeldLemmas.{has_enough}
use Rattle.xv_guest.proofs.held.Held.feed_region.Goals as goal

pub loop-frame-init : goal.loop-frame-init
loop-frame-init c = λ fed holds.
    subst (Holds256 c.args.hasher.now)
    (fed_none c.args.mem.now (frames_under c.args.self.now c.args.region) fed) holds

pub frame-requires : goal.frame-requires
frame-requires c =
    record { room = has_enough c.args.mem.now c.args.self.now c.requires.held.memory }

pub frame_bytes-requires : goal.frame_bytes-requires
frame_bytes-requires c =
    frame_lies c.args.self.now c.args.region c.loop-frame.index c.in-Some.frame
    (sym c.frame.ensures.frame ∙ c.in-Some.is) c.args.mem.now c.requires.held.memory

pub overflow_add-index : goal.overflow_add-index
overflow_add-index c =
    let small = index_small c.args.self.now c.args.region c.loop-frame.index
    c.in-Some.frame (sym c.frame.ensures.frame ∙ c.in-Some.is) c.frame.ensures.accepted in
    omega arith

pub loop-frame-smaller : goal.loop-frame-smaller
loop-frame-smaller c =
    let within = index_within c.args.self.now c.args.region c.loop-frame.index
    c.in-Some.frame (sym c.frame.ensures.frame ∙ c.in-Some.is) in
    omega arith

pub loop-frame-preserved : goal.loop-frame-preserved
loop-frame-preserved c = λ fed holds.
    let g = c.args.self.now in
    let xs = frames_under g c.args.region in
    let is = sym c.frame.ensures.frame ∙ c.in-Some.is in
    let before = fed ++ bytes_under c.args.mem.now (take c.loop-frame.index xs) in
    subst (Holds256 c.update.new.self)
    (ap (λ (next : List ℕ). before ++ next) c.frame_bytes.ensures
    ∙ fed_more c.args.mem.now xs fed c.loop-frame.index c.in-Some.frame
    (index_within g c.args.region c.loop-frame.index c.in-Some.frame is)
    (frame_is g c.args.region c.loop-frame.index c.in-Some.frame is c.args.mem.now
    c.requires.held.memory))
    (c.update.ensures before (c.loop-frame.invariant fed holds))

pub returns : goal.returns
returns c = λ fed holds.
    subst (Holds256 c.loop-frame.hasher)
    (fed_all c.args.mem.now c.args.self.now c.requires.held.memory c.args.region
    c.loop-frame.index fed (sym c.frame.ensures.frame ∙ c.in_default.is))
    (c.loop-frame.invariant fed holds)
