use Rattle.std.proofs.Common.{◌≡◌, ◌+◌, ◌*◌, ◌/◌, ◌%◌, sym, subst, arith}
use Rattle.xv_guest.specs.Frames.{IsInside}
use Rattle.xv_guest.proofs.CellLemmas.{frame, frame_here, frame_inside}
use Rattle.xv_guest.proofs.HeldLemmas.{has_enough}
use Rattle.xv_guest.proofs.held.Held.host_at.Goals as goal

pub frame-requires : goal.frame-requires
frame-requires c =
    record { room = has_enough c.args.mem.now c.args.self.now c.requires.held.memory }

pub unreachable-requires : goal.unreachable-requires
unreachable-requires c =
    let here = frame_here c.args.mem.now c.args.self.now c.requires.held.memory
    c.args.region c.args.offset c.requires.inside in
    let none = c.in_default.is in
    let found = c.frame.ensures.frame in
    cc

-- the frame that was found lies in the memory
inside : (c : goal.After-frames-frames) → IsInside c.args.mem.now c.in-Some.frame
inside c =
    let g = c.args.self.now in
    let here = frame_here c.args.mem.now g c.requires.held.memory c.args.region c.args.offset
    c.requires.inside in
    let found = c.frame.ensures.frame in
    let some = c.in-Some.is in
    let same : c.in-Some.frame
    ≡ frame c.args.mem.now g c.requires.held.memory c.args.region c.args.offset
    c.requires.inside = cc in
    subst (IsInside c.args.mem.now) (sym same)
    (frame_inside c.args.mem.now g c.requires.held.memory c.args.region c.args.offset
    c.requires.inside)

pub overflow_mul-result : goal.overflow_mul-result
overflow_mul-result c = omega (arith, inside c)

pub overflow_add-result : goal.overflow_add-result
overflow_add-result c = omega (arith, inside c)

pub returns-clause-inside : goal.returns-clause-inside
returns-clause-inside c =
    let place : (4096 * c.in-Some.frame + c.args.offset % 4096) / 4096 ≡ c.in-Some.frame =
    omega arith in
    subst (IsInside c.args.mem.now) (sym place) (inside c)
