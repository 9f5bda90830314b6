use Rattle.std.proofs.Common.{◌/◌, ◌≤◌, sym, arith, Bool, true, false, cond}
use Rattle.xv_gstage.proofs.AuditLemmas.{right-more, right-zero}
use Rattle.xv_gstage.proofs.count.right_pages.Goals as goal

pub loop-i-init : goal.loop-i-init
loop-i-init g c = record {
  count = sym (right-zero c.args.mem.now c.args.root c.args.map.now c.args.frames.now
      (c.args.region.now.base / 4096));
  small = omega arith;
}

one : (b : Bool) → cond b 1 0 ≤ 1
one true = omega arith
one false = omega arith

pub loop-i-preserved : goal.loop-i-preserved
loop-i-preserved g c =
    let more = right-more c.args.mem.now c.args.root c.args.map.now c.args.frames.now
    (c.args.region.now.base / 4096) c.loop-i.i c.is_right-right.result
    c.is_right-right.ensures.right in
    let added = c.one_if-count.ensures in
    let most = one c.is_right-right.result in
    let count = c.loop-i.invariant.count in
    let small = c.loop-i.invariant.small in
    record { count = omega arith; small = omega arith }
