use Rattle.std.proofs.Common.{◌≡◌, true, replicate, refl, arith}
use Rattle.std.proofs.lemmas.List.{length-replicate}
use Rattle.xv_pool.proofs.MarkLemmas.{are_free, marked_from-replicate, length-up_from}
use Rattle.xv_pool.proofs.frames.Frames.new.Goals as goal

pub invariant_of-result : goal.invariant_of-result
invariant_of-result c =
    let all : c.in_ok-marks.marks.items ≡ replicate c.args.count true =
    c.in_ok-marks.ensures.items_if_clones_equal (λ mark same. same) in
    record {
      small = rw (all, length-replicate) c.requires;
      counted = rw (all, marked_from-replicate, length-up_from) refl;
      next = λ place below. absurd (omega arith);
    }

pub returns-clause-free : goal.returns-clause-free
returns-clause-free c =
    let all : c.in_ok-marks.marks.items ≡ replicate c.args.count true =
    c.in_ok-marks.ensures.items_if_clones_equal (λ mark same. same) in
    rw (all, length-replicate, marked_from-replicate) refl

pub returns-clause-facts : goal.returns-clause-facts
returns-clause-facts c = are_free c.args.first c.in_ok-marks.marks.items
