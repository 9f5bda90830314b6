use Rattle.std.proofs.Common.{◌≡◌, List, get_or, ap, sym, ◌∙◌, arith, sum_by}
use Rattle.std.proofs.lemmas.List.{take_all}
use Rattle.xv_region.specs.declared.plan.Region.{Region}
use Rattle.xv_region.proofs.NeedLemmas.{accepted-bounded}
use Rattle.xv_region.proofs.RuleLemmas.{sound-length}
use Rattle.xv_gstage.specs.Audit.{right_pages}
use Rattle.xv_gstage.proofs.AuditLemmas.{audited-is}
use Rattle.xv_gstage.proofs.Room.{need-pages}
use Rattle.xv_gstage.proofs.count.audit.Goals as goal

pub right_pages-count-requires-clause-room : goal.right_pages-count-requires-clause-room
right_pages-count-requires-clause-room g c =
    let enough = c.requires.enough in
    let le = need-pages c.args.map.now in
    omega arith

pub right_pages-count-requires-clause-base : goal.right_pages-count-requires-clause-base
right_pages-count-requires-clause-base g c =
    let value = c.regions-region-items.ensures.value in
    let lt = rw value at c.loop-region-test.true in
    let read : c.region-item.result
    ≡ get_or c.args.map.now c.loop-region.region-index c.region-item.result =
    c.region-item.is
    ∙ ap (λ (rs : List Region). get_or rs c.loop-region.region-index c.region-item.result) value in
    accepted-bounded c.args.map.now c.regions-region-items.ensures.accepted
    c.loop-region.region-index c.region-item.result lt read

pub overflow_add-count : goal.overflow_add-count
overflow_add-count g c =
    let value = c.regions-region-items.ensures.value in
    let lt = rw value at c.loop-region-test.true in
    let few = sound-length c.args.map.now c.regions-region-items.ensures.accepted.sound in
    let small = c.right_pages-count.ensures.small in
    let before = c.loop-region.invariant.small in
    omega arith

pub returns : goal.returns
returns g c =
    let value = c.regions-region-items.ensures.value in
    let end = rw value at c.loop-region-test.false in
    record {
      count =
          c.loop-region.invariant.count
          ∙ ap (sum_by (right_pages c.args.mem.now c.args.root c.args.map.now c.args.frames.now))
          (take_all c.loop-region.region-index c.args.map.now end)
          ∙ sym (audited-is c.args.mem.now c.args.root c.args.map.now c.args.frames.now);
    }
