use Rattle.std.proofs.Common.{◌≡◌, ℕ, ◌+◌, ◌<◌, List, [], ◌∷◌, ◌++◌, length, get_or, take, drop}
use Rattle.std.proofs.Common.{sum_by, sym, ap, ◌∙◌, arith}
use Rattle.std.proofs.lemmas.List.{append_assoc, drop_more, take_more}
use Rattle.std.proofs.lemmas.List.Sums.{sum_by-append, sum_by-take-drop}
use Rattle.xv_pool.specs.FrameList.{FrameList}
use Rattle.xv_pool.proofs.frames.Frames.take_n.Goals as goal

pub loop-preserved : goal.loop-preserved
loop-preserved c =
    let free = c.args.self.now.free in
    let taken = c.loop.counter in
    let least = c.take_least-frame.result in
    let others = c.take_least-frame.new.self.free in
    let within : taken < length free = omega (arith, c.loop.invariant.0) in
    let was : c.loop.self.free ≡ drop taken free = ap (λ frames. frames.free) c.loop.invariant.2 in
    let both : (least ∷ others) ≡ (get_or free taken 0 ∷ drop (taken + 1) free) =
    sym c.take_least-frame.ensures.frame ∙ (was ∙ drop_more free taken 0 within) in
    let least_is : least ≡ get_or free taken 0 = cc in
    let others_is : others ≡ drop (taken + 1) free = cc in
    let keep : FrameList → List ℕ → FrameList = λ frames rest. record frames { free = rest } in (
      c.loop.invariant.0,
      (c.in-Ok.ensures.items ∙ (ap (λ items. items ++ least ∷ []) c.loop.invariant.1
          ∙ (append_assoc c.args.into.now.items (take taken free) (least ∷ [])
          ∙ (ap (λ frame. c.args.into.now.items ++ (take taken free ++ frame ∷ [])) least_is
          ∙ ap (λ items. c.args.into.now.items ++ items) (sym (take_more free taken 0 within)))))),
      (c.take_least-frame.ensures.others ∙ (ap (λ frames. keep frames others) c.loop.invariant.2
          ∙ ap (keep c.args.self.now) others_is)),
      omega (arith, c.in-Ok.ensures.len, c.push.ensures.capacity, c.loop.invariant.3),
      omega (arith, c.push.ensures.capacity, c.loop.invariant.4),
      c.take_least-frame.ensures.facts,
    )

pub returns-clause-sums : goal.returns-clause-sums
returns-clause-sums c = λ weight.
    let free = c.args.self.now.free in
    let taken = c.loop.counter in
    let joined = ap (sum_by weight) c.loop.invariant.1
    ∙ sum_by-append weight c.args.into.now.items (take taken free) in
    let rest = ap (λ frames. sum_by weight frames.free) c.loop.invariant.2 in
    let whole = sum_by-take-drop weight free taken in
    omega arith
