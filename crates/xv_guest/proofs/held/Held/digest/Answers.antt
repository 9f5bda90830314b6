use Rattle.std.proofs.Common.{ℕ, List, length, take, ap, ◌∙◌, arith, subst}
use Rattle.std.specs.List.{concat}
use Rattle.std.proofs.lemmas.List.{take_all}
use Rattle.sha2.specs.Hashers.{Holds256}
use Rattle.sha2.specs.Sha256.{sha256}
use Rattle.xv_region.proofs.RuleLemmas.{sound-length}
use Rattle.xv_guest.specs.Held.{memory_of}
use Rattle.xv_guest.proofs.DigestLemmas.{concat_more, memory_length}
use Rattle.xv_guest.proofs.held.Held.digest.Goals as goal

pub overflow_cast-region : goal.overflow_cast-region
overflow_cast-region c =
    let few = sound-length c.map.result.now c.regions-count.ensures.accepted.sound in
    let same = ap length c.regions-count.ensures.value in
    omega arith

pub loop-region-preserved : goal.loop-region-preserved
loop-region-preserved c =
    let g = c.args.self.now in
    let lists = memory_of c.args.mem.now g in
    let size = memory_length c.args.mem.now g in
    let count = ap length (c.regions-count.ensures.value ∙ c.map.ensures) in
    subst (Holds256 c.feed_region.new.hasher)
    (concat_more lists c.loop-region.region (omega (arith, size, count, c.loop-region-test.true)))
    (c.feed_region.ensures (concat (take c.loop-region.region lists)) c.loop-region.invariant)

pub returns : goal.returns
returns c =
    let g = c.args.self.now in
    let lists = memory_of c.args.mem.now g in
    let size = memory_length c.args.mem.now g in
    let count = ap length (c.regions-count.ensures.value ∙ c.map.ensures) in
    c.finalize.ensures (concat (take c.loop-region.region lists)) c.loop-region.invariant
    ∙ ap (λ (all : List (List ℕ)). sha256 (concat all))
    (take_all c.loop-region.region lists
    (omega (arith, size, count, c.loop-region-test.false)))
