use Rattle.std.proofs.Common.{◌≡◌, ◌+◌, ◌-◌, ◌<◌, ◌≤◌, [], length, get_or, take, drop}
use Rattle.std.proofs.Common.{ap, ◌∙◌, arith}
use Rattle.std.proofs.lemmas.List.{length-take-le}
use Rattle.xv_lone.specs.Memory.{Memory, store_place}
use Rattle.xv_guest.specs.Held.{memory_of}
use Rattle.xv_guest.proofs.StoreLemmas.{place, store_more, store_none, store_size}
use Rattle.xv_guest.proofs.WithinLemmas.{memory_both, memory_held, memory_none}
use Rattle.xv_guest.proofs.held.Held.put_bytes.Goals as goal

pub loop-done-init : goal.loop-done-init
loop-done-init c = record {
  most = omega arith;
  memory = store_none (memory_of c.args.mem.now c.args.self.now) c.args.region
      c.args.offset;
  within = memory_none c.args.self.now c.args.mem.now;
}

pub put_piece-requires-clause-held : goal.put_piece-requires-clause-held
put_piece-requires-clause-held c =
    memory_held c.args.self.now c.args.mem.now c.loop-done.mem
    c.loop-done.invariant.within c.requires.held

pub put_piece-requires-clause-inside : goal.put_piece-requires-clause-inside
put_piece-requires-clause-inside c =
    let g = c.args.self.now in
    let first = memory_of c.args.mem.now g in
    let front : length (take c.loop-done.done c.args.bytes.now) ≡ c.loop-done.done =
    length-take-le c.loop-done.done c.args.bytes.now c.loop-done.invariant.most in
    let size = store_size first c.args.region c.args.offset
    (take c.loop-done.done c.args.bytes.now)
    (omega (arith, c.requires.inside, c.loop-done.invariant.most, front)) in
    let same = ap (λ (m : Memory). length (get_or m c.args.region []))
    c.loop-done.invariant.memory in
    omega (arith, size, same, c.requires.inside, c.loop-done-test.true)

pub loop-done-preserved : goal.loop-done-preserved
loop-done-preserved c =
    let g = c.args.self.now in
    let first = memory_of c.args.mem.now g in
    let count = c.piece_len-count.result in
    let done = c.loop-done.done in
    let more : 0 < c.piece_len-count.result =
    omega (arith, c.piece_len-count.ensures, c.loop-done-test.true) in
    let most : c.loop-done.done + c.piece_len-count.result ≤ length c.args.bytes.now =
    omega (arith, c.piece_len-count.ensures, c.loop-done-test.true) in
    record {
      most = most;
      memory = c.put_piece.ensures.memory
          ∙ ap (λ (m : Memory). store_place m (place c.args.region (c.args.offset + done))
          (take (done + count - done) (drop done c.args.bytes.now))) c.loop-done.invariant.memory
          ∙ store_more first c.args.region c.args.offset c.args.bytes.now done count more most
          c.requires.inside;
      within = memory_both g c.args.mem.now c.loop-done.mem c.put_piece.new.mem
          c.loop-done.invariant.within c.put_piece.ensures.within;
    }
