use Rattle.std.proofs.Common.{◌≡◌, ◌+◌, ◌-◌, ◌≤◌, length, take, drop}
use Rattle.std.proofs.Common.{rules, sym, ap, ◌∙◌, arith}
use Rattle.std.proofs.lemmas.List.{length-drop, length-take-le}
use Rattle.std.proofs.lemmas.Slice.{overwrites, take-put_mid}
use Rattle.xv_mem.proofs.Puts.{length-range}
use Rattle.xv_guest.specs.Held.{region_bytes}
use Rattle.xv_guest.proofs.StoreLemmas.{range_none, read_more}
use Rattle.xv_guest.proofs.held.Held.read_bytes.Goals as goal

pub loop-done-init : goal.loop-done-init
loop-done-init c = record {
  most = omega arith;
  bytes = range_none (region_bytes c.args.mem.now c.args.self.now c.args.region)
      c.args.offset;
}

-- as many bytes as are left, or as stand in one page
count_fits : (c : goal.After-copy_from_slice-arg-1)
    → c.loop-done.done + c.piece_len-count.result ≤ length c.loop-done.buf
count_fits c = omega (arith, c.piece_len-count.ensures, c.loop-done-test.true)

piece_size : (c : goal.After-copy_from_slice-arg-1)
    → length c.piece-piece.result.now ≡ c.piece_len-count.result
piece_size c =
    let bytes = region_bytes c.args.mem.now c.args.self.now c.args.region in
    let at = c.args.offset + c.loop-done.done in
    let fits = count_fits c in
    ap length c.piece-piece.ensures
    ∙ length-range bytes at c.piece_len-count.result
    (omega (arith, c.requires.inside, c.loop-done.auto.buf))

pub copy_from_slice-requires : goal.copy_from_slice-requires
copy_from_slice-requires c =
    let left : c.loop-done.done + c.piece_len-count.result - c.loop-done.done
    ≡ c.piece_len-count.result = omega arith in
    let fits = count_fits c in
    let rest = length-drop c.loop-done.done c.loop-done.buf in
    length-take-le (c.loop-done.done + c.piece_len-count.result - c.loop-done.done)
    (drop c.loop-done.done c.loop-done.buf) (omega arith)
    ∙ left ∙ sym (piece_size c)

pub loop-done-preserved : goal.loop-done-preserved
loop-done-preserved c =
    let count = c.piece_len-count.result in
    let done = c.loop-done.done in
    let bytes = region_bytes c.args.mem.now c.args.self.now c.args.region in
    let written = c.copy_from_slice.ensures.after ∙ c.piece-piece.ensures in
    let fits : c.loop-done.done + c.piece_len-count.result ≤ length c.loop-done.buf =
    omega (arith, c.piece_len-count.ensures, c.loop-done-test.true) in
    let size : length c.copy_from_slice.new.self ≡ c.piece_len-count.result =
    ap length written ∙ length-range bytes (c.args.offset + c.loop-done.done)
    c.piece_len-count.result (omega (arith, c.requires.inside, c.loop-done.auto.buf)) in
    record {
      most = search (rules, overwrites);
      bytes =
          take-put_mid done (done + count - done) c.loop-done.buf c.copy_from_slice.new.self
          (done + count) (omega arith) (omega arith)
          ∙ read_more bytes c.args.offset done count (take done c.loop-done.buf)
          c.copy_from_slice.new.self c.loop-done.invariant.bytes written;
    }
