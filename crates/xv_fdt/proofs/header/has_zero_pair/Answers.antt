use Rattle.std.proofs.Common.{◌≡◌, true, false, sym, ◌∙◌, arith}
use Rattle.xv_fdt.specs.Header as headers
use Rattle.xv_fdt.proofs.HeaderLemmas.{has_zero_pair-here, has_zero_pair-more, has_zero_pair-none}
use Rattle.xv_fdt.proofs.header.has_zero_pair.Goals as goal

pub returns-then-is_zero_pair : goal.returns-then-is_zero_pair
returns-then-is_zero_pair c =
    let here : headers.is_zero_pair c.args.bytes.now c.loop.at ≡ true = cc in
    sym (has_zero_pair-here c.args.count c.loop.counter c.args.bytes.now c.loop.at c.loop-test.true
    here) ∙ c.loop.invariant.same

pub loop-preserved : goal.loop-preserved
loop-preserved c =
    let other : headers.is_zero_pair c.args.bytes.now c.loop.at ≡ false = cc in
    record {
      left = omega arith;
      same = sym (has_zero_pair-more c.args.count c.loop.counter c.args.bytes.now c.loop.at
          c.loop-test.true other) ∙ c.loop.invariant.same;
    }

pub returns : goal.returns
returns c =
    sym (has_zero_pair-none c.args.count c.loop.counter c.args.bytes.now c.loop.at
    c.loop-test.false) ∙ c.loop.invariant.same
