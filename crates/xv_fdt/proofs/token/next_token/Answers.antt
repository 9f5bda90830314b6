use Rattle.std.proofs.Common.{◌+◌, ◌≤◌, ◌∙◌, length, sym, arith}
use Rattle.xv_fdt.proofs.TokenLemmas.{tokens-nop}
use Rattle.xv_fdt.proofs.token.next_token.Goals as goal

pub loop-at-preserved : goal.loop-at-preserved
loop-at-preserved c =
    let whole : c.loop-at.at + 4 ≤ length c.args.block.now = c.in-Nop.ensures.whole (λ other. cc) in
    record {
      near = omega arith;
      forward = omega arith;
      same = λ strings. sym
          (tokens-nop c.args.block.now strings c.loop-at.at (sym c.in-Nop.ensures.mark))
          ∙ c.loop-at.invariant.same strings;
    }

pub loop-at-smaller : goal.loop-at-smaller
loop-at-smaller c =
    let whole : c.loop-at.at + 4 ≤ length c.args.block.now = c.in-Nop.ensures.whole (λ other. cc) in
    omega arith
