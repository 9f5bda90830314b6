use Rattle.std.proofs.Common.{sym, ◌∙◌, arith}
use Rattle.xv_bus.specs.Plic.{context_line, is_above_threshold}
use Rattle.xv_plic.proofs.BelowLemmas.{some_below-none, some_below-finds}
use Rattle.xv_plic.proofs.registers.Registers.line.Goals as goal

pub returns-then-is_above_threshold : goal.returns-then-is_above_threshold
unfolding context_line
returns-then-is_above_threshold c =
    sym (some_below-finds (is_above_threshold c.args.self.now c.args.context) 64 c.loop-id.id
    c.loop-id-test.true (sym c.is_above_threshold.ensures ∙ c.if-is_above_threshold.true))

pub returns : goal.returns
unfolding context_line
returns c =
    sym (some_below-none (is_above_threshold c.args.self.now c.args.context) 64
    (λ k below. c.loop-id.invariant k (omega (arith, below, c.loop-id-test.false))))
