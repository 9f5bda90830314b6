use Rattle.std.proofs.Common.{◌==◌, rules, tests, arith}
use Rattle.std.proofs.lemmas.Iterator.Consumers.{YieldsList-at, YieldsList-turn, YieldsList-end}
use Rattle.std.proofs.lemmas.Iterator.Splits.{YieldsList-from_slice_split}
use Rattle.std.proofs.lemmas.List.{length_push}
use Rattle.std.proofs.lemmas.Result.{err_from_is_err_and}
use Rattle.xv_script.proofs.RangeLemmas.{commands_from-in_range}
use Rattle.xv_script.proofs.ScriptLemmas.{next_line, fails_at, last_line, few_lines}
use Rattle.xv_script.specs.Text.{lines}
use Rattle.xv_script.proofs.script.commands_of.Goals as goal

pub loop-line-preserved : goal.loop-line-preserved
loop-line-preserved c =
    let turn = YieldsList-turn
    (YieldsList-at c.into_iter-line-iterator.ensures.into_iter_gives
    (YieldsList-from_slice_split _ (λ byte. byte == 0x0A) c.args.text.now
    c.split-line-items.ensures.rest c.split-line-items.ensures.done
    c.split-line-items.ensures.closure (λ x r q k. search (rules, tests))))
    c.loop-line.yielded _ c.loop-line.yielded_by _ _ c.in-Some.line c.in-Some.is
    c.next.ensures.steps in
    let more = length_push c.loop-line.yielded c.in-Some.line in record {
      can_next = search rules;
      is_finite = search rules;
      count = omega (arith, c.loop-line.invariant.count, more);
      exact =
          next_line _ _ _ _ _ _ _ c.loop-line.invariant.count turn c.in_ok-read_line.ensures
          c.loop-line.invariant.exact;
    }

pub returns-in_err-read_line-clause-exact : goal.returns-in_err-read_line-clause-exact
returns-in_err-read_line-clause-exact c =
    let turn = YieldsList-turn
    (YieldsList-at c.into_iter-line-iterator.ensures.into_iter_gives
    (YieldsList-from_slice_split _ (λ byte. byte == 0x0A) c.args.text.now
    c.split-line-items.ensures.rest c.split-line-items.ensures.done
    c.split-line-items.ensures.closure (λ x r q k. search (rules, tests))))
    c.loop-line.yielded _ c.loop-line.yielded_by _ _ c.in-Some.line c.in-Some.is
    c.next.ensures.steps in
    let failed = fails_at c.in_err-read_line.field-0.0 _ _ _ _ _ _ c.loop-line.invariant.count turn
    c.in_err-read_line.ensures c.loop-line.invariant.exact in
    let passed = err_from_is_err_and c.from_residual.result c.from_residual.ensures.1 in
    rw (passed.1, passed.2) failed

pub returns-clause-exact : goal.returns-clause-exact
returns-clause-exact c =
    let end = YieldsList-end
    (YieldsList-at c.into_iter-line-iterator.ensures.into_iter_gives
    (YieldsList-from_slice_split _ (λ byte. byte == 0x0A) c.args.text.now
    c.split-line-items.ensures.rest c.split-line-items.ensures.done
    c.split-line-items.ensures.closure (λ x r q k. search (rules, tests))))
    c.loop-line.yielded _ c.loop-line.yielded_by _ _ c.in-None.is c.next.ensures.steps in
    last_line _ _ _ _ _ c.loop-line.invariant.count end.1 c.loop-line.invariant.exact

pub returns-clause-few : goal.returns-clause-few
returns-clause-few c = few_lines c.args.text.now _ c.requires (returns-clause-exact c)

pub returns-clause-range : goal.returns-clause-range
returns-clause-range c =
    commands_from-in_range 1 (lines c.args.text.now) _ (returns-clause-exact c)
