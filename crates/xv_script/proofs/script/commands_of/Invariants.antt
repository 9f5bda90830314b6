use Rattle.std.proofs.Common.{◌≡◌, ◌+◌, length, drop}
use Rattle.xv_script.specs.Progress.{with_front}
use Rattle.xv_script.specs.Script.{commands_from}
use Rattle.xv_script.specs.Text.{lines}
use Rattle.xv_script.proofs.script.commands_of.Given as goal

abbrev pub invariant-loop-line : goal.invariant-loop-line
invariant-loop-line l = record {
  can_next : (goal.iterator-loop-line).can_next l.line-iterator;
  is_finite : (goal.iterator-loop-line).is_finite l.line-iterator;
  count : l.number ≡ length l.yielded;
  exact :
      with_front l.found.items (commands_from (l.number + 1) (drop l.number (lines l.text)))
      ≡ commands_from 1 (lines l.text);
}
