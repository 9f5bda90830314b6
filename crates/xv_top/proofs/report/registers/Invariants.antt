use Rattle.std.proofs.Common.{◌≡◌, ◌+◌, ◌*◌, ◌≤◌, ◌++◌, length}
use Rattle.xv_top.specs.Texts.{registers_text}
use Rattle.xv_top.proofs.report.registers.Given as goal

abbrev pub invariant-loop-number : goal.invariant-loop-number
invariant-loop-number l = record {
  text : l.printer ≡ l.fn.printer ++ registers_text l.x l.number;
  short : length l.printer ≤ length l.fn.printer + 40 * l.number;
}
