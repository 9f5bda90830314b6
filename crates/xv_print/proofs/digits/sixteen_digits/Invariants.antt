use Rattle.std.proofs.Common.{◌≡◌, ◌++◌, length, drop}
use Rattle.xv_base.specs.Text.{hex_digits}
use Rattle.xv_print.proofs.digits.sixteen_digits.Given as goal

abbrev pub invariant-loop-place : goal.invariant-loop-place
invariant-loop-place l = record {
  sixteen : length l.digits ≡ 16;
  written : hex_digits l.place l.rest ++ drop l.place l.digits ≡ hex_digits 16 l.value;
}
