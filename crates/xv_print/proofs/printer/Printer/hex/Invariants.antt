use Rattle.std.proofs.Common.{◌≡◌, ◌++◌, ◌+◌, ◌*◌, length, take}
use Rattle.xv_base.specs.Text.{hex_bytes}
use Rattle.xv_print.proofs.printer.Printer.hex.Given as goal

abbrev pub invariant-loop-byte : goal.invariant-loop-byte
invariant-loop-byte l = record {
  printed : l.self ≡ l.initial.self ++ hex_bytes (take l.byte-index l.bytes);
  longer : length l.self ≡ length l.initial.self + 2 * l.byte-index;
}
