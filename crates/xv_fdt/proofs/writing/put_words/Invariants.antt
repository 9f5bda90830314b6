use Rattle.std.proofs.Common.{◌≡◌, ◌++◌, drop}
use Rattle.xv_fdt.specs.Written as spec
use Rattle.xv_fdt.proofs.writing.put_words.Given as goal

abbrev pub invariant-loop-number : goal.invariant-loop-number
invariant-loop-number l =
    l.out.items ++ spec.words_bytes (drop l.number-index l.numbers) ≡ l.fn.out.items
    ++ spec.words_bytes l.numbers
