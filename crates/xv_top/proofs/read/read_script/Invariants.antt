use Rattle.std.proofs.Common.{◌≡◌, ◌-◌, ◌≤◌, length, vec_len}
use Rattle.xv_top.proofs.ReadLemmas.{IsFront}
use Rattle.xv_top.specs.Boot.{most_read}
use Rattle.xv_top.proofs.read.read_script.Given as goal

abbrev pub invariant-loop-chunk : goal.invariant-loop-chunk
invariant-loop-chunk g l = record {
  front : IsFront (g.S.Source.left l.fn.source) (g.S.Source.left l.source) l.text.items;
  few : length l.text.items ≤ most_read;
  faults : g.S.Source.faults l.source ≡ g.S.Source.faults l.fn.source;
  chunk : length l.chunk ≡ 4096;
}

abbrev pub decreases-loop-chunk : goal.decreases-loop-chunk
decreases-loop-chunk g l = most_read - vec_len l.text
