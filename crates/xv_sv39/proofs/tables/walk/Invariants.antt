use Rattle.std.proofs.Common.{◌≡◌, ◌<◌, ◌^◌}
use Rattle.xv_sv39.proofs.WalkLemmas.{IsOnTheWay}
use Rattle.xv_sv39.proofs.tables.walk.Given as goal

abbrev pub invariant-loop-level : goal.invariant-loop-level
invariant-loop-level g l = record {
  way : IsOnTheWay (g.R.Words.table l.fn.reader) l.va l.root l.level l.page
      (g.R.Words.addresses l.reader);
  table : g.R.Words.table l.reader ≡ g.R.Words.table l.fn.reader;
  page : l.page < 2 ^ 44;
  rule : (start : _) → g.R.Words.rule start l.fn.reader → g.R.Words.rule start l.reader;
}

abbrev pub decreases-loop-level : goal.decreases-loop-level
decreases-loop-level g l = l.level
