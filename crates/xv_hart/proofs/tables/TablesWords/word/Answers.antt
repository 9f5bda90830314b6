use Rattle.std.proofs.Common.{sym}
use Rattle.xv_hart.proofs.AccessLemmas.{word_inside}
use Rattle.xv_hart.proofs.tables.TablesWords.word.Goals as goal

pub read64-requires-clause-inside : goal.read64-requires-clause-inside
read64-requires-clause-inside g c =
    let s = c.args.self.now in
    word_inside s.mem.now s.root c.args.gpa c.in_ok-leaf.leaf s.inside c.requires.aligned
    (sym c.in_ok-leaf.ensures.leaf)
