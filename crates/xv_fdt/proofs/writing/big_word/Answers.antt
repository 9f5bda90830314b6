use Rattle.std.proofs.Common.{◌∙◌}
use Rattle.xv_fdt.proofs.WritingLemmas.{big_word-fits}
use Rattle.xv_fdt.proofs.writing.big_word.Goals as goal

pub returns : goal.returns
returns c = c.write_u32.ensures ∙ big_word-fits c.args.number
