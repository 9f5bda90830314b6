use Rattle.std.proofs.Common.{◌∙◌, sym}
use Rattle.xv_region.proofs.NeedLemmas.{no-blocks, one-block, many-blocks, block-order}
use Rattle.xv_region.proofs.need.new_blocks.Goals as goal

pub returns-then-not-is_mapped : goal.returns-then-not-is_mapped
returns-then-not-is_mapped c = record {
  count = λ n end. no-blocks c.args.size c.requires.positive c.args.earlier.now c.args.region.now
      c.requires.some n (sym c.is_mapped.ensures ∙ c.if-not-is_mapped.true);
}

pub returns-then-first-last : goal.returns-then-first-last
returns-then-first-last c = record {
  count = λ n end.
      c.one_if_new.ensures
      ∙ one-block c.args.size c.requires.positive c.args.earlier.now c.args.region.now
      c.requires.some (sym c.is_mapped.ensures ∙ c.if-not-is_mapped.false) n end
      c.if-first-last.true;
}

pub returns-else-first-last : goal.returns-else-first-last
returns-else-first-last c = record {
  count = λ n end.
      rw (c.one_if_new-else-first-last.ensures, c.one_if_new-else-first-last-2.ensures) (
      many-blocks c.args.size c.requires.positive c.args.earlier.now c.args.region.now
      c.requires.some (sym c.is_mapped.ensures ∙ c.if-not-is_mapped.false) n
      c.requires.apart end
      (block-order c.args.region.now.base c.args.region.now.size c.args.size c.requires.positive
      c.requires.some c.if-first-last.false)
      );
}
