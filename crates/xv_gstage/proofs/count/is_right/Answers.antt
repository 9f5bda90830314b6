use Rattle.std.proofs.Common.{◌∙◌, sym}
use Rattle.xv_gstage.proofs.AuditLemmas.{right-elsewhere, right-there, right-unled, right-unowned}
use Rattle.xv_gstage.proofs.count.is_right.Goals as goal

pub returns-in_default : goal.returns-in_default
returns-in_default g c = record {
  right = right-unowned c.args.mem.now c.args.root c.args.map.now c.args.frames.now c.args.page
      (sym c.own_of.ensures ∙ c.in_default.is);
}

pub returns-in_default-walk : goal.returns-in_default-walk
returns-in_default-walk g c = record {
  right = right-unled c.args.mem.now c.args.root c.args.map.now c.args.frames.now c.args.page
      c.in-Some.own (sym c.own_of.ensures ∙ c.in-Some.is)
      (sym c.walk.ensures.leaf ∙ c.in_default-walk.is);
}

pub returns-then-own-leaf : goal.returns-then-own-leaf
returns-then-own-leaf g c = record {
  right = right-there c.args.mem.now c.args.root c.args.map.now c.args.frames.now c.args.page
      c.in-Some.own (sym c.own_of.ensures ∙ c.in-Some.is) c.in-Some-walk.leaf
      (sym c.walk.ensures.leaf ∙ c.in-Some-walk.is) c.if-own-leaf.true;
}

pub returns-else-own-leaf : goal.returns-else-own-leaf
returns-else-own-leaf g c = record {
  right = right-elsewhere c.args.mem.now c.args.root c.args.map.now c.args.frames.now c.args.page
      c.in-Some.own (sym c.own_of.ensures ∙ c.in-Some.is) c.in-Some-walk.leaf
      (sym c.walk.ensures.leaf ∙ c.in-Some-walk.is) c.if-own-leaf.false;
}
