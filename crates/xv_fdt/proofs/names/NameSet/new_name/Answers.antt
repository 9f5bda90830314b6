use Rattle.std.proofs.Common.{sym, ◌∙◌}
use Rattle.xv_fdt.specs.Progress.{taken_in}
use Rattle.xv_fdt.proofs.NameLemmas.{new-free, new-taken, new-none}
use Rattle.xv_fdt.proofs.names.NameSet.new_name.Goals as goal

pub returns-then-has : goal.returns-then-has
returns-then-has c =
    new-taken (taken_in c.args.self.now) c.args.bytes.now c.in-Some.name c.in-Some.ensures
    (sym c.has.ensures ∙ c.if-has.true)

pub returns-else-has : goal.returns-else-has
returns-else-has c =
    new-free (taken_in c.args.self.now) c.args.bytes.now c.in-Some.name c.in-Some.ensures
    (sym c.has.ensures ∙ c.if-has.false)

pub returns-in-None : goal.returns-in-None
returns-in-None c = new-none (taken_in c.args.self.now) c.args.bytes.now c.in-None.ensures
