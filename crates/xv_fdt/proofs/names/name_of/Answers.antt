use Rattle.std.proofs.Common.{◌∙◌, ap, cond, leb, length, Some, None}
use Rattle.xv_base.specs.Name.{is_dev_name}
use Rattle.xv_fdt.proofs.NameLemmas.{length-dev_name, named}
use Rattle.xv_fdt.proofs.names.name_of.Goals as goal

pub returns-in-Some : goal.returns-in-Some
returns-in-Some c =
    c.of.ensures
    ∙ ap (λ bytes. cond (leb (length bytes) 63) (Some bytes) None) c.bytes.ensures.value
    ∙ named (is_dev_name c.args.bytes.now) c.args.bytes.now c.in-Some.name
    (length-dev_name c.args.bytes.now) c.in-Some.ensures
