use Rattle.std.proofs.Common.{sym, ◌∙◌}
use Rattle.xv_sbi.proofs.MaskLemmas.{names-there, names-missing}
use Rattle.xv_sbi.proofs.mask.mask_ok.Goals as goal

pub returns-else-base-eq-ALL_VCPUS-clause-named : goal.returns-else-base-eq-ALL_VCPUS-clause-named
returns-else-base-eq-ALL_VCPUS-clause-named c =
    λ ok. names-there c.args.mask c.args.base c.args.vcpus (sym c.bits_ok.ensures ∙ ok)

pub returns-else-base-eq-ALL_VCPUS-clause-missing :
    goal.returns-else-base-eq-ALL_VCPUS-clause-missing
returns-else-base-eq-ALL_VCPUS-clause-missing c =
    λ missing. (
      c.if-base-eq-ALL_VCPUS.false,
      names-missing c.args.mask c.args.base c.args.vcpus
          (sym c.bits_ok.ensures ∙ missing) c.if-base-eq-ALL_VCPUS.false,
    )
