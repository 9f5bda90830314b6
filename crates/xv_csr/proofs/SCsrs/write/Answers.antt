use Rattle.std.proofs.Common.{sym, subst}
use Rattle.xv_csr.specs.declared.SCsrs.{SCsrs}
use Rattle.xv_csr.specs.Kept.{IsKept}
use Rattle.xv_csr.proofs.KeptLemmas.{register_written-kept}
use Rattle.xv_csr.proofs.SCsrs.write.Goals as goal

pub returns-in-Some-clause-keeps : goal.returns-in-Some-clause-keeps
returns-in-Some-clause-keeps c =
    λ kept. let P : SCsrs → Type 0 = λ csrs. IsKept csrs in
    subst P (sym c.put.ensures.after)
    (register_written-kept c.args.self.now c.args.value c.in-Some.register kept)
