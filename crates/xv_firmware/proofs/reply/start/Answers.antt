use Rattle.std.proofs.Common.{◌≡◌, ◌%◌, ℕ, Bool, true, false, ◌&&◌, eqb, ◌∙◌, sym, subst, arith}
use Rattle.std.proofs.lemmas.Bool.Decides.{nat_tests}
use Rattle.xv_csr.proofs.KeptLemmas.{reset_csrs_kept}
use Rattle.xv_csr.specs.Fields.{IsInstructionAddress}
use Rattle.xv_csr.specs.Kept.{IsKept}
use Rattle.xv_lone.specs.Calls.{is_memory}
use Rattle.xv_lone.specs.declared.vcpu.VcpuView.{VcpuView}
use Rattle.xv_region.specs.Cell.{cell}
use Rattle.xv_firmware.proofs.reply.start.Goals as goal

aligned : (a : ℕ) (b : Bool) → (eqb (a % 4) 0 && b) ≡ true → a % 4 ≡ 0
aligned a true h = grind (arith, nat_tests)
aligned a false h = grind (arith, nat_tests)

pub set_view-requires-clause-kept : goal.set_view-requires-clause-kept
set_view-requires-clause-kept c =
    let plan = c.args.guest.now.plan in
    let is = sym c.reset-view.ensures in
    record {
      pc = subst (λ (v : VcpuView). IsInstructionAddress v.pc) is
          (aligned c.args.address (is_memory (cell plan.regions c.args.address 4))
          (sym (c.may_start.ensures plan (sym c.map.ensures)) ∙ c.if-not-may_start.false));
      csrs = subst (λ (v : VcpuView). IsKept v.csrs) is reset_csrs_kept;
    }
