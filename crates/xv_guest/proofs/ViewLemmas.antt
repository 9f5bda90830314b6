-- VCPUs with reset values are ones between two turns.
use Rattle.std.proofs.Common.{ℕ, List, map}
use Rattle.std.specs.List.{All}
use Rattle.std.proofs.lemmas.List.Elements.{All-map, All-weaker}
use Rattle.xv_csr.specs.Fields.{IsInstructionAddress}
use Rattle.xv_csr.proofs.KeptLemmas.{reset_csrs_kept}
use Rattle.xv_lone.specs.Vcpu.{reset_vcpu}
use Rattle.xv_region.specs.declared.plan.VcpuPlan.{VcpuPlan}
use Rattle.xv_guest.specs.Guest.{IsView}

pub reset_view : (start : ℕ) → IsInstructionAddress start → IsView (reset_vcpu start)
reset_view start aligned = record {
  pc = aligned;
  csrs = reset_csrs_kept;
}

pub reset_views : (plans : List VcpuPlan) → All (λ v. IsInstructionAddress v.start) plans
    → All IsView (map (λ (v : VcpuPlan). reset_vcpu v.start) plans)
reset_views plans aligned =
    All-map IsView (λ (v : VcpuPlan). reset_vcpu v.start) plans
    (All-weaker (λ (v : VcpuPlan). IsInstructionAddress v.start)
    (λ (v : VcpuPlan). IsView (reset_vcpu v.start)) (λ v. reset_view v.start) plans aligned)
