use Rattle.std.proofs.Common.{◌≡◌, map, take}
use Rattle.xv_lone.specs.Vcpu.{reset_vcpu}
use Rattle.xv_guest.proofs.views.reset_all.Given as goal

abbrev pub invariant-loop-plan : goal.invariant-loop-plan
invariant-loop-plan l =
    l.vcpus.items ≡ map (λ v. reset_vcpu v.start) (take l.plan-index l.plans)
