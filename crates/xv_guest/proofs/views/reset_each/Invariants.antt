use Rattle.std.proofs.Common.{◌≡◌, map, take, length}
use Rattle.xv_lone.specs.Vcpu.{reset_vcpu}
use Rattle.xv_guest.proofs.views.reset_each.Given as goal

abbrev pub invariant-loop-number : goal.invariant-loop-number
invariant-loop-number l =
    (length l.vcpus.items ≡ length l.plans)
    × (take l.number l.vcpus.items ≡ map (λ v. reset_vcpu v.start) (take l.number l.plans))
