-- The VCPUs of a guest, by the children of the node `vcpus`.
use Rattle.std.specs.Prelude.{ℕ, ◌%◌, ◌==◌, nat_le, if◌then◌else◌, List, [], ◌∷◌, ◌++◌}
use Rattle.std.specs.Prelude.{◌≡◌, Option, Some, None, Result, Ok, Err, codes, slice_get}
use Rattle.std.specs.List.{All}
use Rattle.xv_region.specs.declared.plan.VcpuPlan.{VcpuPlan}
use Rattle.xv_region.specs.Plan.{usual_priority}
use Rattle.xv_fdt.specs.Fault.{◌>>=◌}
use Rattle.xv_fdt.specs.Tree.{Property}
use Rattle.xv_tree.specs.declared.fault.PlanKind.{PlanKind}
use Rattle.xv_tree.specs.declared.fault.PlanKind.TheVariants.{NoVcpus, TooManyVcpus, BadStart}
use Rattle.xv_tree.specs.declared.fault.PlanKind.TheVariants.{BadPriority}
use Rattle.xv_tree.specs.declared.fault.PlanFault.{PlanFault}
use Rattle.xv_tree.specs.declared.fault.PlanFault.TheVariants.{At}
use Rattle.xv_tree.specs.Children.{Numbered}
use Rattle.xv_tree.specs.Fault.{fault_at, in_turn, needed}
use Rattle.xv_tree.specs.Values.{number_of, value_of, word}

-- an instruction begins at a multiple of 4
abbrev pub start_at : ℕ → Option ℕ
start_at address = if address % 4 == 0 then Some address else None

abbrev pub start_in : Option ℕ → Option ℕ
start_in None = None
start_in (Some address) = start_at address

-- a priority of 0 to 7
abbrev pub priority_at : Option ℕ → Option ℕ
priority_at None = None
priority_at (Some priority) = if nat_le priority 7 then Some priority else None

-- the usual one, where none is given
abbrev pub priority_in : Option (List ℕ) → Option ℕ
priority_in None = Some usual_priority
priority_in (Some value) = priority_at (word value)

-- a VCPU, by its node's properties
abbrev pub vcpu_of : List Property → Result VcpuPlan PlanKind
vcpu_of props = do
  start ← needed BadStart (start_in (number_of (codes "start_pc") props))
  priority ← needed BadPriority (priority_in (value_of (codes "priority") props))
  Ok (record { start = start; priority = priority })

-- one VCPU more
abbrev pub with_vcpu : List VcpuPlan → Numbered → Result (List VcpuPlan) PlanFault
with_vcpu vcpus n = fault_at n.0 (vcpu_of n.1.props) >>= λ vcpu. Ok (vcpus ++ vcpu ∷ [])

-- the VCPUs of so many nodes, of which there are a first one and no ninth
abbrev pub counted : Option Numbered → Option Numbered → Result (List VcpuPlan) PlanFault
    → Result (List VcpuPlan) PlanFault
counted None ninth vcpus = Err (At NoVcpus 0)
counted (Some first) None vcpus = vcpus
counted (Some first) (Some ninth) vcpus = Err (At TooManyVcpus ninth.0)

unfoldable pub vcpus_of : List Numbered → Result (List VcpuPlan) PlanFault
vcpus_of nodes = counted (slice_get nodes 0) (slice_get nodes 8) (in_turn with_vcpu [] nodes)

-- each of them starts where an instruction may begin
abbrev pub AreStarts : List VcpuPlan → Type 0
AreStarts vcpus = All (λ vcpu. vcpu.start % 4 ≡ 0) vcpus
