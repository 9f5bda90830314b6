-- Each VCPU of a tree starts where an instruction may begin.
use Rattle.std.proofs.Common.{◌≡◌, ℕ, ◌%◌, Bool, true, false, cond, eqb, List, [], ◌∷◌, ◌++◌, subst}
use Rattle.std.proofs.Common.{Option, Some, None, Result, Ok, Err, IfOk, refl, sym, arith, codes}
use Rattle.std.proofs.lemmas.List.Elements.{All-nil, All-push}
use Rattle.std.proofs.lemmas.Bool.Decides.{nat_tests}
use Rattle.xv_region.specs.declared.plan.VcpuPlan.{VcpuPlan}
use Rattle.xv_fdt.specs.Fault.{◌>>=◌}
use Rattle.xv_fdt.specs.Tree.{Property}
use Rattle.xv_tree.specs.declared.fault.PlanKind.{PlanKind}
use Rattle.xv_tree.specs.declared.fault.PlanKind.TheVariants.{BadStart, BadPriority}
use Rattle.xv_tree.specs.declared.fault.PlanFault.{PlanFault}
use Rattle.xv_tree.specs.Children.{Numbered}
use Rattle.xv_tree.specs.Fault.{Gives, fault_at, in_turn, needed}
use Rattle.xv_tree.specs.Values.{number_of, value_of}
use Rattle.xv_tree.specs.Vcpus.{AreStarts, priority_in, start_in, vcpu_of, with_vcpu}

start_is : (o : Option ℕ) (start : ℕ) → start_in o ≡ Some start → start % 4 ≡ 0
start_is None start is = cc
start_is (Some address) start is = by_test (eqb (address % 4) 0) refl is
  where
    by_test : (b : Bool) → eqb (address % 4) 0 ≡ b → cond b (Some address) None ≡ Some start
        → start % 4 ≡ 0
    by_test true test is =
        let same : address ≡ start = cc in
        rw (sym same) (grind (arith, nat_tests))
    by_test false test is = cc

-- a VCPU has the start that its node gives
parts : (start priority : Option ℕ) (vcpu : VcpuPlan)
    → (needed BadStart start >>= λ s. needed BadPriority priority >>= λ p.
    Ok (record { start = s; priority = p })) ≡ Ok vcpu → start ≡ Some vcpu.start
parts None priority vcpu is = cc
parts (Some start) None vcpu is = cc
parts (Some start) (Some priority) vcpu is = cc

vcpu_starts : (props : List Property) (vcpu : VcpuPlan) → vcpu_of props ≡ Ok vcpu
    → vcpu.start % 4 ≡ 0
vcpu_starts props vcpu is =
    let start : Option ℕ = start_in (number_of (codes "start_pc") props) in
    let priority : Option ℕ = priority_in (value_of (codes "priority") props) in
    start_is (number_of (codes "start_pc") props) vcpu.start (parts start priority vcpu is)

-- one VCPU more
turn_starts : (nodes : List Numbered) (vcpus all : List VcpuPlan) → AreStarts vcpus
    → in_turn with_vcpu vcpus nodes ≡ Ok all → AreStarts all
turn_starts [] vcpus all given is = let same : vcpus ≡ all = cc in subst AreStarts same given
turn_starts (n ∷ ns) vcpus all given is =
    by_vcpu (λ next. turn_starts ns next all) (vcpu_of n.1.props) refl is
  where
    by_vcpu : ((next : List VcpuPlan) → AreStarts next → in_turn with_vcpu next ns ≡ Ok all
        → AreStarts all) → (r : Result VcpuPlan PlanKind) → vcpu_of n.1.props ≡ r
        → ((fault_at n.0 r >>= λ vcpu. Ok (vcpus ++ vcpu ∷ []))
        >>= λ next. in_turn with_vcpu next ns)
        ≡ Ok all → AreStarts all
    by_vcpu follows (Err kind) here is = cc
    by_vcpu follows (Ok vcpu) here is =
        follows (vcpus ++ vcpu ∷ [])
        (All-push (λ v. v.start % 4 ≡ 0) vcpus vcpu given
        (vcpu_starts n.1.props vcpu here)) is

pub gives_starts : {X : Type 0} (view : X → List VcpuPlan) (result : Result X PlanFault)
    (nodes : List Numbered) → Gives view result (in_turn with_vcpu [] nodes)
    → IfOk result (λ x. AreStarts (view x))
gives_starts view (Ok x) nodes given =
    turn_starts nodes [] (view x) (All-nil (λ v. v.start % 4 ≡ 0)) given
gives_starts view (Err fault) nodes given = tt
