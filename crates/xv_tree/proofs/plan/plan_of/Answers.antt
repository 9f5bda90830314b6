use Rattle.std.proofs.Common.{◌≡◌, List, drop, Err, Ok, sym, subst, ◌∙◌}
use Rattle.xv_fdt.specs.Shape.{AreInner}
use Rattle.xv_fdt.specs.Tree.{Entry}
use Rattle.xv_tree.specs.declared.fault.PlanKind.TheVariants.{NoAspace, NoVcpus}
use Rattle.xv_tree.specs.declared.fault.PlanFault.TheVariants.{At}
use Rattle.xv_tree.specs.Fault.{Fails}
use Rattle.xv_tree.specs.Plan.{plan}
use Rattle.xv_tree.proofs.PlanLemmas.{plan-no_aspace, plan-no_vcpus, plan-regions_fail}
use Rattle.xv_tree.proofs.PlanLemmas.{plan-vcpus_fail, plan-whole, shaped-inner}
use Rattle.xv_tree.proofs.plan.plan_of.Goals as goal

pub returns-in_default-clause-plan : goal.returns-in_default-clause-plan
returns-in_default-clause-plan c =
    let P : List Entry → Type 0 = λ es. plan es c.args.area ≡ Err (At NoAspace 0) in
    subst P (c.as_slice-nodes.ensures.value ∙ c.tree.view_is) (
    plan-no_aspace c.as_slice-nodes.result.now c.args.area
    (sym c.in_default.is ∙ c.root_child.ensures.number)
    )

pub returns-in_default-root_child-clause-plan : goal.returns-in_default-root_child-clause-plan
returns-in_default-root_child-clause-plan c =
    let P : List Entry → Type 0 = λ es. plan es c.args.area ≡ Err (At NoVcpus 0) in
    subst P (c.as_slice-nodes.ensures.value ∙ c.tree.view_is) (
    plan-no_vcpus c.as_slice-nodes.result.now c.args.area c.in-Some.aspace
    (sym c.in-Some.is ∙ c.root_child.ensures.number)
    (sym c.in_default-root_child.is ∙ c.root_child-2.ensures.number)
    )

pub returns-in-Err-clause-plan : goal.returns-in-Err-clause-plan
returns-in-Err-clause-plan c =
    let P : List Entry → Type 0 = λ es. Fails c.in-Err.fault (plan es c.args.area) in
    subst P (c.as_slice-nodes.ensures.value ∙ c.tree.view_is) (
    plan-vcpus_fail c.as_slice-nodes.result.now c.args.area c.in-Some.aspace
    (sym c.in-Some.is ∙ c.root_child.ensures.number)
    c.in-Some-root_child.parent
    (sym c.in-Some-root_child.is ∙ c.root_child-2.ensures.number)
    c.in-Err.fault c.in-Err.ensures.exact
    )

pub judged_regions-requires-clause-shaped : goal.judged_regions-requires-clause-shaped
judged_regions-requires-clause-shaped c =
    let P : List Entry → Type 0 = λ es. AreInner 1 (drop 1 es) in
    subst P (sym (c.as_slice-nodes.ensures.value ∙ c.tree.view_is)) (
    shaped-inner c.args.tree.now (c.is_shaped.ensures c.args.tree.now c.requires.allowed)
    )

pub returns-in-Err-judged_regions-clause-plan : goal.returns-in-Err-judged_regions-clause-plan
returns-in-Err-judged_regions-clause-plan c =
    let P : List Entry → Type 0 = λ es. Fails c.in-Err-judged_regions.fault (plan es c.args.area) in
    subst P (c.as_slice-nodes.ensures.value ∙ c.tree.view_is) (
    plan-regions_fail c.as_slice-nodes.result.now c.args.area c.in-Some.aspace
    (sym c.in-Some.is ∙ c.root_child.ensures.number)
    c.in-Some-root_child.parent
    (sym c.in-Some-root_child.is ∙ c.root_child-2.ensures.number)
    c.in-Ok.vcpus.items c.in-Ok.ensures.exact
    c.in-Err-judged_regions.fault c.in-Err-judged_regions.ensures.exact
    )

pub returns-clause-plan : goal.returns-clause-plan
returns-clause-plan c =
    let P : List Entry → Type 0 =
    λ es. plan es c.args.area
    ≡ Ok (record {
      regions = c.in-Ok-judged_regions.regions.items;
      vcpus = c.in-Ok.vcpus.items;
    }) in
    subst P (c.as_slice-nodes.ensures.value ∙ c.tree.view_is) (
    plan-whole c.as_slice-nodes.result.now c.args.area c.in-Some.aspace
    (sym c.in-Some.is ∙ c.root_child.ensures.number)
    c.in-Some-root_child.parent
    (sym c.in-Some-root_child.is ∙ c.root_child-2.ensures.number)
    c.in-Ok.vcpus.items c.in-Ok.ensures.exact
    c.in-Ok-judged_regions.regions.items c.in-Ok-judged_regions.ensures.exact
    )
