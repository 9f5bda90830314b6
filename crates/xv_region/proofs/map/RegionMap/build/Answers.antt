use Rattle.std.proofs.Common.{◌≡◌, ◌∙◌, None, sym, subst}
use Rattle.xv_region.specs.Rules.{Accepted, first_fault}
use Rattle.xv_region.proofs.RuleLemmas.{first-fault, is-fault, sound-length, stepped-all}
use Rattle.xv_region.proofs.RuleLemmas.{stepped-fault, stepped-on}
use Rattle.xv_region.proofs.map.RegionMap.build.Goals as goal

pub loop-number-init : goal.loop-number-init
loop-number-init c = first-fault c.args.area c.args.regions.now

pub fault_of-requires-clause-few : goal.fault_of-requires-clause-few
fault_of-requires-clause-few c = sound-length c.args.regions.now c.requires.sound

pub returns-in-Some-clause-fault : goal.returns-in-Some-clause-fault
returns-in-Some-clause-fault c =
    is-fault (first_fault c.args.area c.args.regions.now) c.in-Some.fault (
    sym c.loop-number.invariant
    ∙ stepped-fault c.args.area c.args.regions.now c.loop-number.number
    c.index-regions-number.result c.in-Some.fault c.loop-number-test.true c.index-regions-number.is
    (sym c.in-Some.is ∙ c.fault_of.ensures.fault)
    )

pub loop-number-preserved : goal.loop-number-preserved
loop-number-preserved c =
    sym (stepped-on c.args.area c.args.regions.now c.loop-number.number
    c.index-regions-number.result c.loop-number-test.true c.index-regions-number.is
    (sym c.in_default.is ∙ c.fault_of.ensures.fault))
    ∙ c.loop-number.invariant

pub returns-clause-faultless : goal.returns-clause-faultless
returns-clause-faultless c =
    sym c.loop-number.invariant
    ∙ stepped-all c.args.area c.args.regions.now c.loop-number.number c.loop-number-test.false

pub invariant_of-result : goal.invariant_of-result
invariant_of-result c =
    let faultless : first_fault c.args.area c.args.regions.now ≡ None =
    sym c.loop-number.invariant ∙ stepped-all c.args.area c.args.regions.now c.loop-number.number
    c.loop-number-test.false in
    let accepted : Accepted c.args.regions.now =
    record { area = c.args.area; sound = c.requires.sound; faultless = faultless } in
    subst Accepted (sym c.in_ok-kept.ensures.items) accepted
