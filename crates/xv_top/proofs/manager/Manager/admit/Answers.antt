use Rattle.std.proofs.Common.{◌≡◌, ◌∙◌, ℕ, List, length, refl, sym, ap, arith}
use Rattle.std.proofs.lemmas.Bool.{cond-true, cond-false}
use Rattle.xv_hart.specs.declared.machine.Machine.{Machine}
use Rattle.xv_hart.specs.Hart.{taken_by}
use Rattle.xv_region.specs.Need.{need}
use Rattle.xv_region.specs.Plan.{Plan}
use Rattle.xv_pool.specs.declared.fault.PoolFault.TheVariants.{NoFrame, NoRoot, ReservedBusy}
use Rattle.xv_host.specs.declared.host.Admit.TheVariants.{Pool}
use Rattle.xv_top.specs.Births.{created}
use Rattle.xv_top.specs.Texts.{created_text, frames_text}
use Rattle.xv_top.proofs.BirthLemmas.{admitted_alone, birth_sound, birth_world, had_enough, had_few}
use Rattle.xv_top.proofs.BirthLemmas.{frames_same, is_born, no_frame, no_named, refused_by}
use Rattle.xv_top.proofs.ManagerLemmas.{gives_by, gives_same, gives_text, name_short}
use Rattle.xv_top.proofs.ManagerLemmas.{no_guest_of, same_none}
use Rattle.xv_top.specs.Answer.{says}
use Rattle.xv_top.specs.World.{World}
use Rattle.xv_top.proofs.manager.Manager.admit.Goals as goal

pub created-requires-clause-short : goal.created-requires-clause-short
created-requires-clause-short c =
    name_short c.args.name.now c.bytes.result.now c.bytes.ensures.value c.bytes.ensures.grammar

pub unreachable-requires : goal.unreachable-requires
unreachable-requires c =
    let m = c.args.self.now in
    let arm = c.in-Err-Pool-NoRoot in
    let few = had_few m c.args.machine.now.mem c.args.plan c.requires.sound.hosted
    (no_named m c.requires.alone c.requires.sound.guests) NoRoot
    (refused_by _ arm.field-0 NoRoot (arm.field-0-is ∙ ap Pool arm.field-0-0-is)
    arm.ensures.refused) in
    no_frame _ _ NoRoot refl few.1

pub unreachable-requires-in-Err-Pool-ReservedBusy :
    goal.unreachable-requires-in-Err-Pool-ReservedBusy
unreachable-requires-in-Err-Pool-ReservedBusy c =
    let m = c.args.self.now in
    let arm = c.in-Err-Pool-ReservedBusy in
    let few = had_few m c.args.machine.now.mem c.args.plan c.requires.sound.hosted
    (no_named m c.requires.alone c.requires.sound.guests) ReservedBusy
    (refused_by _ arm.field-0 ReservedBusy (arm.field-0-is ∙ ap Pool arm.field-0-0-is)
    arm.ensures.refused) in
    no_frame _ _ ReservedBusy refl few.1

pub returns-in-Ok-clause-answer : goal.returns-in-Ok-clause-answer
returns-in-Ok-clause-answer c =
    let m = c.args.self.now in
    let name = c.args.name.now in
    let plan = c.args.plan in
    let old = c.args.machine.now in
    let new = c.admit.new.machine in
    let empty = no_named m c.requires.alone c.requires.sound.guests in
    let admitted = c.in-Ok.ensures in
    let vcpus : c.len-vcpus.result ≡ length plan.vcpus =
    omega (arith, c.len-vcpus.ensures, ap (λ (p : Plan). length p.vcpus) c.plan.view_is) in
    let regions : c.len-regions.result ≡ length plan.regions =
    omega (arith, c.len-regions.ensures, ap (λ (p : Plan). length p.regions) c.plan.view_is) in
    let frames = c.need_of-needed.ensures.count
    ∙ ap need (c.deref.ensures.value ∙ ap (λ (p : Plan). p.regions) c.plan.view_is) in
    gives_by _ (created (no_guest_of m) name plan)
    (admitted_alone m old.mem name plan c.requires.alone
    ∙ cond-false _ _ _ (had_enough m old.mem plan c.requires.sound.hosted empty admitted.had))
    (record {
      text = c.created.ensures
          ∙ (ap (λ (n : List ℕ). created_text n c.len-vcpus.result c.len-regions.result
          c.need_of-needed.result) c.bytes.ensures.value
          ∙ (ap (λ (n : ℕ). created_text name n c.len-regions.result c.need_of-needed.result) vcpus
          ∙ (ap (λ (n : ℕ). created_text name (length plan.vcpus) n c.need_of-needed.result) regions
          ∙ ap (created_text name (length plan.vcpus) (length plan.regions)) frames)));
      world = birth_world m c.admit.new.self name plan c.in-Ok.key old.mem new.mem
          c.requires.alone empty c.requires.sound.hosted admitted.hosted admitted.key
          admitted.area admitted.guests admitted.born;
      work = omega (arith, ap (λ (x : Machine). taken_by x.hart) admitted.machine);
      memory = λ none. absurd (is_born m name plan none);
      host = λ none. absurd (is_born m name plan none);
    })

pub returns-in-Ok-clause-sound : goal.returns-in-Ok-clause-sound
returns-in-Ok-clause-sound c =
    let m = c.args.self.now in
    let name = c.args.name.now in
    let plan = c.args.plan in
    let old = c.args.machine.now in
    let new = c.admit.new.machine in
    let empty = no_named m c.requires.alone c.requires.sound.guests in
    let admitted = c.in-Ok.ensures in
    birth_sound m c.admit.new.self name plan c.in-Ok.key old.mem new.mem
    c.requires.alone empty c.requires.sound.hosted admitted.hosted admitted.key
    admitted.area admitted.guests admitted.born new old refl
    (ap (λ (x : Machine). x.area) admitted.machine) c.requires.sound

pub returns-in-Err-Pool-NoFrame-clause-answer : goal.returns-in-Err-Pool-NoFrame-clause-answer
returns-in-Err-Pool-NoFrame-clause-answer c =
    let m = c.args.self.now in
    let old = c.args.machine.now in
    let plan = c.args.plan in
    let arm = c.in-Err-Pool-NoFrame in
    let fault = NoFrame arm.need arm.free in
    let few = had_few m old.mem plan c.requires.sound.hosted
    (no_named m c.requires.alone c.requires.sound.guests) fault
    (refused_by _ arm.field-0 fault (arm.field-0-is ∙ ap Pool arm.field-0-0-is)
    arm.ensures.refused) in
    let text = frames_text (need plan.regions) m.host.pool.count in
    gives_same _ m c.admit.new.self old c.admit.new.machine _ arm.ensures.unchanged
    arm.ensures.untouched
    (gives_text _ m old _ text
    (admitted_alone m old.mem c.args.name.now plan c.requires.alone
    ∙ (cond-true _ _ _ few.0
    ∙ ap (λ (w : World). says w text) (sym (same_none m old.mem c.requires.alone))))
    (c.frames.ensures ∙ frames_same arm.need arm.free (need plan.regions) m.host.pool.count few.1))
