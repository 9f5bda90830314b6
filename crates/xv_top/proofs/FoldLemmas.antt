-- Lines one after another: what the first of them did, and one more.
use Rattle.std.proofs.Common.{◌≡◌, ℕ, ◌+◌, ◌<◌, ◌≤◌, List, [], ◌∷◌, ◌++◌, length, get_or, take}
use Rattle.std.proofs.Common.{drop, Option, Bool, true, subst, refl, sym, ap, ◌∙◌, arith}
use Rattle.std.proofs.lemmas.List.{drop_more, take_more, take-append-drop, append_assoc}
use Rattle.std.proofs.lemmas.List.{append-nil}
use Rattle.xv_outside.specs.Fetch.{FileMap}
use Rattle.xv_outside.specs.Outside.{taken_with, TookFront}
use Rattle.xv_outside.proofs.Told.{taken_with_both, taken_with_none}
use Rattle.xv_script.specs.declared.command.Command.{Command}
use Rattle.xv_script.specs.declared.command.Line.{Line}
use Rattle.xv_top.specs.World.{World}
use Rattle.xv_top.specs.Answer.{Answer}
use Rattle.xv_top.specs.Commands.{answer}
use Rattle.xv_top.specs.Run.{HaveRun, RanToStop, RanToCut}
use Rattle.xv_top.specs.Transcript.{answers, world_after, work_after}

pub run_none : (files : FileMap) (first : World) (taken : Option (List ℕ))
    → HaveRun files [] first first taken taken 0
unfolding answers world_after work_after
run_none files first taken =
    record { taken = sym (taken_with_none taken); world = refl; work = omega arith }

-- ---- one line more

module _ (files : FileMap) (l : Line) where
  -- what it answers behind others
  abbrev last : World → List Line → Answer
  last w ls = answer files (world_after files w ls) l.command

  answers_last : (w : World) (ls : List Line)
      → answers files w (ls ++ l ∷ []) ≡ answers files w ls ++ (last w ls).text
  unfolding answers world_after
  answers_last w [] = append-nil (answer files w l.command).text
  answers_last w (x ∷ ls) =
      let a = answer files w x.command in
      ap (λ t. a.text ++ t) (answers_last a.world ls)
      ∙ sym (append_assoc a.text (answers files a.world ls) (last a.world ls).text)

  world_last : (w : World) (ls : List Line)
      → world_after files w (ls ++ l ∷ []) ≡ (last w ls).world
  unfolding world_after
  world_last w [] = refl
  world_last w (x ∷ ls) = world_last (answer files w x.command).world ls

  work_last : (w : World) (ls : List Line)
      → work_after files w (ls ++ l ∷ []) ≡ work_after files w ls + (last w ls).work
  unfolding work_after world_after
  work_last w [] = omega arith
  work_last w (x ∷ ls) =
      let a = answer files w x.command in
      omega (arith, work_last a.world ls)

-- the first lines of all, one more, and the others
module _ (ls : List Line) (made : ℕ) (more : made < length ls) (l : Line)
    (here : l ≡ get_or ls made l) where
  pub whole : ls ≡ take made ls ++ l ∷ drop (made + 1) ls
  whole =
      sym (take-append-drop made ls)
      ∙ ap (λ r. take made ls ++ r) (drop_more ls made l more
      ∙ ap (λ x. x ∷ drop (made + 1) ls) (sym here))

  one_more : take (made + 1) ls ≡ take made ls ++ l ∷ []
  one_more = take_more ls made l more ∙ ap (λ x. take made ls ++ x ∷ []) (sym here)

-- what they did
module _ (files : FileMap) (ls : List Line) (made : ℕ) (more : made < length ls) (l : Line)
    (here : l ≡ get_or ls made l) (first now after : World)
    (taken_old taken_now taken_new : Option (List ℕ)) (stepped stepped_after : ℕ)
    (run : HaveRun files (take made ls) first now taken_old taken_now stepped) where
  abbrev this : Answer
  this = answer files now l.command

  this_is : answer files (world_after files first (take made ls)) l.command ≡ this
  this_is = ap (λ w. answer files w l.command) (sym run.world)

  world_more : after ≡ this.world → after ≡ world_after files first (take made ls ++ l ∷ [])
  world_more is =
      is ∙ (ap (λ a. a.world) (sym this_is) ∙ sym (world_last files l first (take made ls)))

  work_more : stepped + this.work ≤ stepped_after
      → work_after files first (take made ls ++ l ∷ []) ≤ stepped_after
  work_more counted =
      omega (
        arith,
        counted,
        run.work,
        work_last files l first (take made ls),
        ap (λ a. a.work) this_is,
      )

  -- the line was run, and its answer taken
  pub run_more : (text : List ℕ) → text ≡ this.text → after ≡ this.world
      → stepped + this.work ≤ stepped_after → taken_new ≡ taken_with taken_now text
      → HaveRun files (take (made + 1) ls) first after taken_old taken_new stepped_after
  run_more text printed world counted taken =
      subst (λ all. HaveRun files all first after taken_old taken_new stepped_after)
      (sym (one_more ls made more l here)) (record {
        taken = taken ∙ (ap (λ t. taken_with t text) run.taken
            ∙ (taken_with_both taken_old (answers files first (take made ls)) text
            ∙ ap (taken_with taken_old)
            (ap (λ t. answers files first (take made ls) ++ t)
            (printed ∙ ap (λ a. a.text) (sym this_is))
            ∙ sym (answers_last files l first (take made ls)))));
        world = world_more world;
        work = work_more counted;
      })

  -- it was run, and its answer cut short
  pub run_cut : (text : List ℕ) → text ≡ this.text → after ≡ this.world
      → stepped + this.work ≤ stepped_after → TookFront taken_now taken_new text
      → RanToCut files (take made ls) l first after taken_old taken_new stepped_after
  run_cut text printed world counted front = record {
    taken = subst (λ t. TookFront t taken_new
        (answer files (world_after files first (take made ls)) l.command).text) run.taken
        (subst (TookFront taken_now taken_new) (printed ∙ ap (λ a. a.text) (sym this_is)) front);
    world = world_more world;
    work = work_more counted;
  }

  -- it stopped
  pub run_stops : (may_stop : World → Command → Bool) → may_stop now l.command ≡ true
      → after ≡ now → stepped_after ≡ stepped → taken_new ≡ taken_now
      → RanToStop may_stop files (take made ls) l first after taken_old taken_new stepped_after
  run_stops may_stop may world counted taken = record {
    may = ap (λ (w : World). may_stop w l.command) (sym run.world) ∙ may;
    run = record {
      taken = taken ∙ run.taken;
      world = world ∙ run.world;
      work = omega (arith, run.work, counted);
    };
  }
