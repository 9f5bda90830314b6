-- The commands by which a guest is born.
use Rattle.std.specs.Prelude.{ℕ, nat_lt, if◌then◌else◌, List, [], ◌∷◌, ◌++◌}
use Rattle.std.specs.Prelude.{length, is_some, codes, Result, Ok, Err}
use Rattle.xv_outside.specs.Fetch.{FileMap}
use Rattle.xv_fdt.specs.Fault as fdt
use Rattle.xv_fdt.specs.Grammar.{tree}
use Rattle.xv_fdt.specs.Tree.{Entry}
use Rattle.xv_region.specs.Need.{need}
use Rattle.xv_region.specs.Plan.{Plan, flat}
use Rattle.xv_tree.specs.declared.fault.PlanFault.{PlanFault}
use Rattle.xv_tree.specs.Plan as trees
use Rattle.xv_lone.specs.Machine.{new_machine}
use Rattle.xv_lone.specs.Journal.{Born}
use Rattle.xv_top.specs.Answer.{Answer, says, refused, with_file}
use Rattle.xv_top.specs.Files.{file_of, most_tree}
use Rattle.xv_top.specs.Texts.{frames_text, created_text, tree_text, plan_text}
use Rattle.xv_top.specs.World.{World, free, least_root, guest_named, no_turns}

-- a guest of this plan is born, with the least root that no other has
abbrev pub created : World → List ℕ → Plan → Answer
created w name plan = record {
  text = created_text name (length plan.vcpus) (length plan.regions) (need plan.regions);
  world = record w {
    guests = w.guests
        ++ record {
          name = name;
          root = least_root w;
          plan = plan;
          machine = new_machine plan w.clock;
          last = no_turns;
        } ∷ [];
  };
  entries = record { name = name; entry = Born w.clock } ∷ [];
  work = 0;
}

-- it is born if there are frames for it
abbrev pub admitted : World → List ℕ → Plan → Answer
admitted w name plan =
    if nat_lt (free w) (need plan.regions)
    then says w (frames_text (need plan.regions) (free w))
    else created w name plan

-- what follows where the name is free; a second guest isn't built
abbrev pub where_alone : World → List ℕ → Answer → Answer
where_alone w name next =
    if is_some (guest_named name w) then refused w (codes "used")
    else (if nat_lt 0 (length w.guests) then refused w (codes "unbuilt") else next)

-- `guest flat`
abbrev pub flat_answer : World → List ℕ → ℕ → Answer
flat_answer w name pages = where_alone w name (admitted w name (flat pages))

-- ---- from a tree

abbrev pub plan_answer : World → List ℕ → Result Plan PlanFault → Answer
plan_answer w name (Ok plan) = admitted w name plan
plan_answer w name (Err fault) = says w (plan_text fault)

abbrev pub tree_answer : World → List ℕ → Result (List Entry) fdt.Fault → Answer
tree_answer w name (Ok entries) = plan_answer w name (trees.plan entries w.area)
tree_answer w name (Err fault) = says w (tree_text fault.0 fault.1)

-- `guest create`
abbrev pub create_answer : FileMap → World → (name file : List ℕ) → Answer
create_answer files w name file =
    where_alone w name
    (with_file w most_tree (λ bytes. tree_answer w name (tree bytes)) (file_of files file))
