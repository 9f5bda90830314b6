-- Each live guest's machine is the replay of its own journal.
use Rattle.std.proofs.Common.{◌≡◌, ℕ, zero, suc, Bool, true, false, cond, ltb, List, [], ◌∷◌, ◌++◌}
use Rattle.std.proofs.Common.{◌+◌, map, set, length, Option, Some, None, is_some, slice_get, subst}
use Rattle.std.proofs.Common.{refl, sym}
use Rattle.std.proofs.Common.{ap, ◌∙◌, codes, arith, sum_by, Result, Ok, Err}
use Rattle.std.specs.List.{concat, flat_map}
use Rattle.std.specs.Str.{bytes_eq}
use Rattle.std.proofs.lemmas.Bool.{cond_both, cond-true, cond-false, ltb-false}
use Rattle.std.proofs.lemmas.List.{append-nil, append_assoc}
use Rattle.std.proofs.lemmas.Slice.Eq.{bytes_eq-Decides}
use Rattle.sha2.specs.Sha256.{sha256}
use Rattle.xv_outside.specs.Fetch.{FileMap}
use Rattle.xv_lone.specs.declared.vcpu.VcpuView.{VcpuView}
use Rattle.xv_fdt.specs.Fault as fdt
use Rattle.xv_fdt.specs.Grammar.{tree}
use Rattle.xv_fdt.specs.Tree.{Entry as Node}
use Rattle.xv_region.specs.Need.{need}
use Rattle.xv_region.specs.Plan.{Plan, flat}
use Rattle.xv_tree.specs.declared.fault.PlanFault.{PlanFault}
use Rattle.xv_tree.specs.Plan as trees
use Rattle.xv_gstage.specs.Audit.{mapped_pages}
use Rattle.xv_lone.specs.Memory.{peeked, spot_at}
use Rattle.xv_lone.specs.Machine.{Machine, new_machine}
use Rattle.xv_lone.specs.Ready.{is_reset}
use Rattle.xv_lone.specs.Journal.{Entry, Born, Changed, Change, Load, Kick, Input, Dump}
use Rattle.xv_lone.specs.Journal.{after_change}
use Rattle.xv_lone.specs.Journal.{after_entry, extended, replay, replay_from}
use Rattle.xv_script.specs.declared.command.Command.{Command}
use Rattle.xv_script.specs.declared.command.Command.TheVariants as command
use Rattle.xv_script.specs.declared.command.Line.{Line}
use Rattle.xv_top.specs.World.{LiveGuest, World, GuestEntry, RunSoFar, first_world, changed_guest}
use Rattle.xv_top.specs.World.{Candidate, change_entry, noted, no_turns, one_turn, pick, run_from}
use Rattle.xv_top.specs.World.{run_of, turn_at}
use Rattle.xv_top.specs.World.{guest_named, free, least_root}
use Rattle.xv_top.specs.Answer.{Answer, refused, says, where_there, where_reset, with_file}
use Rattle.xv_top.specs.Births.{admitted, where_alone, plan_answer, tree_answer}
use Rattle.xv_top.specs.Births.{create_answer}
use Rattle.xv_top.specs.Contents.{put_into, load_bytes, load_guest, mem_of}
use Rattle.xv_top.specs.Commands.{answer, clock_answer, tick_answer, regs_of_vcpu, run_answer}
use Rattle.xv_top.specs.Commands.{by_port, dump_at, input_at, room_at, unbuilt}
use Rattle.xv_top.specs.Files.{file_of, most_tree, most_image}
use Rattle.xv_top.specs.Texts.{frames_text, regs_text, tree_text, plan_text, mem_text}
use Rattle.xv_top.specs.Texts.{digest_text, audit_text, clock_text}
use Rattle.xv_top.specs.Lists.{full_text, guests_text, ports_of, ports_text, uart_named}
use Rattle.xv_top.specs.Transcript.{world_after}
use Rattle.xv_top.specs.Journals.{journal_from, journal_of, entries_by, AreReplayed}

replay_from-push : (plan : Plan) (m : Option Machine) (j : List Entry) (e : Entry)
    → replay_from plan m (j ++ e ∷ []) ≡ after_entry plan (replay_from plan m j) e
replay_from-push plan m [] e = refl
replay_from-push plan m (x ∷ j) e = replay_from-push plan (after_entry plan m x) j e

replay-push : (plan : Plan) (j : List Entry) (change : Change) (m : Machine) → replay plan j
    ≡ Some m → replay plan (j ++ Changed change ∷ []) ≡ Some (after_change plan change m)
unfolding replay
replay-push plan j change m now = replay_from-push plan None j (Changed change)
    ∙ ap (λ o. after_entry plan o (Changed change)) now

journal_from-push : (name : List ℕ) (j : List Entry) (es : List GuestEntry) (e : GuestEntry)
    → journal_from name j (es ++ e ∷ []) ≡ cond (bytes_eq name e.name)
    (extended (journal_from name j es) e.entry) (journal_from name j es)
journal_from-push name j [] e = refl
journal_from-push name j (x ∷ es) e =
    journal_from-push name (cond (bytes_eq name x.name) (extended j x.entry) j) es e

journal-push : (name : List ℕ) (es : List GuestEntry) (e : GuestEntry)
    → journal_of name (es ++ e ∷ [])
    ≡ cond (bytes_eq name e.name) (extended (journal_of name es) e.entry) (journal_of name es)
unfolding journal_of
journal-push name es e = journal_from-push name [] es e

abbrev an_entry : List ℕ → Entry → GuestEntry
an_entry name e = record { name = name; entry = e }

-- one guest after a change
one_replayed : (name : List ℕ) (change : Change) (es : List GuestEntry) (g : LiveGuest) (b : Bool)
    → bytes_eq g.name name ≡ b → replay g.plan (journal_of g.name es) ≡ Some g.machine
    → replay (changed_guest name change g).plan
    (journal_of (changed_guest name change g).name (es ++ change_entry name change ∷ []))
    ≡ Some (changed_guest name change g).machine
one_replayed name change es g true same now =
    let next : LiveGuest = record g { machine = after_change g.plan change g.machine } in
    let there : changed_guest name change g ≡ next = cond-true (bytes_eq g.name name) next g same in
    subst (λ (h : LiveGuest). replay h.plan
    (journal_of h.name (es ++ change_entry name change ∷ [])) ≡ Some h.machine) (sym there)
    (ap (replay g.plan) (journal-push g.name es (change_entry name change)
    ∙ cond-true (bytes_eq g.name name) _ _ same)
    ∙ replay-push g.plan (journal_of g.name es) change g.machine now)
one_replayed name change es g false other now =
    let next : LiveGuest = record g { machine = after_change g.plan change g.machine } in
    let there : changed_guest name change g ≡ g = cond-false (bytes_eq g.name name) next g other in
    subst (λ (h : LiveGuest). replay h.plan
    (journal_of h.name (es ++ change_entry name change ∷ [])) ≡ Some h.machine) (sym there)
    (ap (replay g.plan) (journal-push g.name es (change_entry name change)
    ∙ cond-false (bytes_eq g.name name) _ _ other) ∙ now)

all_replayed : (name : List ℕ) (change : Change) (es : List GuestEntry) (gs : List LiveGuest)
    → AreReplayed es gs
    → AreReplayed (es ++ change_entry name change ∷ []) (map (changed_guest name change) gs)
all_replayed name change es [] h = tt
all_replayed name change es (g ∷ gs) h = (
  one_replayed name change es g (bytes_eq g.name name) refl h.0,
  all_replayed name change es gs h.1,
)

-- a guest that is born where no other lives
born_replayed : (name : List ℕ) (root : ℕ) (plan : Plan) (clock : ℕ) (es : List GuestEntry)
    → AreReplayed (es ++ an_entry name (Born clock) ∷ [])
    (record {
      name = name;
      root = root;
      plan = plan;
      machine = new_machine plan clock;
      last = no_turns;
    } ∷ [])
unfolding replay
born_replayed name root plan clock es = (
  ap (replay_from plan None) (journal-push name es (an_entry name (Born clock))
      ∙ cond-true (bytes_eq name name) _ _ ((bytes_eq-Decides name name).1 refl)),
  tt,
)

-- the number of a turn is no part of it
one_noted : (c : Candidate) (turn : ℕ) (es : List GuestEntry) (g : LiveGuest) (b : Bool)
    → bytes_eq g.name c.guest.name ≡ b → replay g.plan (journal_of g.name es) ≡ Some g.machine
    → replay (noted c turn g).plan (journal_of (noted c turn g).name es)
    ≡ Some (noted c turn g).machine
one_noted c turn es g true same now =
    let next : LiveGuest = record g { last = set g.last c.vcpu turn } in
    subst (λ (h : LiveGuest). replay h.plan (journal_of h.name es) ≡ Some h.machine)
    (sym (cond-true (bytes_eq g.name c.guest.name) next g same)) now
one_noted c turn es g false other now =
    let next : LiveGuest = record g { last = set g.last c.vcpu turn } in
    subst (λ (h : LiveGuest). replay h.plan (journal_of h.name es) ≡ Some h.machine)
    (sym (cond-false (bytes_eq g.name c.guest.name) next g other)) now

noted_replayed : (c : Candidate) (turn : ℕ) (es : List GuestEntry) (gs : List LiveGuest)
    → AreReplayed es gs → AreReplayed es (map (noted c turn) gs)
noted_replayed c turn es [] h = tt
noted_replayed c turn es (g ∷ gs) h =
    (one_noted c turn es g (bytes_eq g.name c.guest.name) refl h.0, noted_replayed c turn es gs h.1)

-- a run of turns keeps it
abbrev RunReplayed : List GuestEntry → RunSoFar → Type 0
RunReplayed es r = AreReplayed (es ++ r.entries) r.world.guests

one_turn_replayed : (es : List GuestEntry) (r : RunSoFar) (o : Option Candidate) → RunReplayed es r
    → RunReplayed es (one_turn r o)
one_turn_replayed es r None h = h
one_turn_replayed es r (Some c) h =
    let name = c.guest.name in
    let change = turn_at r.world c.vcpu in
    subst (λ all. AreReplayed all
    (map (noted c (r.world.turns + 1)) (map (changed_guest name change) r.world.guests)))
    (append_assoc es r.entries (change_entry name change ∷ []))
    (noted_replayed c (r.world.turns + 1) (es ++ r.entries ++ change_entry name change ∷ [])
    (map (changed_guest name change) r.world.guests)
    (all_replayed name change (es ++ r.entries) r.world.guests h))

run_from_replayed : (es : List GuestEntry) (turns : ℕ) (r : RunSoFar) → RunReplayed es r
    → RunReplayed es (run_from turns r)
unfolding run_from
run_from_replayed es zero r h = h
run_from_replayed es (suc n) r h =
    run_from_replayed es n (one_turn r (pick r.world)) (one_turn_replayed es r (pick r.world) h)

run_replayed : (es : List GuestEntry) (turns : ℕ) (w : World) → AreReplayed es w.guests
    → RunReplayed es (run_of turns w)
unfolding run_of
run_replayed es turns w h =
    run_from_replayed es turns (record { world = w; idle = 0; work = 0; entries = [] })
    (subst (λ all. AreReplayed all w.guests) (sym (append-nil es)) h)

-- an answer keeps it
abbrev AnswerReplayed : List GuestEntry → Answer → Type 0
AnswerReplayed es a = AreReplayed (es ++ a.entries) a.world.guests

module _ (es : List GuestEntry) (w : World) (h : AreReplayed es w.guests) where
  guests_replayed : (a : Answer) → a.world.guests ≡ w.guests → a.entries ≡ []
      → AnswerReplayed es a
  guests_replayed a guests none =
      subst (AreReplayed (es ++ a.entries)) (sym guests)
      (subst (λ x. AreReplayed x w.guests) (sym (append-nil es) ∙ ap (λ x. es ++ x) (sym none)) h)

  same_replayed : (a : Answer) → a.world ≡ w → a.entries ≡ [] → AnswerReplayed es a
  same_replayed a world = guests_replayed a (ap (λ (x : World). x.guests) world)

  says_replayed : (text : List ℕ) → AnswerReplayed es (says w text)
  says_replayed text = same_replayed (says w text) refl refl

  -- ---- births

  admitted_replayed : (name : List ℕ) (plan : Plan) → ltb 0 (length w.guests) ≡ false
      → AnswerReplayed es (admitted w name plan)
  admitted_replayed name plan alone =
      cond_both (ltb (free w) (need plan.regions)) _ _ (AnswerReplayed es)
      (λ _. says_replayed (frames_text (need plan.regions) (free w)))
      (λ _. made w.guests alone)
    where
      made : (gs : List LiveGuest) → ltb 0 (length gs) ≡ false
          → AreReplayed (es ++ an_entry name (Born w.clock) ∷ [])
          (gs ++ record {
            name = name;
            root = least_root w;
            plan = plan;
            machine = new_machine plan w.clock;
            last = no_turns;
          } ∷ [])
      made [] alone = born_replayed name (least_root w) plan w.clock es
      made (g ∷ gs) alone = absurd (omega (arith, ltb-false 0 (suc (length gs)) alone))

  alone_replayed : (name : List ℕ) (next : Answer)
      → (ltb 0 (length w.guests) ≡ false → AnswerReplayed es next)
      → AnswerReplayed es (where_alone w name next)
  alone_replayed name next follows =
      cond_both (is_some (guest_named name w)) _ _ (AnswerReplayed es)
      (λ _. same_replayed (refused w (codes "used")) refl refl)
      (λ _. cond_both (ltb 0 (length w.guests)) _ _ (AnswerReplayed es)
      (λ _. same_replayed (refused w (codes "unbuilt")) refl refl) follows)

  file_replayed : (limit : ℕ) (next : List ℕ → Answer) (o : Option (List ℕ))
      → ((bytes : List ℕ) → AnswerReplayed es (next bytes))
      → AnswerReplayed es (with_file w limit next o)
  file_replayed limit next None follows = same_replayed (refused w (codes "missing")) refl refl
  file_replayed limit next (Some bytes) follows =
      cond_both (ltb limit (length bytes)) _ _ (AnswerReplayed es)
      (λ _. same_replayed (refused w (codes "big")) refl refl) (λ _. follows bytes)

  plan_replayed : (name : List ℕ) (r : Result Plan PlanFault) → ltb 0 (length w.guests) ≡ false
      → AnswerReplayed es (plan_answer w name r)
  plan_replayed name (Err fault) alone = says_replayed (plan_text fault)
  plan_replayed name (Ok plan) alone =
      admitted_replayed name plan alone

  tree_replayed : (name : List ℕ) (r : Result (List Node) fdt.Fault)
      → ltb 0 (length w.guests) ≡ false → AnswerReplayed es (tree_answer w name r)
  tree_replayed name (Err fault) alone = says_replayed (tree_text fault.0 fault.1)
  tree_replayed name (Ok entries) alone = plan_replayed name (trees.plan entries w.area) alone

  create_replayed : (files : FileMap) (name file : List ℕ)
      → AnswerReplayed es (create_answer files w name file)
  create_replayed files name file =
      alone_replayed name _ (λ alone.
      file_replayed most_tree (λ bytes. tree_answer w name (tree bytes)) (file_of files file)
      (λ bytes. tree_replayed name (tree bytes) alone))

  -- ---- what is done to a guest

  there_replayed : (next : LiveGuest → Answer) (o : Option LiveGuest)
      → ((g : LiveGuest) → AnswerReplayed es (next g)) → AnswerReplayed es (where_there w next o)
  there_replayed next None follows = same_replayed (refused w (codes "guest")) refl refl
  there_replayed next (Some g) follows = follows g

  reset_replayed : (next : LiveGuest → Answer) (o : Option LiveGuest)
      → ((g : LiveGuest) → AnswerReplayed es (next g)) → AnswerReplayed es (where_reset w next o)
  reset_replayed next None follows = same_replayed (refused w (codes "guest")) refl refl
  reset_replayed next (Some g) follows =
      cond_both (is_reset g.machine.state) _ _ (AnswerReplayed es) (λ _. follows g)
      (λ _. same_replayed (refused w (codes "state")) refl refl)

  put_replayed : (name : List ℕ) (gpa : ℕ) (bytes text : List ℕ) (g : LiveGuest)
      → AnswerReplayed es (put_into w name gpa bytes text g)
  put_replayed name gpa bytes text g =
      cond_both (is_some (spot_at g.plan (length bytes) gpa)) _ _ (AnswerReplayed es)
      (λ _. all_replayed name (Load gpa bytes) es w.guests h)
      (λ _. same_replayed (refused w (codes "outside")) refl refl)

  load_replayed : (files : FileMap) (name : List ℕ) (gpa : ℕ) (file : List ℕ)
      (o : Option LiveGuest) → AnswerReplayed es (load_guest files w name gpa file o)
  load_replayed files name gpa file o =
      reset_replayed _ o (λ g. file_replayed most_image (load_bytes w name gpa g)
      (file_of files file) (λ bytes. put_replayed name gpa bytes _ g))

  mem_replayed : (name : List ℕ) (gpa : ℕ) (o : Option (List ℕ))
      → AnswerReplayed es (mem_of w name gpa o)
  mem_replayed name gpa None = same_replayed (refused w (codes "outside")) refl refl
  mem_replayed name gpa (Some bytes) = says_replayed (mem_text name gpa bytes)

  regs_replayed : (name : List ℕ) (vcpu : ℕ) (o : Option VcpuView)
      → AnswerReplayed es (regs_of_vcpu w name vcpu o)
  regs_replayed name vcpu None = same_replayed (refused w (codes "vcpu")) refl refl
  regs_replayed name vcpu (Some v) = says_replayed (regs_text name vcpu v)

  port_replayed : (next : ℕ → Answer) (o : Option ℕ)
      → ((region : ℕ) → AnswerReplayed es (next region)) → AnswerReplayed es (by_port w next o)
  port_replayed next None follows = same_replayed (refused w (codes "device")) refl refl
  port_replayed next (Some region) follows = follows region

  input_replayed : (name dev bytes : List ℕ) (g : LiveGuest) (region : ℕ)
      → AnswerReplayed es (input_at w name dev bytes g region)
  input_replayed name dev bytes g region =
      cond_both (ltb (room_at g region) (length bytes)) _ _ (AnswerReplayed es)
      (λ _. says_replayed (full_text (room_at g region)))
      (λ _. all_replayed name (Input region bytes) es w.guests h)

  dump_replayed : (name dev : List ℕ) (g : LiveGuest) (region : ℕ)
      → AnswerReplayed es (dump_at w name dev g region)
  dump_replayed name dev g region = all_replayed name (Dump region) es w.guests h

  clock_replayed : (value : ℕ) → AnswerReplayed es (clock_answer w value)
  clock_replayed value =
      cond_both (ltb value w.clock) _ _ (AnswerReplayed es)
      (λ _. same_replayed (refused w (codes "clock")) refl refl)
      (λ _. guests_replayed (says (record w { clock = value }) (clock_text value)) refl refl)

  turns_replayed : (turns : ℕ) → AnswerReplayed es (run_answer w turns)
  turns_replayed turns =
      cond_both _ _ _ (AnswerReplayed es) (λ _. same_replayed (refused w (codes "turns")) refl refl)
      (λ _. run_replayed es turns w h)

  answer_replayed : (files : FileMap) (c : Command) → AnswerReplayed es (answer files w c)
  unfolding answer
  answer_replayed files (command.Create name file) = create_replayed files name file
  answer_replayed files (command.Flat name pages) =
      alone_replayed name _ (admitted_replayed name (flat pages))
  answer_replayed files (command.Load name gpa file) =
      load_replayed files name gpa file (guest_named name w)
  answer_replayed files (command.Poke name gpa bytes) =
      reset_replayed _ (guest_named name w) (put_replayed name gpa bytes _)
  answer_replayed files (command.Kick name) =
      reset_replayed _ (guest_named name w) (λ g. all_replayed name Kick es w.guests h)
  answer_replayed files (command.Pause name) = same_replayed (unbuilt w) refl refl
  answer_replayed files (command.Resume name) = same_replayed (unbuilt w) refl refl
  answer_replayed files (command.Reset name) = same_replayed (unbuilt w) refl refl
  answer_replayed files (command.Halt name) = same_replayed (unbuilt w) refl refl
  answer_replayed files (command.Destroy name) = same_replayed (unbuilt w) refl refl
  answer_replayed files (command.Regs name vcpu) =
      there_replayed _ (guest_named name w)
      (λ g. regs_replayed name vcpu (slice_get g.machine.vcpus vcpu))
  answer_replayed files (command.Mem name gpa len) =
      there_replayed _ (guest_named name w)
      (λ g. mem_replayed name gpa (peeked g.plan g.machine.memory gpa len))
  answer_replayed files (command.Digest name) =
      there_replayed _ (guest_named name w) (λ g. says_replayed (digest_text name (sha256 (concat
      g.machine.memory))))
  answer_replayed files (command.Audit name) =
      there_replayed _ (guest_named name w)
      (λ g. says_replayed (audit_text name (sum_by mapped_pages g.plan.regions)))
  answer_replayed files command.List = says_replayed (guests_text w.guests)
  answer_replayed files (command.Input name dev bytes) =
      there_replayed _ (guest_named name w) (λ g. port_replayed (input_at w name dev bytes g)
      (uart_named dev g.plan) (input_replayed name dev bytes g))
  answer_replayed files (command.Dump name dev) =
      there_replayed _ (guest_named name w) (λ g. port_replayed (dump_at w name dev g)
      (uart_named dev g.plan) (dump_replayed name dev g))
  answer_replayed files command.Ports = says_replayed (ports_text (flat_map ports_of w.guests))
  answer_replayed files (command.Clock value) = clock_replayed value
  answer_replayed files (command.Tick value) = guests_replayed (tick_answer w value) refl refl
  answer_replayed files (command.Run turns) = turns_replayed turns

replayed_from : (files : FileMap) (es : List GuestEntry) (w : World) (ls : List Line)
    → AreReplayed es w.guests
    → AreReplayed (es ++ entries_by files w ls) (world_after files w ls).guests
unfolding entries_by world_after
replayed_from files es w [] h =
    subst (λ all. AreReplayed all w.guests) (sym (append-nil es)) h
replayed_from files es w (l ∷ ls) h =
    let a = answer files w l.command in
    subst (λ all. AreReplayed all (world_after files a.world ls).guests)
    (append_assoc es a.entries (entries_by files a.world ls))
    (replayed_from files (es ++ a.entries) a.world ls (answer_replayed es w h files l.command))

-- whatever lines come, each live guest's machine is the replay of its own journal
pub replayed : (mib : ℕ) (files : FileMap) (ls : List Line)
    → AreReplayed (entries_by files (first_world mib) ls)
    (world_after files (first_world mib) ls).guests
replayed mib files ls = replayed_from files [] (first_world mib) ls tt
