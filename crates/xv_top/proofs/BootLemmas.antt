-- The script that a source has, the text that is read of it, and what stands at each status.
use Rattle.std.proofs.Common.{◌≡◌, ℕ, ◌<◌, ◌≤◌, Bool, false, cond, leb, List, [], ◌∷◌, ◌++◌}
use Rattle.std.proofs.Common.{length, take}
use Rattle.std.proofs.Common.{map, get_or, Option, Some, None, Ok, Err, subst, refl, sym}
use Rattle.std.proofs.Common.{ap}
use Rattle.std.proofs.Common.{◌∙◌, arith, inl, inr, ◌⊎◌, IsTrue}
use Rattle.std.proofs.lemmas.Bool.Decides.{nat_tests}
use Rattle.std.proofs.lemmas.Bool.{cases_lt}
use Rattle.std.proofs.lemmas.List.{take_all, drop_all, length-take}
use Rattle.xv_outside.specs.Fetch.{FileMap}
use Rattle.xv_outside.specs.Outside.{left_after, taken_with, TookFront}
use Rattle.xv_script.specs.declared.command.Command.{Command}
use Rattle.xv_script.specs.declared.command.Line.{Line}
use Rattle.xv_script.specs.declared.fault.ScriptKind.TheVariants as kind
use Rattle.xv_script.specs.Script.{commands, commands_from}
use Rattle.xv_script.specs.Text.{lines}
use Rattle.xv_hart.specs.declared.machine.Machine.{Machine}
use Rattle.xv_hart.specs.Hart.{taken_by}
use Rattle.xv_hart.specs.Machine.{area_of}
use Rattle.xv_host.specs.Host.{Host, IsHosted}
use Rattle.xv_host.specs.Stands.{Seen, Shows, Stands}
use Rattle.xv_top.specs.declared.manager.Manager.{Manager}
use Rattle.xv_top.specs.Boot.{IsTextOf, IsScriptOf, Holds, IsServed, IsRun, IsNoScript, IsRefused}
use Rattle.xv_top.specs.Boot.{IsStoppedIn, IsStopped, IsCutIn, IsCutShort}
use Rattle.xv_top.specs.Boot.{emptied, most_read, seen_of_live}
use Rattle.xv_top.specs.Commands.{answer}
use Rattle.xv_top.specs.Files.{StandsFor}
use Rattle.xv_top.specs.Layout.{memory_size}
use Rattle.xv_top.specs.Manager.{world_of, IsSound}
use Rattle.xv_top.specs.Run.{HaveRun, IsStop, IsCut}
use Rattle.xv_top.specs.Transcript.{answers, fetches, world_after, work_after, transcript}
use Rattle.xv_top.specs.Transcript.{transcript_of}
use Rattle.xv_top.specs.World.{World, first_world}
use Rattle.xv_top.proofs.HostLemmas.{shows_world}
use Rattle.xv_top.proofs.JournalLemmas.{replayed}

cases_le : (m n : ℕ) → (m ≤ n) ⊎ (n < m)
cases_le m n = swap (cases_lt n m)
  where
    swap : (n < m) ⊎ (m ≤ n) → (m ≤ n) ⊎ (n < m)
    swap (inl more) = inr more
    swap (inr few) = inl few

-- a script of more bytes than a script may have is refused at once
commands_long : (text : List ℕ) → 1048576 < length text → commands text ≡ Err (0, kind.Long)
unfolding commands
commands_long text long = let no : leb (length text) 1048576 ≡ false = grind (arith, nat_tests) in
    ap (λ b. cond b (commands_from 1 (lines text)) (Err (0, kind.Long))) no

commands_short : (text : List ℕ) (ls : List Line) → commands text ≡ Ok ls
    → length text ≤ 1048576
commands_short text ls some = short (cases_le (length text) 1048576)
  where
    short : (length text ≤ 1048576) ⊎ (1048576 < length text) → length text ≤ 1048576
    short (inl few) = few
    short (inr many) = let none = commands_long text many in cc

commands_take : (script : List ℕ) → commands (take most_read script) ≡ commands script
commands_take script = by_length (cases_le (length script) most_read)
  where
    by_length : (length script ≤ most_read) ⊎ (most_read < length script)
        → commands (take most_read script) ≡ commands script
    by_length (inl few) = ap commands (take_all most_read script few)
    by_length (inr many) =
        commands_long (take most_read script) (omega (arith, length-take most_read script))
        ∙ sym (commands_long script (omega arith))

-- the script of which a text was read
abbrev pub script_of : Option (List ℕ) → List ℕ → List ℕ
script_of None text = text
script_of (Some script) text = script

script_told : (left : Option (List ℕ)) (text : List ℕ) → IsScriptOf left (script_of left text)
script_told None text = tt
script_told (Some script) text = refl

commands_same : (left : Option (List ℕ)) (text : List ℕ) → IsTextOf left text
    → commands text ≡ commands (script_of left text)
commands_same None text told = refl
commands_same (Some script) text told = ap commands told ∙ commands_take script

transcript_same : (mib : ℕ) (files : FileMap) (left : Option (List ℕ)) (text : List ℕ)
    → IsTextOf left text → transcript mib files text ≡ transcript mib files (script_of left text)
unfolding transcript
transcript_same mib files left text told =
    ap (transcript_of mib files) (commands_same left text told)

-- a script that has commands was read to its end
nothing_left : (left : Option (List ℕ)) (text : List ℕ) (ls : List Line) → IsTextOf left text
    → commands text ≡ Ok ls → left_after left most_read ≡ emptied left
nothing_left None text ls told some = refl
nothing_left (Some script) text ls told some =
    ap Some (drop_all most_read script
    (omega (
      arith,
      commands_short script ls (sym (commands_same (Some script) text told) ∙ some),
    )))

transcript_some : (mib : ℕ) (files : FileMap) (text : List ℕ) (ls : List Line)
    → commands text ≡ Ok ls → transcript mib files text ≡ answers files (first_world mib) ls
unfolding transcript transcript_of
transcript_some mib files text ls some = ap (transcript_of mib files) some

pub one_word : {A : Type 0} (f : A → List ℕ) (words : List A) (word : A) → length words ≡ 1
    → word ≡ get_or words 0 word → map f words ≡ f word ∷ []
one_word f [] word one here = cc
one_word f (w ∷ []) word one here = ap (λ x. f x ∷ []) (sym here)
one_word f (w ∷ v ∷ more) word one here = cc

-- what stands at each status, by the text that was read
module _ (mib : ℕ) (left_old left_new taken_old taken_new : Option (List ℕ)) (text : List ℕ)
    (told : IsTextOf left_old text) (machine : Machine) where
  same : commands (script_of left_old text) ≡ commands text
  same = sym (commands_same left_old text told)

  pub run_is : (given : Option FileMap) → left_new ≡ left_after left_old most_read
      → IsServed mib given text taken_old taken_new machine
      → IsRun mib given left_old left_new taken_old taken_new machine
  run_is given left served = record {
    script = script_of left_old text;
    told = script_told left_old text;
    left = left ∙ nothing_left left_old text served.lines told served.grammar;
    served = record {
      lines = served.lines;
      grammar = same ∙ served.grammar;
      served = λ files is.
          let all = served.served files is in
          record {
            taken = all.taken
                ∙ ap (taken_with taken_old) (transcript_same mib files left_old text told);
            holds = all.holds;
          };
    };
  }

  pub refused_is : left_new ≡ left_after left_old most_read → IsNoScript text taken_old taken_new
      → IsRefused left_old left_new taken_old taken_new
  refused_is left refused = record {
    script = script_of left_old text;
    told = script_told left_old text;
    left = left;
    refused = record {
      line = refused.line;
      kind = refused.kind;
      grammar = same ∙ refused.grammar;
      taken = refused.taken;
    };
  }

  pub stopped_is : (may_stop : World → Command → Bool) (given : Option FileMap)
      → IsStoppedIn may_stop mib given text taken_old taken_new machine
      → IsStopped may_stop mib given left_old taken_old taken_new machine
  stopped_is may_stop given stopped = record {
    script = script_of left_old text;
    told = script_told left_old text;
    stopped = record {
      at = record {
        before = stopped.at.before;
        line = stopped.at.line;
        after = stopped.at.after;
        grammar = same ∙ stopped.at.grammar;
      };
      stopped = stopped.stopped;
    };
  }

  pub cut_is : (given : Option FileMap) → IsCutIn mib given text taken_old taken_new machine
      → IsCutShort mib given left_old taken_old taken_new machine
  cut_is given cut = record {
    script = script_of left_old text;
    told = script_told left_old text;
    cut = cut_in cut;
  }
    where
      cut_in : IsCutIn mib given text taken_old taken_new machine
          → IsCutIn mib given (script_of left_old text) taken_old taken_new machine
      cut_in (inl line) = inl (record {
        at = record {
          before = line.at.before;
          line = line.at.line;
          after = line.at.after;
          grammar = same ∙ line.at.grammar;
        };
        cut = line.cut;
      })
      cut_in (inr refusal) = inr (record {
        line = refusal.line;
        kind = refusal.kind;
        grammar = same ∙ refusal.grammar;
        taken = refusal.taken;
        zeros = refusal.zeros;
      })

-- what the lines of a script do, by what the run of them ensures
module _ (mib : ℕ) (given : Option FileMap) (text : List ℕ) (ls all : List Line) (w : World)
    (grammar : commands text ≡ Ok ls) (same : all ≡ ls) (start : w ≡ first_world mib)
    (taken_old taken_new : Option (List ℕ)) (before machine : Machine) (m : Manager)
    (size : length machine.mem ≡ memory_size mib) (area : machine.area ≡ area_of mib 0)
    (sound : IsSound m machine)
    (law : (host : Host) (bytes : List ℕ) (world : List Seen) → IsHosted host bytes
    → Shows bytes host.guests world → Stands bytes world) where
  holds : (files : FileMap) (done : List Line)
      → world_of m machine.mem ≡ world_after files w done
      → work_after files w done ≤ taken_by machine.hart → Holds mib files done machine
  holds files done world work = record {
    size = size;
    area = area;
    stands = subst (λ (x : World). Stands machine.mem (map seen_of_live x.guests))
        (world ∙ ap (λ (x : World). world_after files x done) start)
        (law m.host machine.mem (map seen_of_live (world_of m machine.mem).guests) sound.hosted
        (shows_world m.host.guests machine.mem sound.hosted.parted.root m.guest m.last
        sound.guests));
    journals = replayed mib files done;
    stepped = omega (arith, work, ap (λ x. work_after files x done) start);
  }

  from_first : (files : FileMap) (done : List Line)
      → StandsFor given files (fetches files (first_world mib) done)
      → StandsFor given files (fetches files w done)
  from_first files done = subst (λ x. StandsFor given files (fetches files x done)) (sym start)

  pub served_is : ((files : FileMap) → StandsFor given files (fetches files w all)
      → HaveRun files all w (world_of m machine.mem) taken_old taken_new (taken_by machine.hart))
      → IsServed mib given text taken_old taken_new machine
  served_is ran = record {
    lines = all;
    grammar = grammar ∙ ap Ok (sym same);
    served = λ files is.
        let run = ran files (from_first files all is) in
        record {
          taken = run.taken ∙ ap (taken_with taken_old) (ap (λ x. answers files x all) start
              ∙ sym (transcript_some mib files text all (grammar ∙ ap Ok (sym same))));
          holds = holds files all run.world run.work;
        };
  }

  pub stop_is : (may_stop : World → Command → Bool)
      → IsStop may_stop given all w (world_of m machine.mem) taken_old taken_new
      (taken_by machine.hart) → IsStoppedIn may_stop mib given text taken_old taken_new machine
  stop_is may_stop stop = record {
    at = record {
      before = stop.before;
      line = stop.line;
      after = stop.after;
      grammar = grammar ∙ ap Ok (sym same ∙ stop.whole);
    };
    stopped = λ files is.
        let ran = stop.ran files (from_first files stop.before is) in
        record {
          may = subst
              (λ (x : World). IsTrue (may_stop (world_after files x stop.before) stop.line.command))
              start ran.may;
          taken = ran.run.taken
              ∙ ap (taken_with taken_old) (ap (λ x. answers files x stop.before) start);
          holds = holds files stop.before ran.run.world ran.run.work;
        };
  }

  pub cut_line_is : IsCut given all w (world_of m machine.mem) taken_old taken_new
      (taken_by machine.hart) → IsCutIn mib given text taken_old taken_new machine
  cut_line_is cut = inl (record {
    at = record {
      before = cut.before;
      line = cut.line;
      after = cut.after;
      grammar = grammar ∙ ap Ok (sym same ∙ cut.whole);
    };
    cut = λ files is.
        let ran = cut.ran files (from_first files (cut.before ++ cut.line ∷ []) is) in
        record {
          taken = subst
              (λ x. TookFront (taken_with taken_old (answers files x cut.before)) taken_new
              (answer files (world_after files x cut.before) cut.line.command).text)
              start ran.taken;
          holds = holds files (cut.before ++ cut.line ∷ []) ran.world ran.work;
        };
  })
