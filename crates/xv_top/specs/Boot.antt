-- What stands at each end of the program.
use Rattle.std.specs.Prelude.{◌≡◌, ℕ, ◌+◌, ◌≤◌, ◌⊎◌, Bool, List, [], ◌∷◌, ◌++◌, length, map}
use Rattle.std.specs.Prelude.{replicate, take, Option, Some, None, option_map, codes, Ok, Err}
use Rattle.std.specs.Prelude.{IsTrue}
use Rattle.xv_outside.specs.Outside.{taken_with, left_after, TookFront}
use Rattle.xv_outside.specs.Fetch.{FileMap}
use Rattle.xv_script.specs.declared.command.Command.{Command}
use Rattle.xv_script.specs.declared.command.Line.{Line}
use Rattle.xv_script.specs.declared.fault.ScriptKind.{ScriptKind}
use Rattle.xv_script.specs.Script.{commands, most_bytes}
use Rattle.xv_hart.specs.declared.machine.Machine.{Machine}
use Rattle.xv_hart.specs.Hart.{taken_by}
use Rattle.xv_hart.specs.Machine.{area_of, IsBare}
use Rattle.xv_host.specs.Stands.{Seen, Stands}
use Rattle.xv_top.specs.World.{LiveGuest, World, first_world}
use Rattle.xv_top.specs.Layout.{memory_size}
use Rattle.xv_top.specs.Texts.{script_text}
use Rattle.xv_top.specs.Commands.{answer}
use Rattle.xv_top.specs.Files.{StandsFor}
use Rattle.xv_top.specs.Journals.{entries_by, AreReplayed}
use Rattle.xv_top.specs.Transcript.{answers, fetches, world_after, work_after, transcript}

-- the words that the program takes: `boot` alone
abbrev pub AreRight : List (List ℕ) → Type 0
AreRight [] = ⊥
AreRight (word ∷ []) = word ≡ codes "boot"
AreRight (word ∷ next ∷ more) = ⊥

-- the most bytes of a script that are read: one more than a script may have
abbrev pub most_read : ℕ
most_read = most_bytes + 1

-- the text that a read to the end gives, or to the limit, where the source tells its bytes
abbrev pub IsTextOf : Option (List ℕ) → List ℕ → Type 0
IsTextOf None text = Unit {0}
IsTextOf (Some script) text = text ≡ take most_read script

-- no more than the limit is read, where the source tells its bytes
pub record ReadsAtMost (limit : ℕ) (old new : Option (List ℕ)) : Type 0 where
  pub count : ℕ
  pub within : count ≤ limit
  pub left : new ≡ left_after old count

-- what a live guest has of host memory: its root table, its regions and its memory
abbrev pub seen_of_live : LiveGuest → Seen
seen_of_live g =
    record { root = g.root; regions = g.plan.regions; memory = g.machine.memory }

-- the script is what the source had, where it tells its bytes
abbrev pub IsScriptOf : Option (List ℕ) → List ℕ → Type 0
IsScriptOf None script = Unit {0}
IsScriptOf (Some bytes) script = bytes ≡ script

-- nothing is left of what the source had
abbrev pub emptied : Option (List ℕ) → Option (List ℕ)
emptied left = option_map (λ bytes. []) left

-- The machine holds the world that lines leave: the machine of each guest in it is the replay of
-- its own journal, the tables in host memory lead each guest to its own memory and to nothing else,
-- and the hart has stepped as it says. No part of host memory is reserved.
pub record Holds (mib : ℕ) (files : FileMap) (lines : List Line) (machine : Machine) : Type 0 where
  pub size : length machine.mem ≡ memory_size mib
  pub area : machine.area ≡ area_of mib 0
  pub stands : Stands machine.mem
      (map seen_of_live (world_after files (first_world mib) lines).guests)
  pub journals : AreReplayed (entries_by files (first_world mib) lines)
      (world_after files (first_world mib) lines).guests
  pub stepped : work_after files (first_world mib) lines ≤ taken_by machine.hart

-- ---- at each status

-- The transcript was taken and nothing else, and the machine holds the world of its lines.
pub record HasServed (mib : ℕ) (files : FileMap) (script : List ℕ) (lines : List Line)
    (taken_old taken_new : Option (List ℕ)) (machine : Machine) : Type 0 where
  pub taken : taken_new ≡ taken_with taken_old (transcript mib files script)
  pub holds : Holds mib files lines machine

-- Every line of the script was run.
pub record IsServed (mib : ℕ) (given : Option FileMap) (script : List ℕ)
    (taken_old taken_new : Option (List ℕ)) (machine : Machine) : Type 0 where
  pub lines : List Line
  pub grammar : commands script ≡ Ok lines
  pub served : (files : FileMap) → StandsFor given files (fetches files (first_world mib) lines)
      → HasServed mib files script lines taken_old taken_new machine

-- The script was read to its end and served.
pub record IsRun (mib : ℕ) (given : Option FileMap)
    (left_old left_new taken_old taken_new : Option (List ℕ)) (machine : Machine) : Type 0 where
  pub script : List ℕ
  pub told : IsScriptOf left_old script
  pub left : left_new ≡ emptied left_old
  pub served : IsServed mib given script taken_old taken_new machine

-- Bytes are no script: the line that says so was taken and nothing else.
pub record IsNoScript (script : List ℕ) (taken_old taken_new : Option (List ℕ)) : Type 0 where
  pub line : ℕ
  pub kind : ScriptKind
  pub grammar : commands script ≡ Err (line, kind)
  pub taken : taken_new ≡ taken_with taken_old (script_text line kind)

-- The script was read to its end or to the limit and refused.
pub record IsRefused (left_old left_new taken_old taken_new : Option (List ℕ)) : Type 0 where
  pub script : List ℕ
  pub told : IsScriptOf left_old script
  pub left : left_new ≡ left_after left_old most_read
  pub refused : IsNoScript script taken_old taken_new

-- A line of a script, and those before and after it.
pub record LineOf (script : List ℕ) : Type 0 where
  pub before : List Line
  pub line : Line
  pub after : List Line
  pub grammar : commands script ≡ Ok (before ++ line ∷ after)

-- A line stopped that may stop so: what the lines before it answer was taken and nothing else, and
-- the machine holds their world.
pub record HasStoppedAt (may_stop : World → Command → Bool) (mib : ℕ) (files : FileMap)
    (before : List Line) (line : Line) (taken_old taken_new : Option (List ℕ)) (machine : Machine)
    : Type 0 where
  pub may : IsTrue (may_stop (world_after files (first_world mib) before) line.command)
  pub taken : taken_new ≡ taken_with taken_old (answers files (first_world mib) before)
  pub holds : Holds mib files before machine

-- One of the lines of a script stopped that may stop so.
pub record IsStoppedIn (may_stop : World → Command → Bool) (mib : ℕ) (given : Option FileMap)
    (script : List ℕ) (taken_old taken_new : Option (List ℕ)) (machine : Machine) : Type 0 where
  pub at : LineOf script
  pub stopped : (files : FileMap)
      → StandsFor given files (fetches files (first_world mib) at.before)
      → HasStoppedAt may_stop mib files at.before at.line taken_old taken_new machine

pub record IsStopped (may_stop : World → Command → Bool) (mib : ℕ) (given : Option FileMap)
    (left_old taken_old taken_new : Option (List ℕ)) (machine : Machine) : Type 0 where
  pub script : List ℕ
  pub told : IsScriptOf left_old script
  pub stopped : IsStoppedIn may_stop mib given script taken_old taken_new machine

-- What the lines before a line answer was taken, and a front of the answer to that line; the
-- machine holds the world after it.
pub record WasCutAt (mib : ℕ) (files : FileMap) (before : List Line) (line : Line)
    (taken_old taken_new : Option (List ℕ)) (machine : Machine) : Type 0 where
  pub taken : TookFront (taken_with taken_old (answers files (first_world mib) before)) taken_new
      (answer files (world_after files (first_world mib) before) line.command).text
  pub holds : Holds mib files (before ++ line ∷ []) machine

-- The answer to one of the lines was cut short.
pub record IsCutLine (mib : ℕ) (given : Option FileMap) (script : List ℕ)
    (taken_old taken_new : Option (List ℕ)) (machine : Machine) : Type 0 where
  pub at : LineOf script
  pub cut : (files : FileMap)
      → StandsFor given files (fetches files (first_world mib) (at.before ++ at.line ∷ []))
      → WasCutAt mib files at.before at.line taken_old taken_new machine

-- Host memory is all zeros, as it is before the first line is run.
abbrev pub IsZeros : Machine → Type 0
IsZeros machine = machine.mem ≡ replicate (length machine.mem) 0

-- No line was run: the machine is bare, or its memory is all zeros.
abbrev pub IsUnused : Machine → Type 0
IsUnused machine = IsBare machine ⊎ IsZeros machine

-- The line of a refused script was cut short.
pub record IsCutRefusal (script : List ℕ) (taken_old taken_new : Option (List ℕ))
    (machine : Machine) : Type 0 where
  pub line : ℕ
  pub kind : ScriptKind
  pub grammar : commands script ≡ Err (line, kind)
  pub taken : TookFront taken_old taken_new (script_text line kind)
  pub zeros : IsZeros machine

-- The sink failed in what the script gives.
abbrev pub IsCutIn : ℕ → Option FileMap → (script : List ℕ)
    → (taken_old taken_new : Option (List ℕ)) → Machine → Type 0
IsCutIn mib given script taken_old taken_new machine =
    IsCutLine mib given script taken_old taken_new machine
    ⊎ IsCutRefusal script taken_old taken_new machine

pub record IsCutShort (mib : ℕ) (given : Option FileMap)
    (left_old taken_old taken_new : Option (List ℕ)) (machine : Machine) : Type 0 where
  pub script : List ℕ
  pub told : IsScriptOf left_old script
  pub cut : IsCutIn mib given script taken_old taken_new machine

-- the statuses that there are
abbrev pub IsStatus : ℕ → Type 0
IsStatus n =
    (n ≡ 0) ⊎ ((n ≡ 2) ⊎ ((n ≡ 3) ⊎ ((n ≡ 4) ⊎ ((n ≡ 5) ⊎ ((n ≡ 6) ⊎ (n ≡ 7))))))
