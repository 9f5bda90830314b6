-- What stands at the end of a run of lines, from a world on.
use Rattle.std.specs.Prelude.{◌≡◌, ℕ, ◌≤◌, Bool, List, [], ◌∷◌, ◌++◌, Option, IsTrue}
use Rattle.xv_outside.specs.Fetch.{FileMap}
use Rattle.xv_outside.specs.Outside.{taken_with, TookFront}
use Rattle.xv_script.specs.declared.command.Command.{Command}
use Rattle.xv_script.specs.declared.command.Line.{Line}
use Rattle.xv_top.specs.Commands.{answer}
use Rattle.xv_top.specs.Files.{StandsFor}
use Rattle.xv_top.specs.Transcript.{answers, fetches, world_after, work_after}
use Rattle.xv_top.specs.World.{World}

-- the lines were run: the answers to them were taken and nothing else, this is the world that they
-- leave, and the hart took at least their lone steps
pub record HaveRun (files : FileMap) (lines : List Line) (first now : World)
    (taken_old taken_new : Option (List ℕ)) (stepped : ℕ) : Type 0 where
  pub taken : taken_new ≡ taken_with taken_old (answers files first lines)
  pub world : now ≡ world_after files first lines
  pub work : work_after files first lines ≤ stepped

-- lines were run, and the one behind them is one that may stop so
pub record RanToStop (may_stop : World → Command → Bool) (files : FileMap) (before : List Line)
    (line : Line) (first now : World) (taken_old taken_new : Option (List ℕ)) (stepped : ℕ)
    : Type 0 where
  pub may : IsTrue (may_stop (world_after files first before) line.command)
  pub run : HaveRun files before first now taken_old taken_new stepped

-- a line stopped that may stop so, and those before it were run
pub record IsStop (may_stop : World → Command → Bool) (given : Option FileMap) (lines : List Line)
    (first now : World) (taken_old taken_new : Option (List ℕ)) (stepped : ℕ) : Type 0 where
  pub before : List Line
  pub line : Line
  pub after : List Line
  pub whole : lines ≡ before ++ line ∷ after
  pub ran : (files : FileMap) → StandsFor given files (fetches files first before)
      → RanToStop may_stop files before line first now taken_old taken_new stepped

-- lines were run and the one behind them too, and of its answer a front was taken
pub record RanToCut (files : FileMap) (before : List Line) (line : Line) (first now : World)
    (taken_old taken_new : Option (List ℕ)) (stepped : ℕ) : Type 0 where
  pub taken : TookFront (taken_with taken_old (answers files first before)) taken_new
      (answer files (world_after files first before) line.command).text
  pub world : now ≡ world_after files first (before ++ line ∷ [])
  pub work : work_after files first (before ++ line ∷ []) ≤ stepped

-- the answer to a line was cut short
pub record IsCut (given : Option FileMap) (lines : List Line) (first now : World)
    (taken_old taken_new : Option (List ℕ)) (stepped : ℕ) : Type 0 where
  pub before : List Line
  pub line : Line
  pub after : List Line
  pub whole : lines ≡ before ++ line ∷ after
  pub ran : (files : FileMap) → StandsFor given files (fetches files first (before ++ line ∷ []))
      → RanToCut files before line first now taken_old taken_new stepped
