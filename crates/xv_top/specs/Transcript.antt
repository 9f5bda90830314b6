-- The transcript of a script: the answers to its lines, one after another.
use Rattle.std.specs.Prelude.{ℕ, ◌+◌, Bool, false, ◌||◌, List, [], ◌∷◌, ◌++◌, Result, Ok, Err}
use Rattle.xv_outside.specs.Fetch.{FileMap}
use Rattle.xv_script.specs.declared.command.Line.{Line}
use Rattle.xv_script.specs.Fault.{Fault}
use Rattle.xv_script.specs.Script.{commands}
use Rattle.xv_top.specs.Texts.{script_text}
use Rattle.xv_top.specs.World.{World, first_world}
use Rattle.xv_top.specs.Commands.{answer, is_fetching}

-- the answers to lines from a world on, over these files
unfoldable pub answers : FileMap → World → List Line → List ℕ
answers files w [] = []
answers files w (l ∷ ls) =
    (answer files w l.command).text ++ answers files (answer files w l.command).world ls

-- the world that they leave
unfoldable pub world_after : FileMap → World → List Line → World
world_after files w [] = w
world_after files w (l ∷ ls) = world_after files (answer files w l.command).world ls

-- the lone steps that they make
unfoldable pub work_after : FileMap → World → List Line → ℕ
work_after files w [] = 0
work_after files w (l ∷ ls) =
    (answer files w l.command).work + work_after files (answer files w l.command).world ls

-- whether one of them comes to the fetch of its file
unfoldable pub fetches : FileMap → World → List Line → Bool
fetches files w [] = false
fetches files w (l ∷ ls) =
    is_fetching w l.command || fetches files (answer files w l.command).world ls

-- what is written for the lines of a script, or for the first that is none
unfoldable pub transcript_of : ℕ → FileMap → Result (List Line) Fault → List ℕ
transcript_of mib files (Ok lines) = answers files (first_world mib) lines
transcript_of mib files (Err fault) = script_text fault.0 fault.1

-- what is written for a script over files, where host memory has so many MiB
unfoldable pub transcript : ℕ → FileMap → (script : List ℕ) → List ℕ
transcript mib files script = transcript_of mib files (commands script)
