-- Lines and commands of a script as values, and the ranges of their numbers.
use Rattle.std.specs.Prelude.{ℕ, ◌≤◌, List}
use Rattle.std.specs.List.{All}
use Rattle.xv_script.specs.declared.command.Command.{Command}
use Rattle.xv_script.specs.declared.command.Command.TheVariants.{Flat, Mem, Run}
use Rattle.xv_script.specs.declared.command.Line.{Line}

-- the most pages of a guest, the most bytes of memory that are shown at once, and the most turns of
-- one `run`
abbrev pub most_pages : ℕ
most_pages = 131072

abbrev pub most_shown : ℕ
most_shown = 4096

abbrev pub most_turns : ℕ
most_turns = 100000

-- the numbers of a command keep the ranges of the grammar
abbrev pub IsInRange : Command → Type 0
IsInRange (Flat name pages) = (1 ≤ pages) × (pages ≤ most_pages)
IsInRange (Mem name gpa len) = (1 ≤ len) × (len ≤ most_shown)
IsInRange (Run turns) = (1 ≤ turns) × (turns ≤ most_turns)
IsInRange _ = Unit {0}

abbrev pub AreInRange : List Line → Type 0
AreInRange all = All (λ line. IsInRange line.command) all
