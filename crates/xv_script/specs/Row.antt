-- The table of lines: the words that a line begins with, the fields behind them, and its command.
use Rattle.std.specs.Prelude.{ℕ, ◌==◌, if◌then◌else◌, List, [], ◌∷◌, length, Result, Ok, Err}
use Rattle.std.specs.Prelude.{codes}
use Rattle.std.specs.Str.{bytes_eq}
use Rattle.xv_script.specs.declared.command.Command.{Command}
use Rattle.xv_script.specs.declared.command.Command.TheVariants as command
use Rattle.xv_script.specs.declared.fault.ScriptKind.{ScriptKind}
use Rattle.xv_script.specs.declared.fault.ScriptKind.TheVariants.{Word, Count}
use Rattle.xv_script.specs.Command.{most_pages, most_shown, most_turns}
use Rattle.xv_script.specs.Fault.{◌>>=◌}
use Rattle.xv_script.specs.Field.{Field, Guest, Port, File, Number, Range, Hex, Takes, field_of}

-- what makes a command of the values of such fields
abbrev pub Maker : List Field → Type 0
Maker [] = Command
Maker (field ∷ fields) = Takes field (Maker fields)

-- a line: the word that tells it from the others of its table, and what stands behind that word
pub record Row : Type 0 where
  pub word : List ℕ
  pub fields : List Field
  pub make : Maker fields

abbrev pub row : List ℕ → (fields : List Field) → Maker fields → Row
row word fields make = record { word = word; fields = fields; make = make }

-- the lines of `guest`, a second word and a guest's name alone
abbrev pub name_rows : List Row
name_rows =
    row (codes "kick") (Guest ∷ []) command.Kick
    ∷ row (codes "pause") (Guest ∷ []) command.Pause
    ∷ row (codes "resume") (Guest ∷ []) command.Resume
    ∷ row (codes "reset") (Guest ∷ []) command.Reset
    ∷ row (codes "halt") (Guest ∷ []) command.Halt
    ∷ row (codes "destroy") (Guest ∷ []) command.Destroy
    ∷ row (codes "digest") (Guest ∷ []) command.Digest
    ∷ row (codes "audit") (Guest ∷ []) command.Audit
    ∷ []

-- the lines that begin with `guest`, by their second word
abbrev pub guest_rows : List Row
guest_rows =
    row (codes "create") (Guest ∷ File ∷ []) command.Create
    ∷ row (codes "flat") (Guest ∷ Range 1 most_pages ∷ []) command.Flat
    ∷ row (codes "load") (Guest ∷ Number ∷ File ∷ []) command.Load
    ∷ row (codes "poke") (Guest ∷ Number ∷ Hex ∷ []) command.Poke
    ∷ row (codes "regs") (Guest ∷ Number ∷ []) command.Regs
    ∷ row (codes "mem") (Guest ∷ Number ∷ Range 1 most_shown ∷ []) command.Mem
    ∷ row (codes "list") [] command.List
    ∷ name_rows

-- the lines that begin with `vserial`, by their second word
abbrev pub vserial_rows : List Row
vserial_rows =
    row (codes "input") (Port ∷ Hex ∷ []) command.Input
    ∷ row (codes "dump") (Port ∷ []) command.Dump
    ∷ row (codes "list") [] command.Ports
    ∷ []

-- all others, by their first word
abbrev pub other_rows : List Row
other_rows =
    row (codes "clock") (Number ∷ []) command.Clock
    ∷ row (codes "tick") (Number ∷ []) command.Tick
    ∷ row (codes "run") (Range 1 most_turns ∷ []) command.Run
    ∷ []

-- what is made of words, one for each field, from the left
abbrev pub fields_of : (fields : List Field) → Maker fields → List (List ℕ)
    → Result Command ScriptKind
fields_of [] made words = Ok made
fields_of (field ∷ fields) make [] = Err Count
fields_of (field ∷ fields) make (word ∷ words) = do
  rest ← field_of field make word
  fields_of fields rest words

-- the same, where there are as many words as fields
unfoldable pub command_by : (fields : List Field) → Maker fields → List (List ℕ)
    → Result Command ScriptKind
command_by fields make words =
    if length words == length fields then fields_of fields make words else Err Count

-- the command of the row with this word, of the words behind it
abbrev pub command_with : List Row → List ℕ → List (List ℕ) → Result Command ScriptKind
command_with [] word words = Err Word
command_with (row ∷ others) word words =
    if bytes_eq word row.word then command_by row.fields row.make words
    else command_with others word words

-- the same, where the word is the first of the words
abbrev pub command_in : List Row → List (List ℕ) → Result Command ScriptKind
command_in rows [] = Err Word
command_in rows (word ∷ words) = command_with rows word words

-- the command of the words of a line
unfoldable pub command_of : List (List ℕ) → Result Command ScriptKind
command_of [] = Err Word
command_of (first ∷ others) =
    if bytes_eq first (codes "guest") then command_in guest_rows others
    else if bytes_eq first (codes "vserial") then command_in vserial_rows others
    else command_with other_rows first others
