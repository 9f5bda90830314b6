-- The commands of a script, or the first line that is none.
use Rattle.std.specs.Prelude.{ℕ, ◌+◌, if◌then◌else◌, nat_le, Option, Some, None, List, [], ◌∷◌}
use Rattle.std.specs.Prelude.{◌++◌, length, Result, Ok, Err}
use Rattle.std.specs.List.{list_all}
use Rattle.std.specs.Str.Lines.{strip_carriage_return}
use Rattle.xv_script.specs.declared.command.Command.{Command}
use Rattle.xv_script.specs.declared.command.Line.{Line}
use Rattle.xv_script.specs.declared.fault.ScriptKind.{ScriptKind}
use Rattle.xv_script.specs.declared.fault.ScriptKind.TheVariants as kind
use Rattle.xv_script.specs.Fault.{◌>>=◌, made_of, Fault, fault_at}
use Rattle.xv_script.specs.Row.{command_of}
use Rattle.xv_script.specs.Text.{lines, is_allowed, words, is_comment}

-- the command that the words of a line say, if they are no comment
abbrev pub command_if_any : List (List ℕ) → Result (Option Command) ScriptKind
command_if_any words = if is_comment words then Ok None else made_of Some (command_of words)

-- the command of a line, if it isn't a comment; one carriage return at its end is dropped
unfoldable pub line_of : List ℕ → Result (Option Command) ScriptKind
line_of line =
    let kept = strip_carriage_return line in
    if list_all is_allowed kept then command_if_any (words kept) else Err kind.Byte

abbrev pub with_number : ℕ → Option Command → List Line
with_number number None = []
with_number number (Some command) = record { number = number; command = command } ∷ []

-- the commands of lines, of which the first has this number
unfoldable pub commands_from : ℕ → List (List ℕ) → Result (List Line) Fault
commands_from number [] = Ok []
commands_from number (line ∷ others) = do
  here ← fault_at number (line_of line)
  behind ← commands_from (number + 1) others
  Ok (with_number number here ++ behind)

-- the most bytes of a script
abbrev pub most_bytes : ℕ
most_bytes = 1048576

-- the commands of the bytes of a script, or the first fault
unfoldable pub commands : List ℕ → Result (List Line) Fault
commands bytes =
    if nat_le (length bytes) most_bytes then commands_from 1 (lines bytes) else Err (0, kind.Long)
