-- Words of the program's own contracts: answers that may be want of memory, and what was read so
-- far.
use Rattle.std.specs.Prelude.{◌≡◌, ℕ, List, ◌++◌, Option, Result, Ok, Err}
use Rattle.xv_script.specs.declared.command.Command.{Command}
use Rattle.xv_script.specs.declared.command.Line.{Line}
use Rattle.xv_script.specs.declared.fault.LineFault.{LineFault}
use Rattle.xv_script.specs.declared.fault.LineFault.TheVariants as line
use Rattle.xv_script.specs.declared.fault.ScriptFault.{ScriptFault}
use Rattle.xv_script.specs.declared.fault.ScriptFault.TheVariants as script
use Rattle.xv_script.specs.declared.fault.ScriptKind.{ScriptKind}
use Rattle.xv_script.specs.Fault.{◌>>=◌, made_of, Fault, fault_at}
use Rattle.xv_script.specs.Script.{with_number}

-- a fault of the program is the fault of reading, unless it is want of memory
abbrev pub FailsInLine : {A : Type 0} → LineFault → Result A ScriptKind → Type 0
FailsInLine (line.Kind kind) reading = reading ≡ Err kind
FailsInLine line.NoMemory reading = Unit {0}

abbrev pub Fails : {A : Type 0} → ScriptFault → Result A Fault → Type 0
Fails (script.At number kind) reading = reading ≡ Err (number, kind)
Fails script.NoMemory reading = Unit {0}

-- an answer of the program is what reading a line gives
abbrev pub GivesInLine : {A : Type 0} → Result A LineFault → Result A ScriptKind → Type 0
GivesInLine (Ok x) reading = reading ≡ Ok x
GivesInLine (Err fault) reading = FailsInLine fault reading

-- an answer of the program, seen by view, is what reading a script gives
abbrev pub Gives : {X Y : Type 0} → (X → Y) → Result X ScriptFault → Result Y Fault → Type 0
Gives view (Ok x) reading = reading ≡ Ok (view x)
Gives view (Err fault) reading = Fails fault reading

-- the commands found so far, and that of the line of this number
abbrev pub with_line : List Line → ℕ → Result (Option Command) ScriptKind → Result (List Line) Fault
with_line found number read = do
  command ← fault_at number read
  Ok (found ++ with_number number command)

-- the commands found so far, and those that reading gives
abbrev pub with_front : List Line → Result (List Line) Fault → Result (List Line) Fault
with_front found reading = made_of (λ others. found ++ others) reading
