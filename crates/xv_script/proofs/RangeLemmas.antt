-- The numbers of the commands that lines give are in their ranges.
use Rattle.std.proofs.Common.{◌≡◌, ℕ, ◌+◌, ◌≤◌, Bool, true, false, ◌&&◌, List, [], ◌∷◌, arith}
use Rattle.std.proofs.Common.{Option, Some, None, Result, Ok, Err, refl, subst, rules}
use Rattle.std.specs.Prelude.{if◌then◌else◌, ◌==◌, nat_le, length, codes}
use Rattle.std.specs.List.{list_all}
use Rattle.std.specs.Str.Lines.{strip_carriage_return}
use Rattle.std.specs.Str.{bytes_eq}
use Rattle.std.proofs.lemmas.Bool.{leb-true}
use Rattle.std.proofs.lemmas.List.Elements.{All-nil, All-cons, All-append}
use Rattle.xv_script.specs.declared.command.Command.{Command}
use Rattle.xv_script.specs.declared.command.Line.{Line}
use Rattle.xv_script.specs.declared.fault.ScriptKind.{ScriptKind}
use Rattle.xv_script.specs.declared.fault.ScriptKind.TheVariants as kind
use Rattle.xv_script.specs.Command.{IsInRange, AreInRange}
use Rattle.xv_script.specs.Fault.{◌>>=◌, made_of}
use Rattle.xv_script.specs.Field.{Field, Guest, Port, File, Number, Range, Hex}
use Rattle.xv_script.specs.Field.{guest_field, port_field, file_field, number_field, range_field}
use Rattle.xv_script.specs.Field.{hex_field}
use Rattle.xv_script.specs.Row.{Maker, Row, fields_of, command_by, command_with, command_in}
use Rattle.xv_script.specs.Row.{command_of, guest_rows, vserial_rows, other_rows}
use Rattle.xv_script.specs.Script.{line_of, with_number, commands_from, command_if_any}
use Rattle.xv_script.specs.Text.{is_allowed, is_comment, words}
use Rattle.xv_script.proofs.ScriptLemmas.{OfLine, joined}

-- ---- what holds of a choice, and of a number between two

no_value : {A : Type 0} (P : Type 0) (kind : ScriptKind) (x : A) → Err kind ≡ Ok x → P
no_value P kind x is = cc

no_command : (P : Type 0) (command : Command) (read : OfLine) → read ≡ Ok None
    → read ≡ Ok (Some command) → P
no_command P command read none some = cc

of_choice : {A : Type 0} (P : Type 0) (test : Bool) (one other : Result A ScriptKind) (x : A)
    → (one ≡ Ok x → P) → (other ≡ Ok x → P) → (if test then one else other) ≡ Ok x → P
of_choice P true one other x first second is = first is
of_choice P false one other x first second is = second is

-- a number for which a test holds
abbrev ranged : Bool → ℕ → Result ℕ ScriptKind
ranged test value = if test then Ok value else Err kind.Range

both_true : (a b : Bool) (value n : ℕ)
    → ranged (a && b) value ≡ Ok n
    → (a ≡ true) × (b ≡ true) × (value ≡ n)
both_true true true value n is = (refl, refl, cc)
both_true true false value n is = cc
both_true false b value n is = cc

in_range_of : (least most n : ℕ) (read : Result ℕ ScriptKind)
    → (read >>= λ value. ranged (nat_le least value && nat_le value most) value) ≡ Ok n
    → (least ≤ n) × (n ≤ most)
in_range_of least most n (Err kind) is = cc
in_range_of least most n (Ok value) is =
    let tests = both_true (nat_le least value) (nat_le value most) value n is in
    let low = leb-true least value tests.0 in
    let high = leb-true value most tests.1 in
    let same : value ≡ n = tests.2 in
    (omega (arith, low, same), omega (arith, high, same))

range_field-in_range : (least most n : ℕ) (word : List ℕ) → range_field least most word ≡ Ok n
    → (least ≤ n) × (n ≤ most)
unfolding range_field
range_field-in_range least most n word is = in_range_of least most n (number_field word) is

-- ---- the table of lines

-- fields in their ranges make a command in its range
abbrev MakesInRange : (fields : List Field) → Maker fields → Type 0
MakesInRange [] made = IsInRange made
MakesInRange (Guest ∷ fields) make = (name : List ℕ) → MakesInRange fields (make name)
MakesInRange (Port ∷ fields) make =
    (port : List ℕ × List ℕ) → MakesInRange fields (make port.0 port.1)
MakesInRange (File ∷ fields) make = (name : List ℕ) → MakesInRange fields (make name)
MakesInRange (Number ∷ fields) make = (n : ℕ) → MakesInRange fields (make n)
MakesInRange (Range least most ∷ fields) make =
    (n : ℕ) → (least ≤ n) × (n ≤ most) → MakesInRange fields (make n)
MakesInRange (Hex ∷ fields) make = (bytes : List ℕ) → MakesInRange fields (make bytes)

-- one field more, and what the others give
of_field : {A : Type 0} (fields : List Field) (words : List (List ℕ)) (command : Command)
    (make : A → Maker fields) (read : Result A ScriptKind)
    → ((x : A) → read ≡ Ok x → fields_of fields (make x) words ≡ Ok command → IsInRange command)
    → (made_of make read >>= λ rest. fields_of fields rest words) ≡ Ok command
    → IsInRange command
of_field fields words command make (Ok x) step is = step x refl is
of_field fields words command make (Err kind) step is = cc

fields_of-in_range : (fields : List Field) (make : Maker fields) (words : List (List ℕ))
    (command : Command) → MakesInRange fields make → fields_of fields make words ≡ Ok command
    → IsInRange command
fields_of-in_range [] make words command all is =
    let same : make ≡ command = cc in
    subst IsInRange same all
fields_of-in_range (field ∷ fields) make [] command all is = cc
fields_of-in_range (Guest ∷ fields) make (word ∷ words) command all is =
    of_field fields words command make (guest_field word)
    (λ x read. fields_of-in_range fields (make x) words command (all x)) is
fields_of-in_range (Port ∷ fields) make (word ∷ words) command all is =
    of_field fields words command (λ port. make port.0 port.1) (port_field word)
    (λ x read. fields_of-in_range fields (make x.0 x.1) words command (all x)) is
fields_of-in_range (File ∷ fields) make (word ∷ words) command all is =
    of_field fields words command make (file_field word)
    (λ x read. fields_of-in_range fields (make x) words command (all x)) is
fields_of-in_range (Number ∷ fields) make (word ∷ words) command all is =
    of_field fields words command make (number_field word)
    (λ x read. fields_of-in_range fields (make x) words command (all x)) is
fields_of-in_range (Range least most ∷ fields) make (word ∷ words) command all is =
    of_field fields words command make (range_field least most word)
    (λ x read. fields_of-in_range fields (make x) words command
    (all x (range_field-in_range least most x word read))) is
fields_of-in_range (Hex ∷ fields) make (word ∷ words) command all is =
    of_field fields words command make (hex_field word)
    (λ x read. fields_of-in_range fields (make x) words command (all x)) is

-- the same of each line of a table
abbrev MakeInRange : List Row → Type 0
MakeInRange [] = Unit {0}
MakeInRange (row ∷ rows) = MakesInRange row.fields row.make × MakeInRange rows

command_by-in_range : (row : Row) (words : List (List ℕ)) (command : Command)
    → MakesInRange row.fields row.make → command_by row.fields row.make words ≡ Ok command
    → IsInRange command
unfolding command_by
command_by-in_range row words command all is =
    of_choice (IsInRange command) (length words == length row.fields)
    (fields_of row.fields row.make words) (Err kind.Count) command
    (fields_of-in_range row.fields row.make words command all)
    (no_value (IsInRange command) kind.Count command) is

command_with-in_range : (rows : List Row) (word : List ℕ) (words : List (List ℕ))
    (command : Command) → MakeInRange rows → command_with rows word words ≡ Ok command
    → IsInRange command
command_with-in_range [] word words command all is = cc
command_with-in_range (row ∷ rows) word words command all is =
    of_choice (IsInRange command) (bytes_eq word row.word)
    (command_by row.fields row.make words) (command_with rows word words) command
    (command_by-in_range row words command all.0)
    (command_with-in_range rows word words command all.1) is

command_in-in_range : (rows : List Row) (words : List (List ℕ)) (command : Command)
    → MakeInRange rows → command_in rows words ≡ Ok command → IsInRange command
command_in-in_range rows [] command all is = cc
command_in-in_range rows (word ∷ words) command all is =
    command_with-in_range rows word words command all is

command_of-in_range : (words : List (List ℕ)) (command : Command) → command_of words ≡ Ok command
    → IsInRange command
unfolding command_of
command_of-in_range [] command is = cc
command_of-in_range (first ∷ others) command is =
    of_choice (IsInRange command) (bytes_eq first (codes "guest")) (command_in guest_rows others)
    (if bytes_eq first (codes "vserial") then command_in vserial_rows others
    else command_with other_rows first others) command
    (command_in-in_range guest_rows others command (search rules))
    (of_choice (IsInRange command) (bytes_eq first (codes "vserial"))
    (command_in vserial_rows others) (command_with other_rows first others) command
    (command_in-in_range vserial_rows others command (search rules))
    (command_with-in_range other_rows first others command (search rules))) is

-- ---- lines

made_some : (read : Result Command ScriptKind) (command : Command)
    → made_of Some read ≡ Ok (Some command) → read ≡ Ok command
made_some (Ok x) command is = cc
made_some (Err kind) command is = cc

line_of-in_range : (line : List ℕ) (command : Command) → line_of line ≡ Ok (Some command)
    → IsInRange command
unfolding line_of
line_of-in_range line command is =
    let kept = strip_carriage_return line in
    of_choice (IsInRange command) (list_all is_allowed kept) (command_if_any (words kept))
    (Err kind.Byte) (Some command)
    (of_choice (IsInRange command) (is_comment (words kept)) (Ok None)
    (made_of Some (command_of (words kept))) (Some command)
    (no_command (IsInRange command) command (Ok None) refl)
    (λ made. command_of-in_range (words kept) command
    (made_some (command_of (words kept)) command made)))
    (no_value (IsInRange command) kind.Byte (Some command)) is

abbrev IsInRangeHere : Line → Type 0
IsInRangeHere line = IsInRange line.command

with_number-in_range : (number : ℕ) (line : List ℕ) (here : Option Command)
    → line_of line ≡ Ok here → AreInRange (with_number number here)
with_number-in_range number line None is = All-nil IsInRangeHere
with_number-in_range number line (Some command) is =
    All-cons IsInRangeHere (record { number = number; command = command }) []
    (line_of-in_range line command is) (All-nil IsInRangeHere)

pub commands_from-in_range : (number : ℕ) (pieces : List (List ℕ)) (all : List Line)
    → commands_from number pieces ≡ Ok all → AreInRange all
unfolding commands_from
commands_from-in_range number [] all is = let none : [] ≡ all = cc in
    subst AreInRange none (All-nil IsInRangeHere)
commands_from-in_range number (line ∷ pieces) all is =
    let parts = joined number (line_of line) (commands_from (number + 1) pieces) all is in
    let here = with_number-in_range number line parts.0 parts.2 in
    let behind = commands_from-in_range (number + 1) pieces parts.1 parts.3 in
    subst AreInRange parts.4
    (All-append IsInRangeHere (with_number number parts.0) parts.1 here behind)
