-- Lines one after another: what is found so far, and then what the lines that are left give, is the
-- whole.
use Rattle.std.proofs.Common.{◌≡◌, ℕ, ◌+◌, ◌==◌, ◌^◌, ◌<◌, ◌≤◌, Bool, true, false, cond, List, []}
use Rattle.std.proofs.Common.{◌∷◌, ◌++◌, length, get_or, drop, Option, Some, None, Result, Ok, Err}
use Rattle.std.proofs.Common.{refl, sym, ap, ◌∙◌, arith, append_assoc, length-append}
use Rattle.std.specs.List.{onto_first}
use Rattle.std.proofs.lemmas.List.{at_drop_more, at_drop_all, append-nil}
use Rattle.xv_script.specs.declared.command.Command.{Command}
use Rattle.xv_script.specs.declared.command.Line.{Line}
use Rattle.xv_script.specs.declared.fault.ScriptFault.{ScriptFault}
use Rattle.xv_script.specs.declared.fault.ScriptFault.TheVariants.{At, NoMemory}
use Rattle.xv_script.specs.declared.fault.ScriptKind.{ScriptKind}
use Rattle.xv_script.specs.Fault.{◌>>=◌, Fault, fault_at}
use Rattle.xv_script.specs.Progress.{Fails, with_line, with_front}
use Rattle.xv_script.specs.Script.{line_of, with_number, commands_from}
use Rattle.xv_script.specs.Text.{lines, words}

-- what a line gives, and what lines give
abbrev pub OfLine : Type 0
OfLine = Result (Option Command) ScriptKind

abbrev OfLines : Type 0
OfLines = Result (List Line) Fault

-- ---- one more line

-- what a line and the lines behind it give
abbrev both_of : ℕ → OfLine → OfLines → OfLines
both_of number read others = do
  here ← fault_at number read
  behind ← others
  Ok (with_number number here ++ behind)

added : (found more : List Line) (number : ℕ) (read : OfLine) (others : OfLines)
    → with_line found number read ≡ Ok more
    → with_front found (both_of number read others) ≡ with_front more others
added found more number (Ok command) (Ok behind) is =
    let grown : found ++ with_number number command ≡ more = cc in
    let same = sym (append_assoc found (with_number number command) behind) in
    ap Ok (same ∙ ap (λ front. front ++ behind) grown)
added found more number (Ok command) (Err fault) is = refl
added found more number (Err kind) others is = cc

refused : (found : List Line) (number : ℕ) (read : OfLine) (others : OfLines) (fault : Fault)
    → with_line found number read ≡ Err fault
    → with_front found (both_of number read others) ≡ Err fault
refused found number (Ok command) others fault is = cc
refused found number (Err kind) others fault is = is

fails : (e : ScriptFault) (found : List Line) (number : ℕ) (read : OfLine) (others : OfLines)
    → Fails e (with_line found number read)
    → Fails e (with_front found (both_of number read others))
fails (At line kind) found number read others is = refused found number read others (line, kind) is
fails NoMemory found number read others is = tt

-- what the lines from a place on give
abbrev from_place : List (List ℕ) → ℕ → OfLines
from_place all at = commands_from (at + 1) (drop at all)

-- they are the line there and those behind it
from_place-line : (all : List (List ℕ)) (at : ℕ) (line : List ℕ)
    → (at < length all) × (line ≡ get_or all at line)
    → from_place all at ≡ both_of (at + 1) (line_of line) (from_place all (at + 1))
unfolding commands_from
from_place-line all at line turn =
    at_drop_more (commands_from (at + 1)) all at line turn.0
    ∙ ap (λ here. both_of (at + 1) (line_of here) (from_place all (at + 1))) (sym turn.1)

-- ---- a turn of the loop, at the place that is the count of the lines before

pub next_line : (all : List (List ℕ)) (count at : ℕ) (line : List ℕ) (found more : List Line)
    (whole : OfLines)
    → at ≡ count → (count < length all) × (line ≡ get_or all count line)
    → with_line found (at + 1) (line_of line) ≡ Ok more
    → with_front found (from_place all at) ≡ whole
    → with_front more (from_place all (at + 1)) ≡ whole
next_line all count at line found more whole same turn is before =
    let here : (at < length all) × (line ≡ get_or all at line) = rw same turn in
    sym (added found more (at + 1) (line_of line) (from_place all (at + 1)) is)
    ∙ ap (with_front found) (sym (from_place-line all at line here)) ∙ before

pub fails_at : (e : ScriptFault) (all : List (List ℕ)) (count at : ℕ) (line : List ℕ)
    (found : List Line) (whole : OfLines)
    → at ≡ count → (count < length all) × (line ≡ get_or all count line)
    → Fails e (with_line found (at + 1) (line_of line))
    → with_front found (from_place all at) ≡ whole
    → Fails e whole
fails_at e all count at line found whole same turn is before =
    let here : (at < length all) × (line ≡ get_or all at line) = rw same turn in
    rw (sym (ap (with_front found) (sym (from_place-line all at line here)) ∙ before))
    (fails e found (at + 1) (line_of line) (from_place all (at + 1)) is)

pub last_line : (all : List (List ℕ)) (count at : ℕ) (found : List Line) (whole : OfLines)
    → at ≡ count → count ≡ length all → with_front found (from_place all at) ≡ whole
    → whole ≡ Ok found
unfolding commands_from
last_line all count at found whole same end before =
    sym before
    ∙ at_drop_all (λ rest. with_front found (commands_from (at + 1) rest)) all at (omega arith)
    ∙ ap Ok (append-nil found)

-- ---- how many commands there are

-- a line without a byte has no command
line_of-empty : line_of [] ≡ Ok None
unfolding line_of words
line_of-empty = refl

-- how many pieces have a byte
abbrev with_bytes : List (List ℕ) → ℕ
with_bytes [] = 0
with_bytes ([] ∷ pieces) = with_bytes pieces
with_bytes ((byte ∷ piece) ∷ pieces) = with_bytes pieces + 1

pub joined : (number : ℕ) (read : OfLine) (others : OfLines) (all : List Line)
    → both_of number read others ≡ Ok all
    → (here : Option Command) × (behind : List Line)
    × (read ≡ Ok here) × (others ≡ Ok behind) × (with_number number here ++ behind ≡ all)
joined number (Ok here) (Ok behind) all is = (here, behind, refl, refl, cc)
joined number (Ok here) (Err fault) all is = cc
joined number (Err kind) others all is = cc

length-with_number : (number : ℕ) (here : Option Command) → length (with_number number here) ≤ 1
length-with_number number None = omega arith
length-with_number number (Some command) = omega arith

length-commands_from : (number : ℕ) (pieces : List (List ℕ)) (all : List Line)
    → commands_from number pieces ≡ Ok all → length all ≤ with_bytes pieces
unfolding commands_from
length-commands_from number [] all is = let none : all ≡ [] = cc in rw none (omega arith)
length-commands_from number ([] ∷ pieces) all is =
    let parts = joined number (line_of []) (commands_from (number + 1) pieces) all is in
    let here : parts.0 ≡ None = cc (line_of-empty) in
    let same : parts.1 ≡ all = rw here at parts.4 in
    rw (sym same) (length-commands_from (number + 1) pieces parts.1 parts.3)
length-commands_from number ((byte ∷ line) ∷ pieces) all is =
    let parts = joined number (line_of (byte ∷ line)) (commands_from (number + 1) pieces) all is in
    let rest = length-commands_from (number + 1) pieces parts.1 parts.3 in
    let one = length-with_number number parts.0 in
    let sum = length-append (with_number number parts.0) parts.1 in
    let same = ap length parts.4 in
    omega (arith, rest, one, sum, same)

-- a byte adds at most one piece that isn't empty
with_bytes-onto_first : (byte : ℕ) (pieces : List (List ℕ))
    → with_bytes (onto_first byte pieces) ≤ with_bytes pieces + 1
with_bytes-onto_first byte [] = omega arith
with_bytes-onto_first byte ([] ∷ pieces) = omega arith
with_bytes-onto_first byte ((first ∷ piece) ∷ pieces) = omega arith

with_bytes-more : (byte most : ℕ) (test : Bool) (pieces : List (List ℕ)) → with_bytes pieces ≤ most
    → with_bytes (cond test ([] ∷ pieces) (onto_first byte pieces)) ≤ most + 1
with_bytes-more byte most true pieces few = omega arith
with_bytes-more byte most false pieces few = omega (arith, with_bytes-onto_first byte pieces)

with_bytes-lines : (text : List ℕ) → with_bytes (lines text) ≤ length text
with_bytes-lines [] = omega arith
with_bytes-lines (byte ∷ text) =
    let few = with_bytes-lines text in
    let more = with_bytes-more byte (length text) (byte == 0x0A) (lines text) few in
    omega (arith, more)

pub few_lines : (text : List ℕ) (all : List Line) → length text ≤ 1048576
    → commands_from 1 (lines text) ≡ Ok all → length all ≤ 2 ^ 20
few_lines text all short is =
    omega (arith, length-commands_from 1 (lines text) all is, with_bytes-lines text)
