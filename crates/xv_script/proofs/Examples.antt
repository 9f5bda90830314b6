-- Worked rows of the grammar, computed by the checker from the definitions.
use Rattle.std.proofs.Common.{◌≡◌, ℕ, List, [], ◌∷◌, ◌++◌, Result, Ok, Err, refl}
use Rattle.std.specs.Prelude.{codes}
use Rattle.xv_base.specs.Name.{is_guest_name, is_dev_name, is_file_name}
use Rattle.xv_base.specs.Number.{numeral_value, number_value}
use Rattle.xv_base.specs.Text.{hex_pairs}
use Rattle.xv_script.specs.declared.command.Command.{Command}
use Rattle.xv_script.specs.declared.command.Command.TheVariants as command
use Rattle.xv_script.specs.declared.command.Line.{Line}
use Rattle.xv_script.specs.declared.fault.ScriptKind.TheVariants.{Byte, Word, Count, Name, Number}
use Rattle.xv_script.specs.declared.fault.ScriptKind.TheVariants.{Range, Hex}
use Rattle.xv_script.specs.Fault.{Fault}
use Rattle.xv_script.specs.Field.{guest_field, file_field, dev_field, port_field, number_field}
use Rattle.xv_script.specs.Field.{range_field, hex_field}
use Rattle.xv_script.specs.Row.{command_by, command_of}
use Rattle.xv_script.specs.Script.{line_of, commands_from, commands}
use Rattle.xv_script.specs.Text.{words}

-- a row: a script, and what it gives
record Row : Type 0 where
  bytes : List ℕ
  gives : Result (List Line) Fault

row : List ℕ → Result (List Line) Fault → Row
row bytes gives = record { bytes = bytes; gives = gives }

line : ℕ → Command → Line
line number command = record { number = number; command = command }

-- lines, each with its end
script : List (List ℕ) → List ℕ
script [] = []
script (first ∷ others) = first ++ 0x0A ∷ script others

table : List (List ℕ)
table =
    (codes "# a script" ++ 0x0D ∷ [])
    ∷ codes "guest create a t.dtb"
    ∷ (0x09 ∷ codes "guest  flat" ++ 0x09 ∷ codes "Z-_9 131072 " ++ 0x0D ∷ [])
    ∷ []
    ∷ codes "guest load a 0x80000000 dir/a.bin"
    ∷ codes "guest poke a 18446744073709551615 00fFa5"
    ∷ codes "guest kick a"
    ∷ codes "guest pause a"
    ∷ codes "guest resume a"
    ∷ codes "guest reset a"
    ∷ codes "guest halt a"
    ∷ codes "guest destroy a"
    ∷ codes "guest regs a 0xFFFFFFFFFFFFFFFF"
    ∷ codes "guest mem a 007 4096"
    ∷ codes "guest digest a"
    ∷ codes "guest audit a"
    ∷ codes "guest list"
    ∷ (0x09 ∷ codes " " ++ 0x09 ∷ [])
    ∷ codes "vserial input a/uart@10000000 48"
    ∷ codes "vserial dump a/uart@10000000"
    ∷ codes "vserial list"
    ∷ codes "clock 50"
    ∷ codes "tick 0x64"
    ∷ (codes "run 100000" ++ 0x0D ∷ [])
    ∷ []

rows : List Row
rows =
    row [] (Ok [])
    ∷ row (codes "guest list") (Ok (line 1 command.List ∷ []))
    -- an empty line, a comment, blanks of both kinds, a carriage return
    ∷ row (script ([] ∷ codes "#~" ∷ (0x09 ∷ codes "guest  kick a " ++ 0x0D ∷ []) ∷ []))
    (Ok (line 3 (command.Kick (codes "a")) ∷ []))
    ∷ row (script (codes "vserial dump a/b@1" ∷ codes "run 0x186a0" ∷ []))
    (Ok (line 1 (command.Dump (codes "a") (codes "b@1")) ∷ line 2 (command.Run 100000) ∷ []))
    ∷ row (codes "guest poke a 16 6fF0")
    (Ok (line 1 (command.Poke (codes "a") 16 (0x6F ∷ 0xF0 ∷ [])) ∷ []))
    -- each line of the table once, between comments, blanks and ends of both kinds
    ∷ row (script table)
    (Ok (line 2 (command.Create (codes "a") (codes "t.dtb"))
    ∷ line 3 (command.Flat (codes "Z-_9") 131072)
    ∷ line 5 (command.Load (codes "a") 0x80000000 (codes "dir/a.bin"))
    ∷ line 6 (command.Poke (codes "a") 18446744073709551615 (0x00 ∷ 0xFF ∷ 0xA5 ∷ []))
    ∷ line 7 (command.Kick (codes "a"))
    ∷ line 8 (command.Pause (codes "a"))
    ∷ line 9 (command.Resume (codes "a"))
    ∷ line 10 (command.Reset (codes "a"))
    ∷ line 11 (command.Halt (codes "a"))
    ∷ line 12 (command.Destroy (codes "a"))
    ∷ line 13 (command.Regs (codes "a") 18446744073709551615)
    ∷ line 14 (command.Mem (codes "a") 7 4096)
    ∷ line 15 (command.Digest (codes "a"))
    ∷ line 16 (command.Audit (codes "a"))
    ∷ line 17 command.List
    ∷ line 19 (command.Input (codes "a") (codes "uart@10000000") (codes "H"))
    ∷ line 20 (command.Dump (codes "a") (codes "uart@10000000"))
    ∷ line 21 command.Ports
    ∷ line 22 (command.Clock 50)
    ∷ line 23 (command.Tick 100)
    ∷ line 24 (command.Run 100000)
    ∷ []))
    -- the least and the greatest numbers that the table above doesn't have
    ∷ row (script (codes "guest flat a 1" ∷ codes "guest mem a 0 1" ∷ codes "run 1"
    ∷ codes "clock 18446744073709551615" ∷ []))
    (Ok (line 1 (command.Flat (codes "a") 1) ∷ line 2 (command.Mem (codes "a") 0 1)
    ∷ line 3 (command.Run 1) ∷ line 4 (command.Clock 18446744073709551615) ∷ []))
    -- each kind, and which of two is first
    ∷ row (script (codes "tick 1" ∷ (codes "# " ++ 0x7F ∷ []) ∷ [])) (Err (2, Byte))
    ∷ row (codes "run 1" ++ 0x0D ∷ 0x0D ∷ []) (Err (1, Byte))
    ∷ row (codes "guest fly a") (Err (1, Word))
    ∷ row (codes "guest") (Err (1, Word))
    ∷ row (codes "guest kick") (Err (1, Count))
    ∷ row (codes "guest poke 9 x") (Err (1, Count))
    ∷ row (codes "guest kick 9a") (Err (1, Name))
    ∷ row (codes "guest flat 9a x") (Err (1, Name))
    ∷ row (codes "vserial dump a/b/c") (Err (1, Name))
    ∷ row (codes "run x") (Err (1, Number))
    ∷ row (codes "run 18446744073709551616") (Err (1, Number))
    ∷ row (codes "guest mem a 0 0") (Err (1, Range))
    ∷ row (codes "guest flat a 131073") (Err (1, Range))
    ∷ row (codes "guest poke a 0 abc") (Err (1, Hex))
    ∷ []

computed : List Row → List (Result (List Line) Fault)
computed [] = []
computed (r ∷ rs) = commands r.bytes ∷ computed rs

wanted : List Row → List (Result (List Line) Fault)
wanted [] = []
wanted (r ∷ rs) = r.gives ∷ wanted rs

examples : computed rows ≡ wanted rows
unfolding computed wanted rows row line script table commands commands_from line_of words command_of
    command_by
    guest_field file_field dev_field port_field number_field range_field hex_field
    is_guest_name is_dev_name is_file_name number_value numeral_value hex_pairs
examples = refl
