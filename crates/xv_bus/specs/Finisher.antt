-- The finisher: a device of one register, after SiFive's test finisher (device tree
-- `sifive,test0`), by which a guest halts or starts again.
use Rattle.std.specs.Prelude.{ℕ, ◌/◌, ◌%◌, ◌^◌, ◌==◌, if◌then◌else◌}
use Rattle.xv_bus.specs.declared.access.Access.{Access}
use Rattle.xv_bus.specs.declared.access.Access.TheVariants.{Load, Store}
use Rattle.xv_bus.specs.declared.access.Ending.TheVariants.{Pass, Fail}
use Rattle.xv_bus.specs.declared.access.Outcome.{Outcome}
use Rattle.xv_bus.specs.declared.access.Outcome.TheVariants.{Value, Done, Refused, Halt, Reboot}
use Rattle.xv_bus.specs.declared.access.Width.TheVariants.{W4}

-- what a word does, by its low half; its high half is the code of a failure
unfoldable pub ended : ℕ → Outcome
ended word =
    if word % 2 ^ 16 == 0x5555 then Halt Pass
    else if word % 2 ^ 16 == 0x3333 then Halt (Fail (word / 2 ^ 16))
    else if word % 2 ^ 16 == 0x7777 then Reboot
    else Done

-- aligned accesses of four bytes alone; the register is at offset 0
unfoldable pub finisher_outcome : ℕ → Access → Outcome
finisher_outcome at (Load W4) = if at % 4 == 0 then Value 0 else Refused
finisher_outcome at (Store W4 word) =
    if at % 4 == 0 then (if at == 0 then ended word else Done) else Refused
finisher_outcome at (Load width) = Refused
finisher_outcome at (Store width word) = Refused
