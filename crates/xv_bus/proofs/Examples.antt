-- Worked rows of the automata, computed by the checker.
use Rattle.std.specs.Prelude.{nat_le, ◌&&◌, ◌-◌, if◌then◌else◌}
use Rattle.std.proofs.Common.{◌≡◌, ℕ, zero, suc, ◌+◌, Bool, true, false, List, [], ◌∷◌, ◌++◌}
use Rattle.std.proofs.Common.{replicate, Option, Some, None, refl}
use Rattle.xv_base.specs.Serial.{empty_serial, sent}
use Rattle.xv_bus.specs.declared.access.Access.{Access}
use Rattle.xv_bus.specs.declared.access.Access.TheVariants.{Load, Store}
use Rattle.xv_bus.specs.declared.access.Ending.TheVariants.{Pass, Fail}
use Rattle.xv_bus.specs.declared.access.Outcome.{Outcome}
use Rattle.xv_bus.specs.declared.access.Outcome.TheVariants.{Value, Done, Refused, Halt, Reboot}
use Rattle.xv_bus.specs.declared.access.Width.TheVariants.{W1, W2, W4, W8}
use Rattle.xv_bus.specs.Below.{some_below, least_below, greatest_below}
use Rattle.xv_bus.specs.Memory.{Flat, Place, bytes_at, stored}
use Rattle.xv_bus.specs.Uart.{UartPort, new_port, uart_accessed, uart_input, register_at}
use Rattle.xv_bus.specs.Uart.{register_of, moved, cause, shown, after_read, transmitted, written}
use Rattle.xv_bus.specs.Plic.{PlicUnit, new_plic, plic_accessed, plic_register, plic_shown}
use Rattle.xv_bus.specs.Plic.{plic_after_read, plic_written, lifted, context_line, claim}
use Rattle.xv_bus.specs.Finisher.{finisher_outcome, ended}

-- ---- the UART: registers that are read with their values, registers that are written, input that
-- comes

data Deed : Type 0 where
  Read : (register value : ℕ) → Deed
  Write : (register value : ℕ) → Deed
  Come : (bytes : List ℕ) → Deed

value_of : Outcome → ℕ
value_of (Value value) = value
value_of _ = 0x1_0000

-- what the reads give
reads : UartPort → List Deed → List ℕ
reads port [] = []
reads port (Read register value ∷ deeds) =
    let given = uart_accessed port register (Load W1) in
    value_of given.outcome ∷ reads given.device deeds
reads port (Write register value ∷ deeds) =
    reads (uart_accessed port register (Store W1 value)).device deeds
reads port (Come bytes ∷ deeds) = reads (uart_input bytes port) deeds

wanted : List Deed → List ℕ
wanted [] = []
wanted (Read register value ∷ deeds) = value ∷ wanted deeds
wanted (Write register value ∷ deeds) = wanted deeds
wanted (Come bytes ∷ deeds) = wanted deeds

fresh : UartPort
fresh = new_port 0 empty_serial

-- so many numbers from `first` on
bytes_from : ℕ → ℕ → List ℕ
bytes_from zero first = []
bytes_from (suc count) first = first ∷ bytes_from count (first + 1)

-- so many reads of register 0, which give the bytes from `first` on
received_bytes : ℕ → ℕ → List Deed
received_bytes zero first = []
received_bytes (suc count) first = Read 0 first ∷ received_bytes count (first + 1)

interrupts : List Deed
interrupts =
    Read 5 0x60 ∷ Read 2 0x01 ∷ Write 2 0xC1 ∷ Read 2 0xC1
    ∷ Write 1 0x01 ∷ Come (bytes_from 20 0) ∷ Read 2 0xC4 ∷ []
    ++ received_bytes 7 0
    ++ (Read 2 0xCC ∷ Write 1 0x03 ∷ Read 2 0xCC ∷ [])
    ++ received_bytes 13 7
    ++ (Read 2 0xC2 ∷ Read 2 0xC1
    ∷ Write 3 0x80 ∷ Write 0 0x0D ∷ Read 0 0x0D ∷ Write 3 0x03 ∷ Read 0 0
    ∷ Write 4 0x12 ∷ Read 6 0x1A ∷ Read 6 0x10 ∷ [])
    ++ replicate 17 (Write 0 0x55)
    ++ (Read 5 0x63 ∷ Read 5 0x61 ∷ [])

interrupt_row : reads fresh interrupts ≡ wanted interrupts
unfolding reads wanted fresh received_bytes interrupts value_of bytes_from new_port uart_accessed
    uart_input register_at register_of moved cause shown after_read transmitted written sent
interrupt_row = refl

-- with FIFOs off a byte is held, and one that comes over it, by loop back, replaces it
without_fifos : List Deed
without_fifos =
    Come (0x41 ∷ 0x42 ∷ []) ∷ Write 1 0x05 ∷ Read 2 0x04 ∷ Read 5 0x61
    ∷ Write 4 0x10 ∷ Write 0 0x55 ∷ Read 2 0x06 ∷ Read 5 0x63 ∷ Read 2 0x04
    ∷ Read 0 0x55 ∷ Read 5 0x60
    ∷ Write 4 0x00 ∷ Read 0 0x42 ∷ Read 0 0x00 ∷ []

without_fifos_row : reads fresh without_fifos ≡ wanted without_fifos
unfolding reads wanted fresh without_fifos value_of new_port uart_accessed uart_input register_at
    register_of moved cause shown after_read transmitted written sent
without_fifos_row = refl

-- trigger levels 1, 4, 8 and 14; what empties the FIFO; that FIFO control with bit 0 clear keeps
-- the level
triggers : List Deed
triggers =
    Write 1 0x01 ∷ Write 2 0x41 ∷ Come (bytes_from 3 1) ∷ Read 2 0xCC ∷ Come (4 ∷ []) ∷ Read 2 0xC4
    ∷ Write 2 0x81 ∷ Read 2 0xCC ∷ Come (bytes_from 4 5) ∷ Read 2 0xC4
    ∷ Write 2 0xC1 ∷ Read 2 0xCC ∷ Come (bytes_from 6 9) ∷ Read 2 0xC4 ∷ Write 2 0x01 ∷ Read 2 0xC4
    ∷ Write 2 0x85 ∷ Read 2 0xC4 ∷ Write 2 0x83 ∷ Read 5 0x60
    ∷ Come (bytes_from 7 1) ∷ Read 2 0xCC ∷ Write 2 0x40 ∷ Read 5 0x60
    ∷ Write 2 0x03 ∷ Read 5 0x60 ∷ []

triggers_row : reads fresh triggers ≡ wanted triggers
unfolding reads wanted fresh triggers bytes_from value_of new_port uart_accessed uart_input
    register_at register_of moved cause shown after_read transmitted written sent
triggers_row = refl

-- the empty transmitter: due where it is enabled anew, read once, due after each byte that is sent
transmitter : List Deed
transmitter =
    Write 0 0x48 ∷ Read 2 0x01 ∷ Write 1 0x02 ∷ Read 2 0x02 ∷ Read 2 0x01
    ∷ Write 1 0x02 ∷ Read 2 0x01
    ∷ Write 1 0x00 ∷ Write 1 0xFF ∷ Read 1 0x0F ∷ Read 2 0x02 ∷ Read 2 0x01
    ∷ Write 0 0x49 ∷ Read 2 0x02
    ∷ Write 3 0x80 ∷ Write 1 0xA5 ∷ Read 1 0xA5 ∷ Write 3 0x00 ∷ Read 1 0x0F ∷ Read 2 0x01 ∷ []

transmitter_row : reads fresh transmitter ≡ wanted transmitter
unfolding reads wanted fresh transmitter value_of new_port uart_accessed uart_input register_at
    register_of moved cause shown after_read transmitted written sent
transmitter_row = refl

-- the modem's inputs: RTS, DTR, OUT1 and OUT2 by loop back, and what changed since the last read
modem_lines : List Deed
modem_lines =
    Read 6 0xB0 ∷ Write 4 0x10 ∷ Read 6 0x0B ∷ Write 4 0x1F ∷ Read 6 0xFB
    ∷ Write 4 0x1B ∷ Read 6 0xB4
    ∷ Write 4 0x1F ∷ Read 6 0xF0 ∷ Write 4 0x0F ∷ Read 6 0xB4 ∷ Write 1 0x08 ∷ Read 2 0x01
    ∷ Write 4 0xF0 ∷ Read 4 0x10 ∷ Read 2 0x00 ∷ Read 6 0x0B ∷ Read 2 0x01 ∷ Write 7 0x5A
    ∷ Read 7 0x5A ∷ []

modem_lines_row : reads fresh modem_lines ≡ wanted modem_lines
unfolding reads wanted fresh modem_lines value_of new_port uart_accessed uart_input register_at
    register_of moved cause shown after_read transmitted written sent
modem_lines_row = refl

-- offsets with registers 4 bytes apart; where no register is, a read gives 0 and a write does
-- nothing
spaced : List Deed
spaced = Write 0x1C 0x77 ∷ Read 0x1C 0x77 ∷ Write 7 0x11 ∷ Write 0x1D 0x22 ∷ Write 0x20 0x33
    ∷ Read 0x1C 0x77 ∷ Read 7 0 ∷ Read 0x1E 0 ∷ Read 0x20 0 ∷ []

spaced_row : reads (new_port 2 empty_serial) spaced ≡ wanted spaced
unfolding reads wanted spaced value_of new_port uart_accessed register_at register_of moved cause
    shown after_read transmitted written
spaced_row = refl

-- ---- the interrupt controller

data PlicDeed : Type 0 where
  Reads : (at value : ℕ) → PlicDeed
  Writes : (at value : ℕ) → PlicDeed
  Lifts : (lines : ℕ) → PlicDeed
  IsUp : (context : ℕ) → PlicDeed
  IsDown : (context : ℕ) → PlicDeed

number_of : Bool → ℕ
number_of true = 1
number_of false = 0

-- what reads and lines give
seen : PlicUnit → List PlicDeed → List ℕ
seen plic [] = []
seen plic (Reads at value ∷ deeds) =
    let given = plic_accessed plic at (Load W4) in value_of given.outcome ∷ seen given.device deeds
seen plic (Writes at value ∷ deeds) = seen (plic_accessed plic at (Store W4 value)).device deeds
seen plic (Lifts lines ∷ deeds) = seen (lifted lines plic) deeds
seen plic (IsUp context ∷ deeds) = number_of (context_line plic context) ∷ seen plic deeds
seen plic (IsDown context ∷ deeds) = number_of (context_line plic context) ∷ seen plic deeds

expected : List PlicDeed → List ℕ
expected [] = []
expected (Reads at value ∷ deeds) = value ∷ expected deeds
expected (Writes at value ∷ deeds) = expected deeds
expected (Lifts lines ∷ deeds) = expected deeds
expected (IsUp context ∷ deeds) = 1 ∷ expected deeds
expected (IsDown context ∷ deeds) = 0 ∷ expected deeds

claims : List PlicDeed
claims =
    Writes 0x28 11 ∷ Reads 0x28 3 ∷ Writes 0x2C 3 ∷ Writes 0x2000 0xC00
    ∷ Writes 0x20_0000 3 ∷ Lifts 0xC00
    ∷ Reads 0x1000 0xC00 ∷ IsDown 0 ∷ Reads 0x20_0004 10 ∷ Reads 0x20_0004 11 ∷ Reads 0x20_0004 0
    ∷ Writes 0x20_0000 0 ∷ Writes 0x20_0004 10 ∷ Lifts 0xC00 ∷ Reads 0x1000 0x400 ∷ IsUp 0
    ∷ Writes 0x20_0004 12 ∷ Reads 0x1000 0x400 ∷ IsUp 0 ∷ Writes 0x20_0004 75 ∷ Lifts 0xC00
    ∷ Reads 0x1000 0x400
    ∷ Lifts 0 ∷ Reads 0x1000 0x400 ∷ []

claim_row : seen (new_plic 1) claims ≡ expected claims
unfolding seen expected claims value_of number_of new_plic plic_accessed plic_register plic_shown
    plic_after_read plic_written lifted context_line claim some_below least_below greatest_below
claim_row = refl

-- the greatest priority first; a source of priority 0 never; high halves; a context of its own; one
-- that isn't there
contexts : List PlicDeed
contexts =
    Writes 0x14 1 ∷ Writes 0xFC 7 ∷ Writes 0x2084 0x8000_0001 ∷ Writes 0x2080 0x0000_0061
    ∷ Reads 0x2084 0x8000_0001 ∷ Reads 0x2080 0x60 ∷ Lifts 0x8000_0001_0000_0060
    ∷ Reads 0x1004 0x8000_0001
    ∷ IsDown 0 ∷ IsUp 1 ∷ Writes 0x20_1000 7 ∷ IsDown 1 ∷ Writes 0x20_1000 6 ∷ IsUp 1
    ∷ Reads 0x20_1004 63 ∷ Reads 0x20_1004 5 ∷ Reads 0x20_1004 0 ∷ Writes 0x20_0004 63
    ∷ Lifts 0x8000_0000_0000_0000 ∷ Reads 0x1004 0x0000_0001 ∷ Writes 0x20_1004 63
    ∷ Lifts 0x8000_0000_0000_0000 ∷ Reads 0x1004 0x8000_0001
    ∷ Writes 0x2100 0xFE ∷ Reads 0x2100 0 ∷ Writes 0x20_2000 7 ∷ Reads 0x20_2000 0
    ∷ Reads 0x20_2004 0
    ∷ Writes 0x0 7 ∷ Reads 0x0 0 ∷ Writes 0x1000 0xFF ∷ Reads 0x1000 0x40 ∷ Writes 0x100 7
    ∷ Reads 0x100 0 ∷ []

contexts_row : seen (new_plic 2) contexts ≡ expected contexts
unfolding seen expected contexts value_of number_of new_plic plic_accessed plic_register plic_shown
    plic_after_read plic_written lifted context_line claim some_below least_below greatest_below
contexts_row = refl

-- ---- widths, and offsets that aren't aligned

uart_outcomes : List (ℕ × Access) → List Outcome
uart_outcomes [] = []
uart_outcomes (row ∷ rows) = (uart_accessed fresh row.0 row.1).outcome ∷ uart_outcomes rows

plic_outcomes : List (ℕ × Access) → List Outcome
plic_outcomes [] = []
plic_outcomes (row ∷ rows) = (plic_accessed (new_plic 1) row.0 row.1).outcome ∷ plic_outcomes rows

finisher_outcomes : List (ℕ × Access) → List Outcome
finisher_outcomes [] = []
finisher_outcomes (row ∷ rows) = finisher_outcome row.0 row.1 ∷ finisher_outcomes rows

accesses : List (ℕ × Access)
accesses =
    (4, Load W1) ∷ (4, Load W2) ∷ (4, Load W4) ∷ (4, Load W8) ∷ (5, Load W1) ∷ (6, Load W4)
    ∷ (4, Store W1 1) ∷ (4, Store W2 1) ∷ (4, Store W4 1) ∷ (4, Store W8 1) ∷ (5, Store W1 1)
    ∷ (6, Store W4 1) ∷ []

uart_widths : uart_outcomes accesses ≡
    (Value 0 ∷ Refused ∷ Refused ∷ Refused ∷ Value 0x60 ∷ Refused ∷ Done ∷ Refused ∷ Refused
    ∷ Refused ∷ Done ∷ Refused ∷ [])
unfolding uart_outcomes accesses fresh new_port uart_accessed register_at register_of moved cause
    shown after_read written
uart_widths = refl

plic_widths : plic_outcomes accesses ≡
    (Refused ∷ Refused ∷ Value 0 ∷ Refused ∷ Refused ∷ Refused ∷ Refused ∷ Refused ∷ Done ∷ Refused
    ∷ Refused ∷ Refused ∷ [])
unfolding plic_outcomes accesses new_plic plic_accessed plic_register plic_shown
    plic_after_read plic_written
plic_widths = refl

finisher_widths : finisher_outcomes accesses ≡
    (Refused ∷ Refused ∷ Value 0 ∷ Refused ∷ Refused ∷ Refused ∷ Refused ∷ Refused ∷ Done ∷ Refused
    ∷ Refused ∷ Refused ∷ [])
unfolding finisher_outcomes accesses finisher_outcome
finisher_widths = refl

-- ---- the finisher

words : List (ℕ × Access)
words =
    (0, Load W4) ∷ (0, Store W4 0x5555) ∷ (0, Store W4 0x0007_3333) ∷ (0, Store W4 0xFFFF_7777)
    ∷ (0, Store W4 0x0001_5555)
    ∷ (0, Store W4 0x3332) ∷ (0, Store W4 0x5555_0000) ∷ (4, Store W4 0x5555) ∷ []

finisher_row : finisher_outcomes words ≡
    (Value 0 ∷ Halt Pass ∷ Halt (Fail 7) ∷ Reboot ∷ Halt Pass ∷ Done ∷ Done ∷ Done ∷ [])
unfolding finisher_outcomes words finisher_outcome ended
finisher_row = refl

-- ---- memory: two regions of four bytes, the second of which may not be written

two_regions : Flat
two_regions = record { find = place_of; cells = (1 ∷ 2 ∷ 3 ∷ 4 ∷ []) ∷ (5 ∷ 6 ∷ 7 ∷ 8 ∷ []) ∷ [] }
  where
    place_of : ℕ → ℕ → Option Place
    place_of gpa len =
        if nat_le (gpa + len) 4 then Some (record { region = 0; offset = gpa; writable = true })
        else if nat_le 4 gpa && nat_le (gpa + len) 8
        then Some (record { region = 1; offset = gpa - 4; writable = false })
        else None

bytes_within : bytes_at two_regions 5 2 ≡ Some (6 ∷ 7 ∷ [])
unfolding bytes_at two_regions
bytes_within = refl

bytes_across : bytes_at two_regions 3 2 ≡ None
unfolding bytes_at two_regions
bytes_across = refl

bytes_put : stored two_regions 1 (9 ∷ 9 ∷ [])
    ≡ Some ((1 ∷ 9 ∷ 9 ∷ 4 ∷ []) ∷ (5 ∷ 6 ∷ 7 ∷ 8 ∷ []) ∷ [])
unfolding stored two_regions
bytes_put = refl

bytes_not_put : stored two_regions 4 (9 ∷ []) ≡ None
unfolding stored two_regions
bytes_not_put = refl
