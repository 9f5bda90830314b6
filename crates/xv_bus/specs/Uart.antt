-- The UART: an automaton after the 16550 (National Semiconductor PC16550D, June 1995). Its baud
-- rate, parity, framing and breaks are those of no line, so its divisor and its line control are
-- kept and do nothing but for DLAB. Bytes that it receives come from a queue of input, and bytes
-- that it sends are kept.
use Rattle.std.specs.Prelude.{◌<◌, ◌≤◌, IsTrue, ℕ, ◌+◌, ◌-◌, ◌/◌, ◌%◌, ◌^◌, ◌==◌, Bool, true, false}
use Rattle.std.specs.Prelude.{not, ◌&&◌, ◌||◌, if◌then◌else◌, List, [], ◌∷◌, ◌++◌, length, take}
use Rattle.std.specs.Prelude.{drop, slice_index, nat_le, nat_lt, bit_or, Option, Some, None}
use Rattle.std.specs.List.{list_any}
use Rattle.xv_base.specs.Bits.{has_bit}
use Rattle.xv_base.specs.Serial.{Serial, sent, received}
use Rattle.xv_bus.specs.declared.access.Access.{Access}
use Rattle.xv_bus.specs.declared.access.Access.TheVariants.{Load, Store}
use Rattle.xv_bus.specs.declared.access.Outcome.TheVariants.{Value, Done, Refused}
use Rattle.xv_bus.specs.declared.access.Width.TheVariants.{W1}
use Rattle.xv_bus.specs.declared.registers.Modem.{Modem}
use Rattle.xv_bus.specs.declared.registers.UartRegister.{UartRegister}
use Rattle.xv_bus.specs.declared.registers.UartRegister.TheVariants.{Data, InterruptEnable}
use Rattle.xv_bus.specs.declared.registers.UartRegister.TheVariants.{InterruptIdent, LineControl}
use Rattle.xv_bus.specs.declared.registers.UartRegister.TheVariants.{ModemControl, LineStatus}
use Rattle.xv_bus.specs.declared.registers.UartRegister.TheVariants.{ModemStatus, Scratch}
use Rattle.xv_bus.specs.Device.{Answer, answer}

-- `shift` is log 2 of the distance of the registers; `msr` is bits 3:0 of the modem status
-- register, and `fifo` is what was received, the oldest first
pub record UartPort : Type 0 where
  pub shift : ℕ
  pub ier : ℕ
  pub fifo_on : Bool
  pub trigger : ℕ
  pub lcr : ℕ
  pub mcr : ℕ
  pub msr : ℕ
  pub scr : ℕ
  pub dll : ℕ
  pub dlm : ℕ
  pub overrun : Bool
  pub thre : Bool
  pub fifo : List ℕ
  pub serial : Serial

-- after a reset, with empty queues (table I); the trigger level is 1
unfoldable pub new_port : ℕ → Serial → UartPort
new_port shift serial =
    record {
      shift = shift;
      ier = 0;
      fifo_on = false;
      trigger = 1;
      lcr = 0;
      mcr = 0;
      msr = 0;
      scr = 0;
      dll = 0;
      dlm = 0;
      overrun = false;
      thre = false;
      fifo = [];
      serial = serial;
    }

-- a reset empties the queue of input; what was sent stays
unfoldable pub uart_reset : UartPort → UartPort
uart_reset port = new_port port.shift (record port.serial { queue = [] })

-- ---- registers (table II)

-- the registers by their addresses
abbrev pub register_rows : List (ℕ × UartRegister)
register_rows =
    (0, Data) ∷ (1, InterruptEnable) ∷ (2, InterruptIdent) ∷ (3, LineControl)
    ∷ (4, ModemControl) ∷ (5, LineStatus) ∷ (6, ModemStatus) ∷ (7, Scratch) ∷ []

abbrev pub row_of : ℕ → List (ℕ × UartRegister) → Option UartRegister
row_of number [] = None
row_of number (row ∷ rows) = if row.0 == number then Some row.1 else row_of number rows

unfoldable pub register_of : ℕ → Option UartRegister
register_of number = row_of number register_rows

-- the register at an offset
unfoldable pub register_at : ℕ → ℕ → Option UartRegister
register_at shift at = if at % 2 ^ shift == 0 then register_of (at / 2 ^ shift) else None

-- divisor latch access (8.1, bit 7): registers 0 and 1 are the divisor
abbrev pub has_dlab : UartPort → Bool
has_dlab port = has_bit 7 port.lcr

-- local loop back (8.8, bit 4)
abbrev pub is_loop : UartPort → Bool
is_loop port = has_bit 4 port.mcr

-- bit k, where it is 1
abbrev pub flag : ℕ → Bool → ℕ
flag k value = if value then 2 ^ k else 0

-- ---- the FIFO of what was received (8.5, 8.11)

-- how many bytes it holds: one, in the receiver buffer register, where FIFOs are off
abbrev pub fifo_size : Bool → ℕ
fifo_size on = if on then 16 else 1

-- a byte comes while there is no room (8.4, bit 1): with FIFOs on it is lost, else it replaces the
-- one that is held
abbrev pub overrun_by : ℕ → UartPort → UartPort
overrun_by byte port =
    record port { overrun = true; fifo = if port.fifo_on then port.fifo else byte ∷ [] }

abbrev pub arrived : ℕ → UartPort → UartPort
arrived byte port =
    if nat_lt (length port.fifo) (fifo_size port.fifo_on)
    then record port { fifo = port.fifo ++ byte ∷ [] }
    else overrun_by byte port

-- while the FIFO has room, bytes come from the queue of input; with loop back none comes
unfoldable pub moved : UartPort → UartPort
moved port =
    let room = fifo_size port.fifo_on - length port.fifo in
    if is_loop port then port
    else record port {
      fifo = port.fifo ++ take room port.serial.queue;
      serial = record port.serial { queue = drop room port.serial.queue };
    }

-- the trigger level by bits 7:6 of the FIFO control register
abbrev pub trigger_levels : List ℕ
trigger_levels = 1 ∷ 4 ∷ 8 ∷ 14 ∷ []

abbrev pub trigger_of : ℕ → ℕ
trigger_of fcr = slice_index trigger_levels (fcr / 2 ^ 6)

abbrev pub is_trigger : ℕ → Bool
is_trigger number = list_any (λ level. level == number) trigger_levels

-- bit 1 of the FIFO control register empties the FIFO, and so does a change of bit 0
abbrev pub is_emptied : Bool → ℕ → Bool
is_emptied on fcr = if has_bit 0 fcr then not on || has_bit 1 fcr else on

-- bit 0 turns FIFOs on; the other bits count only where it is 1
abbrev pub controlled : UartPort → ℕ → UartPort
controlled port fcr =
    record port {
      fifo_on = has_bit 0 fcr;
      trigger = if has_bit 0 fcr then trigger_of fcr else port.trigger;
      fifo = if is_emptied port.fifo_on fcr then [] else port.fifo;
    }

-- ---- the modem (8.8, 8.9)

-- the four inputs: with loop back they are RTS, DTR, OUT1 and OUT2 of the modem control register
abbrev pub modem : ℕ → Modem
modem mcr =
    if has_bit 4 mcr
    then record {
      cts = has_bit 1 mcr;
      dsr = has_bit 0 mcr;
      ri = has_bit 2 mcr;
      dcd = has_bit 3 mcr;
    }
    else record { cts = true; dsr = true; ri = false; dcd = true }

-- the inputs as bits 7:4 of the modem status register
abbrev pub input_bits : Modem → ℕ
input_bits inputs = flag 4 inputs.cts + flag 5 inputs.dsr + flag 6 inputs.ri + flag 7 inputs.dcd

abbrev pub differ : Bool → Bool → Bool
differ old new = if old then not new else new

-- what has changed, as bits 3:0: DCTS, DDSR, TERI, which is RI from 1 to 0, and DDCD
abbrev pub change_bits : Modem → Modem → ℕ
change_bits old new =
    flag 0 (differ old.cts new.cts) + flag 1 (differ old.dsr new.dsr) + flag 2
    (old.ri && not new.ri) + flag 3 (differ old.dcd new.dcd)

abbrev pub modem_controlled : UartPort → ℕ → UartPort
modem_controlled port mcr =
    record port { mcr = mcr; msr = bit_or port.msr (change_bits (modem port.mcr) (modem mcr)) }

-- ---- interrupts (8.6, table IV, and 8.7)

-- receiver line status: an overrun
abbrev pub is_status_due : UartPort → Bool
is_status_due port = has_bit 2 port.ier && port.overrun

-- received data: a byte, and with FIFOs on as many as the trigger level
abbrev pub is_data_due : UartPort → Bool
is_data_due port =
    has_bit 0 port.ier && not (length port.fifo == 0)
    && (not port.fifo_on || nat_le port.trigger (length port.fifo))

-- character timeout: bytes below the trigger level; no time passes, so it is due at once
abbrev pub is_timeout_due : UartPort → Bool
is_timeout_due port = has_bit 0 port.ier && not (length port.fifo == 0)

-- transmitter holding register empty
abbrev pub is_thre_due : UartPort → Bool
is_thre_due port = has_bit 1 port.ier && port.thre

-- modem status
abbrev pub is_modem_due : UartPort → Bool
is_modem_due port = has_bit 3 port.ier && not (port.msr == 0)

-- the causes by priority, each where it is due
abbrev pub cause_rows : UartPort → List (ℕ × Bool)
cause_rows port =
    (0x06, is_status_due port) ∷ (0x04, is_data_due port) ∷ (0x0C, is_timeout_due port)
    ∷ (0x02, is_thre_due port) ∷ (0x00, is_modem_due port) ∷ []

abbrev pub no_cause : ℕ
no_cause = 0x01

abbrev pub first_due : List (ℕ × Bool) → ℕ
first_due [] = no_cause
first_due (row ∷ rows) = if row.1 then row.0 else first_due rows

-- the first cause that is due
unfoldable pub cause : UartPort → ℕ
cause port = first_due (cause_rows port)

-- the line of the UART
unfoldable pub uart_line : UartPort → Bool
uart_line port = not (cause port == no_cause)

-- ---- reads: what is given, and what is left

-- bits 7:6 are 1 where FIFOs are on
abbrev pub ident : UartPort → ℕ
ident port = cause port + (if port.fifo_on then 0xC0 else 0)

-- the transmitter is empty (THRE, TEMT); bit 0 is DR, bit 1 OE
abbrev pub line_status : UartPort → ℕ
line_status port = 0x60 + flag 0 (not (length port.fifo == 0)) + flag 1 port.overrun

abbrev pub modem_status : UartPort → ℕ
modem_status port = input_bits (modem port.mcr) + port.msr

unfoldable pub shown : UartPort → UartRegister → ℕ
shown port Data = if has_dlab port then port.dll else slice_index port.fifo 0
shown port InterruptEnable = if has_dlab port then port.dlm else port.ier
shown port InterruptIdent = ident port
shown port LineControl = port.lcr
shown port ModemControl = port.mcr
shown port LineStatus = line_status port
shown port ModemStatus = modem_status port
shown port Scratch = port.scr

unfoldable pub after_read : UartPort → UartRegister → UartPort
after_read port Data = if has_dlab port then port else record port { fifo = drop 1 port.fifo }
after_read port InterruptEnable = port
after_read port InterruptIdent = if cause port == 0x02 then record port { thre = false } else port
after_read port LineControl = port
after_read port ModemControl = port
after_read port LineStatus = record port { overrun = false }
after_read port ModemStatus = record port { msr = 0 }
after_read port Scratch = port

-- ---- writes

-- a byte is sent, with loop back to the FIFO; the transmitter is empty again at once
unfoldable pub transmitted : UartPort → ℕ → UartPort
transmitted port byte =
    record (if is_loop port then arrived byte port
    else record port { serial = sent byte port.serial }) { thre = true }

-- where the interrupt of the empty transmitter is enabled anew, it is pending
abbrev pub enabled : UartPort → ℕ → UartPort
enabled port ier =
    record port { ier = ier; thre = port.thre || (has_bit 1 ier && not (has_bit 1 port.ier)) }

unfoldable pub written : UartPort → UartRegister → ℕ → UartPort
written port Data value =
    if has_dlab port then record port { dll = value } else transmitted port value
written port InterruptEnable value =
    if has_dlab port then record port { dlm = value } else enabled port (value % 2 ^ 4)
written port InterruptIdent value = controlled port value
written port LineControl value = record port { lcr = value }
written port ModemControl value = modem_controlled port (value % 2 ^ 5)
written port LineStatus value = port
written port ModemStatus value = port
written port Scratch value = record port { scr = value }

-- ---- accesses

abbrev pub load_answer : UartPort → Option UartRegister → Answer UartPort
load_answer port None = answer port (Value 0)
load_answer port (Some register) = answer (after_read port register) (Value (shown port register))

abbrev pub store_answer : UartPort → ℕ → Option UartRegister → Answer UartPort
store_answer port value None = answer port Done
store_answer port value (Some register) = answer (written port register value) Done

-- a read and a write at an offset; where no register is, a read gives 0 and a write does nothing
abbrev pub uart_load : UartPort → ℕ → Answer UartPort
uart_load port at = load_answer port (register_at port.shift at)

abbrev pub uart_store : UartPort → ℕ → ℕ → Answer UartPort
uart_store port at value = store_answer port value (register_at port.shift at)

-- accesses of one byte alone
abbrev pub register_answer : UartPort → ℕ → Access → Answer UartPort
register_answer port at (Load W1) = uart_load port at
register_answer port at (Store W1 value) = uart_store port at value
register_answer port at (Load width) = answer port Refused
register_answer port at (Store width value) = answer port Refused

-- an access, and the movement of queued bytes after it, whatever it comes to
unfoldable pub uart_accessed : UartPort → ℕ → Access → Answer UartPort
uart_accessed port at access =
    let given = register_answer port at access in answer (moved given.device) given.outcome

-- ---- input

-- the port after bytes have come in, as many as the queue has room for
unfoldable pub uart_input : List ℕ → UartPort → UartPort
uart_input bytes port = moved (record port { serial = received bytes port.serial })

-- ---- what a port can hold

pub record IsPort (port : UartPort) : Type 0 where
  pub shift : port.shift ≤ 2
  pub ier : port.ier < 2 ^ 4
  pub trigger : IsTrue (is_trigger port.trigger)
  pub mcr : port.mcr < 2 ^ 5
  pub msr : port.msr < 2 ^ 4
  pub fifo : length port.fifo ≤ fifo_size port.fifo_on
