-- Trap causes as scause has them (Privileged Architecture 20211203, table 4.2).
use Rattle.std.specs.Prelude.{ℕ, ◌+◌, ◌^◌, Bool, nat_le}

-- ---- exceptions. A store's causes are those of SC and of an AMO too

abbrev pub instruction_address_misaligned : ℕ
instruction_address_misaligned = 0

abbrev pub instruction_access_fault : ℕ
instruction_access_fault = 1

abbrev pub illegal_instruction : ℕ
illegal_instruction = 2

abbrev pub breakpoint : ℕ
breakpoint = 3

abbrev pub load_address_misaligned : ℕ
load_address_misaligned = 4

abbrev pub load_access_fault : ℕ
load_access_fault = 5

abbrev pub store_address_misaligned : ℕ
store_address_misaligned = 6

abbrev pub store_access_fault : ℕ
store_access_fault = 7

abbrev pub environment_call_from_u : ℕ
environment_call_from_u = 8

abbrev pub instruction_page_fault : ℕ
instruction_page_fault = 12

abbrev pub load_page_fault : ℕ
load_page_fault = 13

abbrev pub store_page_fault : ℕ
store_page_fault = 15

-- ---- exceptions of a guest that its hypervisor takes (section 8.6)

abbrev pub environment_call_from_vs : ℕ
environment_call_from_vs = 10

abbrev pub instruction_guest_page_fault : ℕ
instruction_guest_page_fault = 20

abbrev pub load_guest_page_fault : ℕ
load_guest_page_fault = 21

abbrev pub virtual_instruction : ℕ
virtual_instruction = 22

abbrev pub store_guest_page_fault : ℕ
store_guest_page_fault = 23

-- ---- interrupts, by the number that is also their bit of sip and sie (4.1.3)

abbrev pub software_interrupt : ℕ
software_interrupt = 1

abbrev pub timer_interrupt : ℕ
timer_interrupt = 5

abbrev pub external_interrupt : ℕ
external_interrupt = 9

-- the cause of the interrupt of that number
abbrev pub interrupt_cause : ℕ → ℕ
interrupt_cause number = 2 ^ 63 + number

-- a cause with its top bit set is an interrupt, and its other bits are the interrupt's number
abbrev pub is_interrupt : ℕ → Bool
is_interrupt cause = nat_le (2 ^ 63) cause
