-- What a step comes to: a state, an exception of the hart's own, or an ask. The last two leave the
-- state as it is, and what becomes of them is said by who asks for the step.
use Rattle.std.specs.Prelude.{ℕ}
use Rattle.xv_isa.specs.Effects as effects
use Rattle.xv_csr.specs.Cause.{instruction_address_misaligned, load_address_misaligned}
use Rattle.xv_csr.specs.Cause.{store_address_misaligned, instruction_access_fault}
use Rattle.xv_csr.specs.Cause.{load_access_fault, store_access_fault, instruction_page_fault}
use Rattle.xv_csr.specs.Cause.{load_page_fault, store_page_fault}
use Rattle.xv_pte.specs.declared.access.Kind3.TheVariants as kinds
use Rattle.xv_pte.specs.declared.access.Kind3.{Kind3}
use Rattle.xv_step.specs.State.{State}

-- what memory alone can't answer. next is where the instruction behind this one stands
pub data Ask : Type 0 where
  -- an entry of a page table, read for an access at a virtual address, has no place
  TableEntry : (access : Kind3) → (va gpa : ℕ) → Ask
  -- what is fetched, reserved, stored conditionally or modified has no place, or may not be written
  Target : (access : Kind3) → (va gpa : ℕ) → Ask
  -- what is loaded or stored has no place, or may not be written
  Plain : (access : effects.Access) → (gpa next : ℕ) → Ask
  -- ECALL in S
  Call : (next : ℕ) → Ask
  -- WFI in S
  Wait : (next : ℕ) → Ask

pub data Outcome (Memory Place : Type 0) : Type 0 where
  Went : State Memory Place → Outcome Memory Place
  -- an exception, by its cause and its value for stval
  Raised : (cause tval : ℕ) → Outcome Memory Place
  Left : Ask → Outcome Memory Place

-- ---- a plain access: its kind, its bytes and its virtual address

abbrev pub access_kind : effects.Access → Kind3
access_kind (effects.Load width signed va rd) = kinds.Load
access_kind (effects.Store width va value) = kinds.Store

abbrev pub width_of : effects.Access → ℕ
width_of (effects.Load width signed va rd) = width
width_of (effects.Store width va value) = width

abbrev pub address_of : effects.Access → ℕ
address_of (effects.Load width signed va rd) = va
address_of (effects.Store width va value) = va

-- ---- the causes of each kind of access

abbrev pub misaligned : Kind3 → ℕ
misaligned kinds.Fetch = instruction_address_misaligned
misaligned kinds.Load = load_address_misaligned
misaligned kinds.Store = store_address_misaligned

abbrev pub access_fault : Kind3 → ℕ
access_fault kinds.Fetch = instruction_access_fault
access_fault kinds.Load = load_access_fault
access_fault kinds.Store = store_access_fault

abbrev pub page_fault : Kind3 → ℕ
page_fault kinds.Fetch = instruction_page_fault
page_fault kinds.Load = load_page_fault
page_fault kinds.Store = store_page_fault
