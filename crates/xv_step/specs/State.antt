-- The state of a hart between two steps.
use Rattle.std.specs.Prelude.{ℕ, ◌==◌, Bool, false, if◌then◌else◌, List, Option, Some, None}
use Rattle.std.specs.Prelude.{slice_set}
use Rattle.xv_csr.specs.declared.SCsrs.{SCsrs}
use Rattle.xv_base.specs.Bits.{has_bit}
use Rattle.xv_csr.specs.Fields.{sum_bit, mxr_bit}
use Rattle.xv_csr.specs.Trap.{trap_csrs, handler}
use Rattle.xv_pte.specs.declared.access.View.{View}

-- a reservation: a place and a number of bytes
pub record Held (Place : Type 0) : Type 0 where
  pub place : Place
  pub width : ℕ

-- a reservation, if there is one, with its place in another form
abbrev pub held_as : {P Q : Type 0} → (P → Q) → Option (Held P) → Option (Held Q)
held_as shown None = None
held_as shown (Some held) = Some (record { place = shown held.place; width = held.width })

-- 32 integer registers, the pc, whether the mode is U, the supervisor CSRs, the reservation, and
-- memory
pub record State (Memory Place : Type 0) : Type 0 where
  pub x : List ℕ
  pub pc : ℕ
  pub user : Bool
  pub csrs : SCsrs
  pub held : Option (Held Place)
  pub memory : Memory

-- the registers with a value in register rd, but that x0 isn't written
abbrev pub with_register : ℕ → ℕ → List ℕ → List ℕ
with_register rd value x = if rd == 0 then x else slice_set x rd value

-- rd is written
abbrev pub set : {M P : Type 0} → ℕ → ℕ → State M P → State M P
set rd value s = record s { x = with_register rd value s.x }

abbrev pub at_pc : {M P : Type 0} → ℕ → State M P → State M P
at_pc pc s = record s { pc = pc }

-- a trap, by its cause and its value for stval (4.1.7 to 4.1.9, 3.3.2): it leaves the reservation
abbrev pub trapped : {M P : Type 0} → ℕ → ℕ → State M P → State M P
trapped cause tval s = record s {
  pc = handler s.csrs cause;
  user = false;
  csrs = trap_csrs s.csrs s.user cause tval s.pc;
}

-- what decides on the accesses of the hart
abbrev pub view : {M P : Type 0} → State M P → View
view s = record {
  satp = s.csrs.satp;
  user = s.user;
  sum = has_bit sum_bit s.csrs.sstatus;
  mxr = has_bit mxr_bit s.csrs.sstatus;
}
