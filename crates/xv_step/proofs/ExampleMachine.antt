-- A hart over 64 bytes of memory, for worked rows of the definitions: an exception is taken, and an
-- ask is answered as a machine without devices and without calls would.
use Rattle.std.proofs.Common.{ℕ, zero, suc, ◌+◌, ◌-◌, ◌*◌, ◌/◌, ◌%◌, ◌^◌, ◌==◌, ◌++◌, Bool, true}
use Rattle.std.proofs.Common.{false, ◌&&◌, if◌then◌else◌, List, [], ◌∷◌, length, Some, None, nat_le}
use Rattle.std.specs.Prelude.{replicate, slice_index, slice_set}
use Rattle.xv_csr.specs.Reset.{reset_csrs}
use Rattle.xv_csr.specs.Trap.{handler}
use Rattle.xv_csr.specs.declared.SCsrs.{SCsrs}
use Rattle.xv_step.specs.Bus.{Bus}
use Rattle.xv_step.specs.State.{State, set, trapped}
use Rattle.xv_step.specs.Outcome.{Ask, TableEntry, Target, Plain, Call, Wait, Outcome, Went, Raised}
use Rattle.xv_step.specs.Outcome.{Left, access_kind, address_of, access_fault}
use Rattle.xv_step.specs.Perform.{Inputs}
use Rattle.xv_step.specs.Step.{step}

-- ---- 64 bytes of memory from 0x80000000 on, of which the last 8 can't be written

unfoldable pub base : ℕ
base = 0x8000_0000

unfoldable pub bytes_of : ℕ → ℕ → List ℕ
bytes_of zero n = []
bytes_of (suc width) n = n % 256 ∷ bytes_of width (n / 256)

unfoldable pub number_at : List ℕ → ℕ → ℕ → ℕ
number_at memory zero at = 0
number_at memory (suc width) at = slice_index memory at + 256 * number_at memory width (at + 1)

unfoldable pub stored_at : List ℕ → ℕ → List ℕ → List ℕ
stored_at memory at [] = memory
stored_at memory at (b ∷ bs) = stored_at (slice_set memory at b) (at + 1) bs

unfoldable pub bus : Bus (List ℕ) ℕ
bus = record {
  find = λ width gpa. if nat_le base gpa && nat_le (gpa + width) (base + 64)
      then Some (record { place = gpa - base; writable = nat_le (gpa + width) (base + 56) })
      else None;
  get = λ memory width at. number_at memory width at;
  put = λ memory width at value. stored_at memory at (bytes_of width value);
  same = λ a b. a == b;
}

unfoldable pub inputs : Inputs
inputs = record { lines = record { timer = false; external = false }; time = 7 }

-- ---- a machine by itself

unfoldable pub answer : State (List ℕ) ℕ → Ask → State (List ℕ) ℕ
answer s (TableEntry access va gpa) = trapped (access_fault access) va s
answer s (Target access va gpa) = trapped (access_fault access) va s
answer s (Plain access gpa next) = trapped (access_fault (access_kind access)) (address_of access) s
answer s (Call next) = record (set 10 (2 ^ 64 - 2) (set 11 0 s)) { pc = next }
answer s (Wait next) = record s { pc = next }

unfoldable pub answered : State (List ℕ) ℕ → Outcome (List ℕ) ℕ → State (List ℕ) ℕ
answered s (Went t) = t
answered s (Raised cause tval) = trapped cause tval s
answered s (Left ask) = answer s ask

unfoldable pub steps : ℕ → State (List ℕ) ℕ → State (List ℕ) ℕ
steps zero s = s
steps (suc n) s = steps n (answered s (step bus inputs s))

unfoldable pub memory_of : List ℕ → List ℕ
memory_of [] = []
memory_of (word ∷ words) = bytes_of 4 word ++ memory_of words

-- a hart in S at the first of these words, with zeros behind them
unfoldable pub start : List ℕ → State (List ℕ) ℕ
start words = record {
  x = replicate 32 0;
  pc = base;
  user = false;
  csrs = reset_csrs;
  held = None;
  memory = memory_of words ++ replicate (64 - 4 * length words) 0;
}

unfoldable pub in_user : State (List ℕ) ℕ → State (List ℕ) ℕ
in_user s = record s { user = true }

unfoldable pub with_csrs : SCsrs → State (List ℕ) ℕ → State (List ℕ) ℕ
with_csrs csrs s = record s { csrs = csrs }

-- Sv39 with the root table at the base: entry 2 maps 1 GiB at the base onto itself, entry 3 maps it
-- as these flags say, and the entries from 8 on have no memory
unfoldable pub mapped : ℕ → ℕ → List ℕ → State (List ℕ) ℕ
mapped status flags code =
    with_csrs (record reset_csrs
    { satp = 8 * 2 ^ 60 + 0x80000; sstatus = reset_csrs.sstatus + status })
    (start (code ++ 0x2000_00cf ∷ 0 ∷ (0x2000_0000 + flags) ∷ 0 ∷ []))

-- ---- what is looked at

-- scause, sepc, stval and the pc
unfoldable pub trap_of : State (List ℕ) ℕ → List ℕ
trap_of s = s.csrs.scause ∷ s.csrs.sepc ∷ s.csrs.stval ∷ s.pc ∷ []

unfoldable pub registers : List ℕ → State (List ℕ) ℕ → List ℕ
registers [] s = []
registers (k ∷ ks) s = slice_index s.x k ∷ registers ks s

unfoldable pub mode_of : Bool → ℕ
mode_of true = 0
mode_of false = 1

-- the pc, the mode (U 0, S 1) and sstatus without UXL
unfoldable pub mode : State (List ℕ) ℕ → List ℕ
mode s = s.pc ∷ mode_of s.user ∷ s.csrs.sstatus % 2 ^ 32 ∷ []

-- the 8 bytes at offset 32
unfoldable pub word : State (List ℕ) ℕ → List ℕ
word s = number_at s.memory 8 32 ∷ []

-- ---- runs

-- so many steps from the first of these words
unfoldable pub ran : ℕ → List ℕ → State (List ℕ) ℕ
ran n words = steps n (start words)

unfoldable pub ran_in_user : List ℕ → State (List ℕ) ℕ
ran_in_user words = steps 1 (in_user (start words))

-- x5 is the address of offset 32
unfoldable pub at_x5 : List ℕ → List ℕ
at_x5 words = 0x00000297 ∷ 0x02028293 ∷ words

unfoldable pub ones : ℕ
ones = 2 ^ 64 - 1

-- ---- more that is looked at

unfoldable pub pc_of : State (List ℕ) ℕ → List ℕ
pc_of s = s.pc ∷ []

-- x1 and sscratch
unfoldable pub scratch : State (List ℕ) ℕ → List ℕ
scratch s = slice_index s.x 1 ∷ s.csrs.sscratch ∷ []

-- ---- more to begin with

-- the software interrupt is pending, these are enabled in S, and stvec is this
unfoldable pub enabled : (interrupts handler : ℕ) → SCsrs
enabled interrupts handler =
    record reset_csrs
    { ssip = true; sie = interrupts; stvec = handler; sstatus = reset_csrs.sstatus + 2 }

-- one step with the timer's line and the external line up
unfoldable pub raised : SCsrs → State (List ℕ) ℕ → State (List ℕ) ℕ
raised csrs s =
    let now = with_csrs csrs s in
    answered now
    (step bus (record { lines = record { timer = true; external = true }; time = 7 }) now)

-- Sv39 with the root table at the base: these are entries 2 and 3, of which the second has a high
-- half too, and one word of code stands before them
unfoldable pub tables : (status two three high : ℕ) → List ℕ → State (List ℕ) ℕ
tables status two three high code =
    with_csrs (record reset_csrs
    { satp = 8 * 2 ^ 60 + 0x80000; sstatus = reset_csrs.sstatus + status })
    (start (code ++ 0 ∷ 0 ∷ 0 ∷ two ∷ 0 ∷ three ∷ high ∷ []))

-- with x5 an address, or the pc
unfoldable pub at_va : ℕ → State (List ℕ) ℕ → State (List ℕ) ℕ
at_va va s = set 5 va s

unfoldable pub at_pc : ℕ → State (List ℕ) ℕ → State (List ℕ) ℕ
at_pc pc s = record s { pc = pc }
