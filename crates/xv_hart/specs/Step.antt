-- One step of the hart over host bytes.
use Rattle.std.specs.Prelude.{ℕ, ◌≡◌, ◌/◌, List, [], Bool, false, if◌then◌else◌}
use Rattle.std.specs.Prelude.{Option, Some, None}
use Rattle.xv_csr.specs.Cause.{environment_call_from_vs, virtual_instruction}
use Rattle.xv_csr.specs.Cause.{instruction_guest_page_fault, load_guest_page_fault}
use Rattle.xv_csr.specs.Cause.{store_guest_page_fault}
use Rattle.xv_csr.specs.Fields.{IsInstructionAddress}
use Rattle.xv_csr.specs.Kept.{IsKept}
use Rattle.xv_csr.specs.declared.Lines.{Lines}
use Rattle.xv_hcsr.specs.declared.HCsrs.{HCsrs}
use Rattle.xv_hcsr.specs.Delegation.{is_delegated}
use Rattle.xv_hcsr.specs.Guest.{IsForGuest}
use Rattle.xv_hcsr.specs.Lines.{software_line, timer_line, external_line, with_software}
use Rattle.xv_hcsr.specs.Time.{guest_time}
use Rattle.xv_pte.specs.declared.access.Kind3.TheVariants as kinds
use Rattle.xv_pte.specs.declared.access.Kind3.{Kind3}
use Rattle.xv_step.specs.State.{Held as Reservation, State, trapped}
use Rattle.xv_step.specs.Outcome.{Ask, TableEntry, Target, Plain, Call, Wait, Outcome, Went, Raised}
use Rattle.xv_step.specs.Outcome.{Left, access_kind, address_of}
use Rattle.xv_step.specs.Perform.{Inputs}
use Rattle.xv_step.specs.Step.{step}
use Rattle.xv_hart.specs.declared.exit.Exit.{Exit}
use Rattle.xv_hart.specs.declared.exit.Exit.TheVariants.{Done, Trap}
use Rattle.xv_hart.specs.declared.exit.HTrap.{HTrap}
use Rattle.xv_hart.specs.declared.regs.Held.{Held}
use Rattle.xv_hart.specs.declared.regs.Regs.{Regs}
use Rattle.xv_hart.specs.Memory.{bus_of}

-- ---- the hart's registers, as a state over host bytes

abbrev pub held_of : Option Held → Option (Reservation ℕ)
held_of None = None
held_of (Some held) = Some (record { place = held.host; width = held.width })

abbrev pub state_of : Regs → List ℕ → State (List ℕ) ℕ
state_of r bytes =
    record {
      x = r.x;
      pc = r.pc;
      user = r.user;
      csrs = r.csrs;
      held = held_of r.held;
      memory = bytes;
    }

-- the registers with those of a state, but for its reservation and the line that is its SSIP
abbrev pub with_state : State (List ℕ) ℕ → Regs → Regs
with_state s r = record r { x = s.x; pc = s.pc; user = s.user; csrs = s.csrs }

-- and after a trap, which leaves the reservation
abbrev pub after_trap : (cause tval : ℕ) → Regs → Regs
after_trap cause tval r = with_state (trapped cause tval (state_of r [])) r

-- the lines of hvip, each under the guest's own name (8.2.3)
abbrev pub lines_of : HCsrs → Lines
lines_of h = record { timer = timer_line h; external = external_line h }

abbrev pub inputs_of : Regs → Inputs
inputs_of r = record { lines = lines_of r.h; time = guest_time r.time r.h }

-- the line that is the guest's SSIP follows it
abbrev pub with_ssip_of : Regs → Regs
with_ssip_of r = record r { h = record r.h { hvip = with_software r.csrs.ssip r.h.hvip } }

-- the hypervisor CSRs but for that line
abbrev pub but_software : HCsrs → HCsrs
but_software h = record h { hvip = with_software false h.hvip }

-- ---- what is left to the monitor, as a trap to HS (Privileged Architecture 20211203, 8.6)

-- instruction, load and store guest-page fault
abbrev pub guest_page_fault : Kind3 → ℕ
guest_page_fault kinds.Fetch = instruction_guest_page_fault
guest_page_fault kinds.Load = load_guest_page_fault
guest_page_fault kinds.Store = store_guest_page_fault

abbrev pub fault_trap : Bool → Kind3 → (va gpa htinst : ℕ) → HTrap
fault_trap user access va gpa htinst =
    record {
      cause = guest_page_fault access;
      tval = va;
      htval = gpa / 4;
      htinst = htinst;
      word = 0;
      user = user;
    }

-- an exception that hedeleg keeps from the guest
abbrev pub exception_trap : Bool → (cause tval : ℕ) → HTrap
exception_trap user cause tval =
    record { cause = cause; tval = tval; htval = 0; htinst = 0; word = 0; user = user }

-- the pseudoinstruction of a read of a page table's entry of 64 bits (table 8.12)
abbrev pub entry_read : ℕ
entry_read = 0x3000

abbrev pub wfi_word : ℕ
wfi_word = 0x1050_0073

abbrev pub trap_of : Bool → Ask → HTrap
trap_of user (TableEntry access va gpa) = fault_trap user access va gpa entry_read
trap_of user (Target access va gpa) = fault_trap user access va gpa 0
trap_of user (Plain access gpa next) =
    fault_trap user (access_kind access) (address_of access) gpa 0
trap_of user (Call next) =
    record {
      cause = environment_call_from_vs;
      tval = 0;
      htval = 0;
      htinst = 0;
      word = 0;
      user = user;
    }
trap_of user (Wait next) =
    record {
      cause = virtual_instruction;
      tval = wfi_word;
      htval = 0;
      htinst = 0;
      word = wfi_word;
      user = user;
    }

-- an ask for a target at a guest physical address is left as the fault of this access
abbrev pub IsLeftAs : Bool → Kind3 → (va : ℕ) → (ℕ → Ask) → Type 0
IsLeftAs user access va lacks =
    (gpa : ℕ) → trap_of user (lacks gpa) ≡ fault_trap user access va gpa 0

-- ---- the step

-- what a step comes to: the exit, the hart's state with the host bytes, and what a step never
-- changes. The line that is missing in h is SSIP of the state (IsWellFormed)
pub record HStep : Type 0 where
  pub exit : Exit
  pub state : State (List ℕ) ℕ
  pub h : HCsrs
  pub time : ℕ

abbrev pub ended : Exit → Regs → State (List ℕ) ℕ → HStep
ended exit r s =
    record { exit = exit; state = s; h = but_software r.h; time = r.time }

abbrev pub came : Exit → Regs → List ℕ → HStep
came exit r bytes = ended exit r (state_of r bytes)

-- an exception enters the guest where hedeleg says so; else it is the monitor's
abbrev pub raised : Regs → List ℕ → (cause tval : ℕ) → HStep
raised r bytes cause tval =
    if is_delegated r.h cause then ended Done r (trapped cause tval (state_of r bytes))
    else came (Trap (exception_trap r.user cause tval)) r bytes

-- a hart that has made its step, or has taken its exception; or one that has left its step to the
-- monitor and is as before
abbrev pub exit_of : Regs → List ℕ → Outcome (List ℕ) ℕ → HStep
exit_of r bytes (Went s) = ended Done r s
exit_of r bytes (Raised cause tval) = raised r bytes cause tval
exit_of r bytes (Left ask) = came (Trap (trap_of r.user ask)) r bytes

abbrev pub outcome_of : Regs → List ℕ → Outcome (List ℕ) ℕ
outcome_of r bytes = step (bus_of r bytes) (inputs_of r) (state_of r bytes)

unfoldable pub hart_step : Regs → List ℕ → HStep
hart_step r bytes = exit_of r bytes (outcome_of r bytes)

-- what a step needs, and keeps, of the registers: the pc is an instruction's address, each CSR
-- holds what a write of it keeps, the hypervisor CSRs are some guest's, and SSIP is its line
pub record IsWellFormed (r : Regs) : Type 0 where
  pub pc : IsInstructionAddress r.pc
  pub csrs : IsKept r.csrs
  pub guest : IsForGuest r.h
  pub software : r.csrs.ssip ≡ software_line r.h
