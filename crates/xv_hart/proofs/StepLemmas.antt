-- The step, part by part, and what it keeps.
use Rattle.std.proofs.Common.{◌≡◌, ℕ, ◌-◌, ◌^◌, Bool, true, false, cond, List, Option, refl, ap}
use Rattle.std.proofs.Common.{◌∙◌}
use Rattle.std.proofs.Common.{arith}
use Rattle.std.proofs.lemmas.Nat.{and_or_apart}
use Rattle.std.proofs.lemmas.Bool.Decides.{nat_tests}
use Rattle.xv_csr.specs.declared.SCsrs.{SCsrs}
use Rattle.xv_csr.specs.Fields.{IsInstructionAddress}
use Rattle.xv_csr.specs.Kept.{IsKept, kept_sepc}
use Rattle.xv_csr.specs.Pending.{chosen_interrupt}
use Rattle.xv_csr.specs.Trap.{handler, trap_csrs, return_csrs}
use Rattle.xv_csr.proofs.BitsLemmas.{and-and}
use Rattle.xv_base.specs.Bits.{has_bit}
use Rattle.xv_hcsr.specs.declared.HCsrs.{HCsrs}
use Rattle.xv_hcsr.specs.Guest.{IsForGuest}
use Rattle.xv_hcsr.specs.Delegation.{is_delegated}
use Rattle.xv_hcsr.specs.Lines.{with_software}
use Rattle.xv_hcsr.specs.Stage.{root_of}
use Rattle.xv_hcsr.proofs.LineLemmas.{has_bit-same}
use Rattle.xv_step.specs.State.{trapped}
use Rattle.xv_step.specs.Outcome.{Outcome, Went, Raised, Left}
use Rattle.xv_step.specs.Perform.{performed}
use Rattle.xv_step.specs.Step.{step, fetched, interrupted}
use Rattle.xv_hart.specs.declared.action.Action.{Action}
use Rattle.xv_hart.specs.declared.exit.Exit.{Exit}
use Rattle.xv_hart.specs.declared.exit.Exit.TheVariants.{Done, Trap}
use Rattle.xv_hart.specs.declared.regs.Regs.{Regs}
use Rattle.xv_hart.specs.Action.{action_of}
use Rattle.xv_hart.specs.Memory.{bus_of}
use Rattle.xv_hart.specs.Step.{HStep, came, exit_of, state_of, inputs_of, hart_step, after_trap}
use Rattle.xv_hart.specs.Step.{lines_of, outcome_of, ended, but_software, exception_trap}

-- every handler stands at an instruction's address
pub handler_aligned : (csrs : SCsrs) (cause : ℕ) → IsInstructionAddress (handler csrs cause)
unfolding handler
handler_aligned csrs cause = grind (arith, nat_tests)

pub trap_ssip : (csrs : SCsrs) (user : Bool) (cause tval pc : ℕ)
    → (trap_csrs csrs user cause tval pc).ssip ≡ csrs.ssip
unfolding trap_csrs
trap_ssip csrs user cause tval pc = refl

pub ruleset entered = (handler_aligned, trap_ssip)

pub return_ssip : (csrs : SCsrs) → (return_csrs csrs).ssip ≡ csrs.ssip
unfolding return_csrs
return_ssip csrs = refl

-- the line that is SSIP, and the other hypervisor CSRs
pub ssip_line : (software : Bool) (hvip : ℕ) → has_bit 2 (with_software software hvip) ≡ software
ssip_line software hvip = has_bit-same 2 software hvip (omega arith)

pub ssip_other : (software : Bool) (hvip : ℕ)
    → with_software false (with_software software hvip) ≡ with_software false hvip
ssip_other true hvip = and_or_apart (2 ^ 64 - 1 - 2 ^ 2) hvip (2 ^ 2) refl
ssip_other false hvip = and-and (2 ^ 64 - 1 - 2 ^ 2) hvip

pub ssip_guest : (h : HCsrs) (hvip : ℕ) → IsForGuest h → IsForGuest (record h { hvip = hvip })
ssip_guest h hvip guest = record {
  stage = guest.stage;
  root = guest.root;
  vmid = guest.vmid;
  exceptions = guest.exceptions;
  interrupts = guest.interrupts;
  counters = guest.counters;
  waits = guest.waits;
}

pub ruleset ssip = (ssip_line, ssip_other, ssip_guest)

-- SRET returns to one
pub sepc_aligned : (csrs : SCsrs) → IsKept csrs → IsInstructionAddress csrs.sepc
unfolding kept_sepc
sepc_aligned csrs kept = omega (arith, kept.sepc)

-- what a step comes to where the instruction asks for this
abbrev pub done_by : Regs → List ℕ → (word next : ℕ) → Action → HStep
done_by r bytes word next a =
    exit_of r bytes (performed (bus_of r bytes) (inputs_of r) word next (state_of r bytes)
    (action_of a))

-- what a step comes to where no interrupt is taken
abbrev pub fetch_of : Regs → List ℕ → HStep
fetch_of r bytes = exit_of r bytes (fetched (bus_of r bytes) (inputs_of r) (state_of r bytes))

module _ (r : Regs) (bytes : List ℕ) where
  -- an interrupt
  pub came_interrupted : (exit : Exit) (new : Regs) (cause : ℕ) → exit ≡ Done
      → new ≡ after_trap cause 0 r
      → came exit new bytes ≡ exit_of r bytes (Went (trapped cause 0 (state_of r bytes)))
  came_interrupted exit new cause done regs =
      ap (λ e. came e new bytes) done ∙ ap (λ n. came Done n bytes) regs

  -- the step, where this interrupt is taken or none
  pub step_is : (o : Option ℕ) → chosen_interrupt r.csrs r.user (lines_of r.h) ≡ o
      → hart_step r bytes
      ≡ exit_of r bytes (interrupted (bus_of r bytes) (inputs_of r) (state_of r bytes) o)
  unfolding hart_step step
  step_is o chosen =
      ap (λ c. exit_of r bytes (interrupted (bus_of r bytes) (inputs_of r) (state_of r bytes) c))
      chosen

  -- a step keeps the hypervisor CSRs, but for the line that is SSIP
  exit_h : (o : Outcome (List ℕ) ℕ) → (exit_of r bytes o).h ≡ but_software r.h
  exit_h (Went s) = refl
  exit_h (Raised cause tval) =
      by_delegated (is_delegated r.h cause) (ended Done r (trapped cause tval (state_of r bytes)))
      (came (Trap (exception_trap r.user cause tval)) r bytes) refl refl
    where
      by_delegated : (b : Bool) (e f : HStep) → e.h ≡ but_software r.h → f.h ≡ but_software r.h
          → (cond b e f).h ≡ but_software r.h
      by_delegated true e f of_e of_f = of_e
      by_delegated false e f of_e of_f = of_f
  exit_h (Left ask) = refl

  pub same_root : (exit : Exit) (new : Regs) (now : List ℕ)
      → came exit new now ≡ hart_step r bytes → root_of new.h ≡ root_of r.h
  unfolding hart_step
  same_root exit new now e =
      ap (λ (h : HStep). root_of h.h) e ∙ ap root_of (exit_h (outcome_of r bytes))
