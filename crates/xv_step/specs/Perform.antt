-- What an instruction does: its action, row by row. Every case that isn't an exception or an ask
-- goes on at the next instruction, but for jumps and SRET. This profile's own: stval of an illegal
-- instruction is its word, and of EBREAK (3.3.1) the pc; WFI (3.3.3) is left to who asks for the
-- step.
use Rattle.std.specs.Prelude.{ℕ, ◌-◌, ◌%◌, ◌^◌, ◌==◌, Bool, true, false, ◌&&◌, if◌then◌else◌}
use Rattle.std.specs.Prelude.{Option, Some, None, bit_and, bit_or}
use Rattle.xv_isa.specs.declared.rows.Op.{Op}
use Rattle.xv_isa.specs.Effects as effects
use Rattle.xv_isa.specs.Effects.{CsrChange, Written, BitsSet, BitsCleared, Unwritten, extended}
use Rattle.xv_isa.specs.Effects.{low_bytes}
use Rattle.xv_isa.specs.Results.{result_of}
use Rattle.xv_csr.specs.declared.SCsrs.{SCsrs}
use Rattle.xv_csr.specs.declared.Lines.{Lines}
use Rattle.xv_csr.specs.Cause.{instruction_address_misaligned, illegal_instruction, breakpoint}
use Rattle.xv_csr.specs.Cause.{environment_call_from_u}
use Rattle.xv_csr.specs.Fields.{instruction_alignment}
use Rattle.xv_csr.specs.Table.{csr_read, csr_written}
use Rattle.xv_csr.specs.Trap.{return_csrs, returns_to_user}
use Rattle.xv_pte.specs.declared.access.Kind3.TheVariants as kinds
use Rattle.xv_step.specs.Bus.{Bus}
use Rattle.xv_step.specs.State.{Held, State, set, at_pc}
use Rattle.xv_step.specs.Outcome.{Target, Plain, Call, Wait, Outcome, Went, Raised, Left}
use Rattle.xv_step.specs.Memory.{accessed}

-- what comes to a hart from outside: its interrupt lines, and the time
pub record Inputs : Type 0 where
  pub lines : Lines
  pub time : ℕ

-- the number that a CSR is written with, of its old one
abbrev pub new_value : CsrChange → ℕ → Option ℕ
new_value (Written value) old = Some value
new_value (BitsSet value) old = Some (bit_or old value)
new_value (BitsCleared value) old = Some (bit_and old (2 ^ 64 - 1 - value))
new_value Unwritten old = None

-- the CSRs after a write, if there is one; none where it is refused
abbrev pub new_csrs : SCsrs → ℕ → Bool → Option ℕ → Option SCsrs
new_csrs csrs number user None = Some csrs
new_csrs csrs number user (Some value) = csr_written csrs number user value

-- the reservation is of this place and width
abbrev pub is_reserved : {M P : Type 0} → Bus M P → ℕ → P → Option (Held P) → Bool
is_reserved bus width place None = false
is_reserved bus width place (Some held) = bus.same held.place place && held.width == width

-- word is the instruction's, and next where the instruction behind it stands
module _ {M P : Type 0} (bus : Bus M P) (inputs : Inputs) (word next : ℕ) (s : State M P) where
  -- the hart goes on at the next instruction
  abbrev pub goes_on : State M P → Outcome M P
  goes_on t = Went (at_pc next t)

  abbrev pub illegal : Outcome M P
  illegal = Raised illegal_instruction word

  -- in S alone: in U the instruction is illegal (Privileged Architecture, 3.3.2, 3.3.3 and 4.2.1)
  abbrev pub in_supervisor : Outcome M P → Outcome M P
  in_supervisor done = if s.user then illegal else done

  -- a jump writes its link only where its target is aligned (Unprivileged ISA 20191213, 2.5)
  abbrev pub jumped : ℕ → ℕ → ℕ → Outcome M P
  jumped target rd link =
      if target % instruction_alignment == 0 then Went (at_pc target (set rd link s))
      else Raised instruction_address_misaligned target

  -- ---- memory (Unprivileged ISA, 2.6, and 8.2 and 8.4 for the atomics)

  abbrev pub loaded : ℕ → Bool → ℕ → P → Outcome M P
  loaded width signed rd place =
      goes_on (set rd (extended signed width (bus.get s.memory width place)) s)

  abbrev pub stored : ℕ → ℕ → P → Outcome M P
  stored width value place = goes_on (record s { memory = bus.put s.memory width place value })

  abbrev pub plain : effects.Access → Outcome M P
  plain (effects.Load width signed va rd) =
      accessed bus s kinds.Load width va (λ gpa. Plain (effects.Load width signed va rd) gpa next)
      (loaded width signed rd)
  plain (effects.Store width va value) =
      accessed bus s kinds.Store width va (λ gpa. Plain (effects.Store width va value) gpa next)
      (stored width value)

  abbrev pub reserved : ℕ → ℕ → P → Outcome M P
  reserved width rd place =
      goes_on (set rd (extended true width (bus.get s.memory width place))
      (record s { held = Some (record { place = place; width = width }) }))

  -- the reservation is gone whether it was held or not
  abbrev pub conditional : ℕ → ℕ → ℕ → P → Outcome M P
  conditional width value rd place =
      if is_reserved bus width place s.held
      then goes_on
      (set rd 0 (record s { held = None; memory = bus.put s.memory width place value }))
      else goes_on (set rd 1 (record s { held = None }))

  -- the old bytes go to rd, and what the operation makes of them and the value is stored
  abbrev pub modified : Op → ℕ → ℕ → ℕ → P → Outcome M P
  modified op width value rd place =
      let old = extended true width (bus.get s.memory width place) in
      goes_on (set rd old
      (record s {
        memory = bus.put s.memory width place
            (low_bytes width (result_of op old value));
      }))

  -- ---- CSRs and modes (Unprivileged ISA, chapter 9; Privileged Architecture, 3.3 and 4.2)

  -- the old value goes to rd
  abbrev pub csr_given : ℕ → ℕ → Option SCsrs → Outcome M P
  csr_given rd old None = illegal
  csr_given rd old (Some csrs) = goes_on (set rd old (record s { csrs = csrs }))

  abbrev pub csr_changed : ℕ → CsrChange → ℕ → Option ℕ → Outcome M P
  csr_changed number change rd None = illegal
  csr_changed number change rd (Some old) =
      csr_given rd old (new_csrs s.csrs number s.user (new_value change old))

  abbrev pub csr : ℕ → CsrChange → ℕ → Outcome M P
  csr number change rd =
      csr_changed number change rd (csr_read s.csrs number s.user inputs.lines inputs.time)

  -- ECALL (3.3.1): in U an exception; in S what answers is no part of the hart
  abbrev pub environment_call : Outcome M P
  environment_call = if s.user then Raised environment_call_from_u 0 else Left (Call next)

  -- SRET (3.3.2): the pc is sepc
  abbrev pub returned_to : Outcome M P
  returned_to =
      Went (record s { pc = s.csrs.sepc; user = returns_to_user s.csrs; csrs = return_csrs s.csrs })

  -- ---- the actions

  abbrev pub performed : effects.Action → Outcome M P
  performed (effects.Set rd value) = goes_on (set rd value s)
  performed (effects.Jump target rd link) = jumped target rd link
  performed (effects.Plain access) = plain access
  performed (effects.LoadReserved width va rd) =
      accessed bus s kinds.Load width va (Target kinds.Load va) (reserved width rd)
  performed (effects.StoreConditional width va value rd) =
      accessed bus s kinds.Store width va (Target kinds.Store va) (conditional width value rd)
  performed (effects.Modify op width va value rd) =
      accessed bus s kinds.Store width va (Target kinds.Store va) (modified op width value rd)
  performed (effects.AccessCsr number change rd) = csr number change rd
  performed effects.FenceTranslations = in_supervisor (goes_on s)
  performed effects.Continue = goes_on s
  performed effects.EnvironmentCall = environment_call
  performed effects.Breakpoint = Raised breakpoint s.pc
  performed effects.SupervisorReturn = in_supervisor returned_to
  performed effects.WaitForInterrupt = in_supervisor (Left (Wait next))
