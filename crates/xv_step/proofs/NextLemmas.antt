-- What is left of an instruction carries where the next one stands, and what is raised is one of
-- nine exceptions.
use Rattle.std.proofs.Common.{◌≡◌, ℕ, ◌%◌, ◌==◌, Bool, true, false, cond, Option, Some, None, refl}
use Rattle.xv_isa.specs.declared.instruction.Insn.{Insn}
use Rattle.xv_isa.specs.Effects as effects
use Rattle.xv_isa.specs.Effects.{CsrChange, effect_of}
use Rattle.xv_isa.specs.Length.{fetch_width, next_pc}
use Rattle.xv_isa.specs.Operands.{decode_of}
use Rattle.xv_csr.specs.declared.SCsrs.{SCsrs}
use Rattle.xv_csr.specs.Cause.{instruction_address_misaligned, illegal_instruction, breakpoint}
use Rattle.xv_csr.specs.Cause.{load_address_misaligned, store_address_misaligned}
use Rattle.xv_csr.specs.Cause.{environment_call_from_u, instruction_page_fault, load_page_fault}
use Rattle.xv_csr.specs.Cause.{store_page_fault}
use Rattle.xv_csr.specs.Fields.{instruction_alignment}
use Rattle.xv_csr.specs.Pending.{chosen_interrupt}
use Rattle.xv_csr.specs.Table.{csr_read}
use Rattle.xv_pte.specs.declared.access.Kind3.TheVariants as kinds
use Rattle.xv_pte.specs.declared.access.Kind3.{Kind3}
use Rattle.xv_pte.specs.Sv39.{Verdict, Address, PageFault, NoEntry, verdict}
use Rattle.xv_step.specs.Bus.{Bus, Spot, reader}
use Rattle.xv_step.specs.State.{State, set, at_pc, view}
use Rattle.xv_step.specs.Outcome.{Ask, TableEntry, Target, Plain, Call, Wait, Outcome, Went, Raised}
use Rattle.xv_step.specs.Outcome.{Left, misaligned, page_fault}
use Rattle.xv_step.specs.Memory as memory
use Rattle.xv_step.specs.Perform as perform
use Rattle.xv_step.specs.Perform.{Inputs}
use Rattle.xv_step.specs.Step as step

-- next stands behind an instruction at pc
pub record IsNext (pc next : ℕ) : Type 0 where
  pub word : ℕ
  pub is : next ≡ next_pc pc word

abbrev pub AsksNext : (pc : ℕ) → Ask → Type 0
AsksNext pc (TableEntry access va gpa) = Unit {0}
AsksNext pc (Target access va gpa) = Unit {0}
AsksNext pc (Plain access gpa next) = IsNext pc next
AsksNext pc (Call next) = IsNext pc next
AsksNext pc (Wait next) = IsNext pc next

-- the exceptions of a step
pub data IsRaised : ℕ → Type 0 where
  FetchMisaligned : IsRaised instruction_address_misaligned
  Illegal : IsRaised illegal_instruction
  Breakpoint : IsRaised breakpoint
  LoadMisaligned : IsRaised load_address_misaligned
  StoreMisaligned : IsRaised store_address_misaligned
  UserCall : IsRaised environment_call_from_u
  FetchPageFault : IsRaised instruction_page_fault
  LoadPageFault : IsRaised load_page_fault
  StorePageFault : IsRaised store_page_fault

misaligned_raised : (access : Kind3) → IsRaised (misaligned access)
misaligned_raised kinds.Fetch = FetchMisaligned
misaligned_raised kinds.Load = LoadMisaligned
misaligned_raised kinds.Store = StoreMisaligned

page_fault_raised : (access : Kind3) → IsRaised (page_fault access)
page_fault_raised kinds.Fetch = FetchPageFault
page_fault_raised kinds.Load = LoadPageFault
page_fault_raised kinds.Store = StorePageFault

abbrev pub LeavesNext : {M P : Type 0} → (pc : ℕ) → Outcome M P → Type 0
LeavesNext pc (Went s) = Unit {0}
LeavesNext pc (Raised cause tval) = IsRaised cause
LeavesNext pc (Left ask) = AsksNext pc ask

module _ {M P : Type 0} (bus : Bus M P) (s : State M P) where
  module _ (access : Kind3) (width va : ℕ) (lacks : ℕ → Ask) (done : P → Outcome M P)
      (asks : (gpa : ℕ) → AsksNext s.pc (lacks gpa)) (leaves : (place : P)
      → LeavesNext s.pc (done place)) where
    spot_next : (gpa : ℕ) (usable : Option (Spot P))
        → LeavesNext s.pc (memory.at_spot bus s access width va lacks done gpa usable)
    spot_next gpa None = asks gpa
    spot_next gpa (Some spot) = leaves spot.place

    verdict_next : (v : Verdict)
        → LeavesNext s.pc (memory.by_verdict bus s access width va lacks done v)
    verdict_next (Address gpa) = spot_next gpa (memory.usable_spot access (bus.find width gpa))
    verdict_next PageFault = page_fault_raised access
    verdict_next (NoEntry gpa) = tt {0}

    translated_next : LeavesNext s.pc (memory.translated bus s access width va lacks done)
    translated_next = verdict_next (verdict (reader bus s.memory) (view s) va access)

    accessed_next : LeavesNext s.pc (memory.accessed bus s access width va lacks done)
    accessed_next = by_alignment (va % width == 0)
      where
        by_alignment : (aligned : Bool)
            → LeavesNext s.pc (cond aligned (memory.translated bus s access width va lacks done)
            (Raised (misaligned access) va))
        by_alignment true = translated_next
        by_alignment false = misaligned_raised access

  module _ (inputs : Inputs) (word next : ℕ) (is : IsNext s.pc next) where
    in_supervisor_next : (done : Outcome M P) → LeavesNext s.pc done
        → LeavesNext s.pc (perform.in_supervisor bus inputs word next s done)
    in_supervisor_next done leaves = by_mode s.user
      where
        by_mode : (user : Bool) → LeavesNext s.pc (cond user (Raised illegal_instruction word) done)
        by_mode true = Illegal
        by_mode false = leaves

    environment_call_next : LeavesNext s.pc (perform.environment_call bus inputs word next s)
    environment_call_next = by_mode s.user
      where
        by_mode : (user : Bool) → LeavesNext {M = M} {P = P} s.pc
            (cond user (Raised environment_call_from_u 0) (Left (Call next)))
        by_mode true = UserCall
        by_mode false = is

    jumped_next : (target rd link : ℕ)
        → LeavesNext s.pc (perform.jumped bus inputs word next s target rd link)
    jumped_next target rd link = by_alignment (target % instruction_alignment == 0)
      where
        by_alignment : (aligned : Bool) → LeavesNext s.pc
            (cond aligned (Went (at_pc target (set rd link s)))
            (Raised instruction_address_misaligned target))
        by_alignment true = tt {0}
        by_alignment false = FetchMisaligned

    conditional_next : (width value rd : ℕ) (place : P)
        → LeavesNext s.pc (perform.conditional bus inputs word next s width value rd place)
    conditional_next width value rd place = by_held (perform.is_reserved bus width place s.held)
      where
        by_held : (held : Bool)
            → LeavesNext s.pc
            (cond held (perform.goes_on bus inputs word next s
            (set rd 0 (record s { held = None; memory = bus.put s.memory width place value })))
            (perform.goes_on bus inputs word next s (set rd 1 (record s { held = None }))))
        by_held true = tt {0}
        by_held false = tt {0}

    csr_given_next : (rd old : ℕ) (csrs : Option SCsrs)
        → LeavesNext s.pc (perform.csr_given bus inputs word next s rd old csrs)
    csr_given_next rd old None = Illegal
    csr_given_next rd old (Some csrs) = tt {0}

    csr_changed_next : (number : ℕ) (change : CsrChange) (rd : ℕ) (old : Option ℕ)
        → LeavesNext s.pc (perform.csr_changed bus inputs word next s number change rd old)
    csr_changed_next number change rd None = Illegal
    csr_changed_next number change rd (Some old) =
        csr_given_next rd old (perform.new_csrs s.csrs number s.user (perform.new_value change old))

    plain_next : (access : effects.Access)
        → LeavesNext s.pc (perform.plain bus inputs word next s access)
    plain_next (effects.Load width signed va rd) =
        accessed_next kinds.Load width va (λ gpa. Plain (effects.Load width signed va rd) gpa next)
        (perform.loaded bus inputs word next s width signed rd) (λ gpa. is) (λ place. tt {0})
    plain_next (effects.Store width va value) =
        accessed_next kinds.Store width va (λ gpa. Plain (effects.Store width va value) gpa next)
        (perform.stored bus inputs word next s width value) (λ gpa. is) (λ place. tt {0})

    performed_next : (action : effects.Action)
        → LeavesNext s.pc (perform.performed bus inputs word next s action)
    performed_next (effects.Set rd value) = tt {0}
    performed_next (effects.Jump target rd link) = jumped_next target rd link
    performed_next (effects.Plain access) = plain_next access
    performed_next (effects.LoadReserved width va rd) =
        accessed_next kinds.Load width va (Target kinds.Load va)
        (perform.reserved bus inputs word next s width rd) (λ gpa. tt {0}) (λ place. tt {0})
    performed_next (effects.StoreConditional width va value rd) =
        accessed_next kinds.Store width va (Target kinds.Store va)
        (perform.conditional bus inputs word next s width value rd) (λ gpa. tt {0})
        (conditional_next width value rd)
    performed_next (effects.Modify op width va value rd) =
        accessed_next kinds.Store width va (Target kinds.Store va)
        (perform.modified bus inputs word next s op width value rd) (λ gpa. tt {0})
        (λ place. tt {0})
    performed_next (effects.AccessCsr number change rd) =
        csr_changed_next number change rd (csr_read s.csrs number s.user inputs.lines inputs.time)
    performed_next effects.FenceTranslations =
        in_supervisor_next (perform.goes_on bus inputs word next s s) (tt {0})
    performed_next effects.Continue = tt {0}
    performed_next effects.EnvironmentCall = environment_call_next
    performed_next effects.Breakpoint = Breakpoint
    performed_next effects.SupervisorReturn =
        in_supervisor_next (perform.returned_to bus inputs word next s) (tt {0})
    performed_next effects.WaitForInterrupt = in_supervisor_next (Left (Wait next)) is

  module _ (inputs : Inputs) where
    executed_next : (word : ℕ) (decoded : Option Insn)
        → LeavesNext s.pc (step.executed bus inputs s word decoded)
    executed_next word None = Illegal
    executed_next word (Some i) =
        let next = next_pc s.pc word in
        performed_next inputs word next (record { word = word; is = refl })
        (effect_of i s.x s.pc next)

    at_word_next : (place : P) → LeavesNext s.pc (step.at_word bus inputs s place)
    at_word_next place =
        executed_next (bus.get s.memory fetch_width place)
        (decode_of (bus.get s.memory fetch_width place))

    interrupted_next : (cause : Option ℕ) → LeavesNext s.pc (step.interrupted bus inputs s cause)
    interrupted_next None =
        translated_next kinds.Fetch fetch_width s.pc (Target kinds.Fetch s.pc)
        (step.at_word bus inputs s) (λ gpa. tt {0}) at_word_next
    interrupted_next (Some cause) = tt {0}

    pub step_next : LeavesNext s.pc (step.step bus inputs s)
    unfolding step.step
    step_next = interrupted_next (chosen_interrupt s.csrs s.user inputs.lines)
