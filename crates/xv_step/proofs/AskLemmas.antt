-- What is asked for an instruction's access is asked by the one whose word is fetched at the pc.
use Rattle.std.proofs.Common.{◌≡◌, ℕ, ◌%◌, ◌==◌, Bool, true, false, cond, Option, Some, None, refl}
use Rattle.std.proofs.Common.{option_map, sym, subst, arith}
use Rattle.xv_isa.specs.declared.instruction.Insn.{Insn}
use Rattle.xv_isa.specs.declared.rows.Op.{Op}
use Rattle.xv_isa.specs.Effects as effects
use Rattle.xv_isa.specs.Effects.{CsrChange, effect_of}
use Rattle.xv_isa.specs.Length.{fetch_width, next_pc}
use Rattle.xv_isa.specs.Operands.{decode_of}
use Rattle.xv_csr.specs.declared.SCsrs.{SCsrs}
use Rattle.xv_csr.specs.Cause.{instruction_address_misaligned, illegal_instruction}
use Rattle.xv_csr.specs.Cause.{environment_call_from_u}
use Rattle.xv_csr.specs.Fields.{instruction_alignment}
use Rattle.xv_csr.specs.Pending.{chosen_interrupt}
use Rattle.xv_csr.specs.Table.{csr_read}
use Rattle.xv_pte.specs.declared.access.Kind3.TheVariants as kinds
use Rattle.xv_pte.specs.declared.access.Kind3.{Kind3}
use Rattle.xv_pte.specs.Sv39.{Verdict, Address, PageFault, NoEntry, verdict}
use Rattle.xv_pte.proofs.Lacking.{verdict_offset}
use Rattle.xv_step.specs.Bus.{Bus, Spot, reader}
use Rattle.xv_step.specs.State.{State, set, at_pc, view}
use Rattle.xv_step.specs.Outcome.{Ask, TableEntry, Target, Plain, Call, Wait, Outcome, Went, Raised}
use Rattle.xv_step.specs.Outcome.{Left, address_of, misaligned}
use Rattle.xv_step.specs.Memory as memory
use Rattle.xv_step.specs.Perform as perform
use Rattle.xv_step.specs.Perform.{Inputs}
use Rattle.xv_step.specs.Step as step

-- what an LR, an SC or an AMO asks
pub data IsAtomic : effects.Action → Type 0 where
  LoadReserved : (width va rd : ℕ) → IsAtomic (effects.LoadReserved width va rd)
  StoreConditional : (width va value rd : ℕ)
      → IsAtomic (effects.StoreConditional width va value rd)
  Modify : (op : Op) → (width va value rd : ℕ) → IsAtomic (effects.Modify op width va value rd)

same_low_bits : (va gpa : ℕ) → gpa % 4096 ≡ va % 4096 → va % 4 ≡ gpa % 4
same_low_bits va gpa offset = omega arith

module _ {M P : Type 0} (bus : Bus M P) (s : State M P) where
  -- an instruction, and its word as it is fetched at the pc
  pub record AtPc : Type 0 where
    pub word : ℕ
    pub insn : Insn
    pub fetched : step.fetched_word bus s ≡ Some word
    pub decoded : decode_of word ≡ Some insn

  -- it asks for this plain access, whose address leads to gpa
  pub record AsksPlain (access : effects.Access) (gpa next : ℕ) : Type 0 where
    pub at : AtPc
    pub effect : effect_of at.insn s.x s.pc next ≡ effects.Plain access
    pub low_bits : address_of access % 4 ≡ gpa % 4

  pub record AsksAtomic : Type 0 where
    pub at : AtPc
    pub next : ℕ
    pub effect : IsAtomic (effect_of at.insn s.x s.pc next)

  abbrev pub IsOfWord : Ask → Type 0
  IsOfWord (TableEntry access va gpa) = Unit {0}
  IsOfWord (Target kinds.Fetch va gpa) = Unit {0}
  IsOfWord (Target kinds.Load va gpa) = AsksAtomic
  IsOfWord (Target kinds.Store va gpa) = AsksAtomic
  IsOfWord (Plain access gpa next) = AsksPlain access gpa next
  IsOfWord (Call next) = Unit {0}
  IsOfWord (Wait next) = Unit {0}

  abbrev pub LeavesWord : Outcome M P → Type 0
  LeavesWord (Went t) = Unit {0}
  LeavesWord (Raised cause tval) = Unit {0}
  LeavesWord (Left ask) = IsOfWord ask

  either_asks : (b : Bool) (one other : Outcome M P) → LeavesWord one → LeavesWord other
      → LeavesWord (cond b one other)
  either_asks true one other of_one of_other = of_one
  either_asks false one other of_one of_other = of_other

  module _ (access : Kind3) (width va : ℕ) (lacks : ℕ → Ask) (done : P → Outcome M P)
      (asks : (gpa : ℕ) → va % 4 ≡ gpa % 4 → IsOfWord (lacks gpa)) (leaves : (place : P)
      → LeavesWord (done place)) where
    spot_asks : (gpa : ℕ) (usable : Option (Spot P)) → va % 4 ≡ gpa % 4
        → LeavesWord (memory.at_spot bus s access width va lacks done gpa usable)
    spot_asks gpa None low = asks gpa low
    spot_asks gpa (Some spot) low = leaves spot.place

    verdict_asks : (v : Verdict) → verdict (reader bus s.memory) (view s) va access ≡ v
        → LeavesWord (memory.by_verdict bus s access width va lacks done v)
    verdict_asks (Address gpa) is =
        spot_asks gpa (memory.usable_spot access (bus.find width gpa))
        (same_low_bits va gpa (verdict_offset (reader bus s.memory) (view s) va access gpa is))
    verdict_asks PageFault is = tt {0}
    verdict_asks (NoEntry gpa) is = tt {0}

    accessed_asks : LeavesWord (memory.accessed bus s access width va lacks done)
    accessed_asks =
        either_asks (va % width == 0) (memory.translated bus s access width va lacks done)
        (Raised (misaligned access) va)
        (verdict_asks (verdict (reader bus s.memory) (view s) va access) refl) (tt {0})

  module _ (inputs : Inputs) (at : AtPc) (next : ℕ) where
    csr_given_asks : (rd old : ℕ) (csrs : Option SCsrs)
        → LeavesWord (perform.csr_given bus inputs at.word next s rd old csrs)
    csr_given_asks rd old None = tt {0}
    csr_given_asks rd old (Some csrs) = tt {0}

    csr_changed_asks : (number : ℕ) (change : CsrChange) (rd : ℕ) (old : Option ℕ)
        → LeavesWord (perform.csr_changed bus inputs at.word next s number change rd old)
    csr_changed_asks number change rd None = tt {0}
    csr_changed_asks number change rd (Some old) =
        csr_given_asks rd old (perform.new_csrs s.csrs number s.user (perform.new_value change old))

    in_supervisor_asks : (done : Outcome M P) → LeavesWord done
        → LeavesWord (perform.in_supervisor bus inputs at.word next s done)
    in_supervisor_asks done leaves =
        either_asks s.user (Raised illegal_instruction at.word) done (tt {0}) leaves

    conditional_asks : (width value rd : ℕ) (place : P)
        → LeavesWord (perform.conditional bus inputs at.word next s width value rd place)
    conditional_asks width value rd place =
        either_asks (perform.is_reserved bus width place s.held)
        (perform.goes_on bus inputs at.word next s
        (set rd 0 (record s { held = None; memory = bus.put s.memory width place value })))
        (perform.goes_on bus inputs at.word next s (set rd 1 (record s { held = None }))) (tt {0})
        (tt {0})

    plain_asks : (access : effects.Access)
        → effect_of at.insn s.x s.pc next ≡ effects.Plain access
        → LeavesWord (perform.plain bus inputs at.word next s access)
    plain_asks (effects.Load width signed va rd) is =
        accessed_asks kinds.Load width va (λ gpa. Plain (effects.Load width signed va rd) gpa next)
        (perform.loaded bus inputs at.word next s width signed rd)
        (λ gpa low. record { at = at; effect = is; low_bits = low }) (λ place. tt {0})
    plain_asks (effects.Store width va value) is =
        accessed_asks kinds.Store width va (λ gpa. Plain (effects.Store width va value) gpa next)
        (perform.stored bus inputs at.word next s width value)
        (λ gpa low. record { at = at; effect = is; low_bits = low }) (λ place. tt {0})

    atomic : (action : effects.Action) → effect_of at.insn s.x s.pc next ≡ action
        → IsAtomic action → AsksAtomic
    atomic action is of_action =
        record { at = at; next = next; effect = subst IsAtomic (sym is) of_action }

    performed_asks : (action : effects.Action) → effect_of at.insn s.x s.pc next ≡ action
        → LeavesWord (perform.performed bus inputs at.word next s action)
    performed_asks (effects.Set rd value) is = tt {0}
    performed_asks (effects.Jump target rd link) is =
        either_asks (target % instruction_alignment == 0) (Went (at_pc target (set rd link s)))
        (Raised instruction_address_misaligned target) (tt {0}) (tt {0})
    performed_asks (effects.Plain access) is = plain_asks access is
    performed_asks (effects.LoadReserved width va rd) is =
        accessed_asks kinds.Load width va (Target kinds.Load va)
        (perform.reserved bus inputs at.word next s width rd)
        (λ gpa low. atomic (effects.LoadReserved width va rd) is (LoadReserved width va rd))
        (λ place. tt {0})
    performed_asks (effects.StoreConditional width va value rd) is =
        accessed_asks kinds.Store width va (Target kinds.Store va)
        (perform.conditional bus inputs at.word next s width value rd)
        (λ gpa low. atomic (effects.StoreConditional width va value rd) is
        (StoreConditional width va value rd))
        (conditional_asks width value rd)
    performed_asks (effects.Modify op width va value rd) is =
        accessed_asks kinds.Store width va (Target kinds.Store va)
        (perform.modified bus inputs at.word next s op width value rd)
        (λ gpa low. atomic (effects.Modify op width va value rd) is (Modify op width va value rd))
        (λ place. tt {0})
    performed_asks (effects.AccessCsr number change rd) is =
        csr_changed_asks number change rd (csr_read s.csrs number s.user inputs.lines inputs.time)
    performed_asks effects.FenceTranslations is =
        in_supervisor_asks (perform.goes_on bus inputs at.word next s s) (tt {0})
    performed_asks effects.Continue is = tt {0}
    performed_asks effects.EnvironmentCall is =
        either_asks s.user (Raised environment_call_from_u 0) (Left (Call next)) (tt {0}) (tt {0})
    performed_asks effects.Breakpoint is = tt {0}
    performed_asks effects.SupervisorReturn is =
        in_supervisor_asks (perform.returned_to bus inputs at.word next s) (tt {0})
    performed_asks effects.WaitForInterrupt is = in_supervisor_asks (Left (Wait next)) (tt {0})

  module _ (inputs : Inputs) where
    executed_asks : (word : ℕ) (decoded : Option Insn) → step.fetched_word bus s ≡ Some word
        → decode_of word ≡ decoded → LeavesWord (step.executed bus inputs s word decoded)
    executed_asks word None fetched is = tt {0}
    executed_asks word (Some i) fetched is =
        let next = next_pc s.pc word in
        performed_asks inputs
        (record { word = word; insn = i; fetched = fetched; decoded = is }) next
        (effect_of i s.x s.pc next) refl

    found_asks : (gpa : ℕ) (found : Option (Spot P))
        → step.fetched_word bus s ≡ option_map (λ spot. step.word_at bus s spot.place) found
        → LeavesWord (memory.at_spot bus s kinds.Fetch fetch_width s.pc (Target kinds.Fetch s.pc)
        (step.at_word bus inputs s) gpa found)
    found_asks gpa None is = tt {0}
    found_asks gpa (Some spot) is =
        let word = step.word_at bus s spot.place in
        executed_asks word (decode_of word) is refl

    fetched_asks : (v : Verdict) → step.fetched_word bus s ≡ step.word_by bus s v
        → LeavesWord (memory.by_verdict bus s kinds.Fetch fetch_width s.pc (Target kinds.Fetch s.pc)
        (step.at_word bus inputs s) v)
    fetched_asks (Address gpa) is = found_asks gpa (bus.find fetch_width gpa) is
    fetched_asks PageFault is = tt {0}
    fetched_asks (NoEntry gpa) is = tt {0}

    interrupted_asks : (cause : Option ℕ) → LeavesWord (step.interrupted bus inputs s cause)
    interrupted_asks None =
        fetched_asks (verdict (reader bus s.memory) (view s) s.pc kinds.Fetch) refl
    interrupted_asks (Some cause) = tt {0}

    pub step_asks : LeavesWord (step.step bus inputs s)
    unfolding step.step
    step_asks = interrupted_asks (chosen_interrupt s.csrs s.user inputs.lines)
