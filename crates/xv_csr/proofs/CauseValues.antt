-- The constants of the code are the causes of the definitions.
use Rattle.std.proofs.Common.{◌≡◌, [], ◌∷◌, refl}
use Rattle.xv_csr.specs.declared.cause.TheConstants as code
use Rattle.xv_csr.specs.declared.kept.TheConstants.{INSTRUCTION_ALIGNMENT}
use Rattle.xv_csr.specs.Cause as causes
use Rattle.xv_csr.specs.Fields.{instruction_alignment}

exceptions : (code.INSTRUCTION_ADDRESS_MISALIGNED ∷ code.INSTRUCTION_ACCESS_FAULT
    ∷ code.ILLEGAL_INSTRUCTION ∷ code.BREAKPOINT
    ∷ code.LOAD_ADDRESS_MISALIGNED ∷ code.LOAD_ACCESS_FAULT ∷ code.STORE_ADDRESS_MISALIGNED
    ∷ code.STORE_ACCESS_FAULT
    ∷ code.ENVIRONMENT_CALL_FROM_U ∷ code.INSTRUCTION_PAGE_FAULT ∷ code.LOAD_PAGE_FAULT
    ∷ code.STORE_PAGE_FAULT ∷ [])
    ≡ (causes.instruction_address_misaligned ∷ causes.instruction_access_fault
    ∷ causes.illegal_instruction ∷ causes.breakpoint
    ∷ causes.load_address_misaligned ∷ causes.load_access_fault ∷ causes.store_address_misaligned
    ∷ causes.store_access_fault
    ∷ causes.environment_call_from_u ∷ causes.instruction_page_fault ∷ causes.load_page_fault
    ∷ causes.store_page_fault ∷ [])
exceptions = refl

of_hypervisors : (code.ENVIRONMENT_CALL_FROM_VS ∷ code.INSTRUCTION_GUEST_PAGE_FAULT
    ∷ code.LOAD_GUEST_PAGE_FAULT ∷ code.VIRTUAL_INSTRUCTION
    ∷ code.STORE_GUEST_PAGE_FAULT ∷ [])
    ≡ (causes.environment_call_from_vs ∷ causes.instruction_guest_page_fault
    ∷ causes.load_guest_page_fault ∷ causes.virtual_instruction
    ∷ causes.store_guest_page_fault ∷ [])
of_hypervisors = refl

interrupts : (code.INTERRUPT ∷ code.SOFTWARE_INTERRUPT ∷ code.TIMER_INTERRUPT
    ∷ code.EXTERNAL_INTERRUPT ∷ [])
    ≡ (causes.interrupt_cause 0 ∷ causes.software_interrupt ∷ causes.timer_interrupt
    ∷ causes.external_interrupt ∷ [])
interrupts = refl

alignment : INSTRUCTION_ALIGNMENT ≡ instruction_alignment
alignment = refl
