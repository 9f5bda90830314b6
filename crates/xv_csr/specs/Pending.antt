-- Which interrupts are pending, and which one is taken (Privileged Architecture 20211203, section
-- 4.1.3).
use Rattle.std.specs.Prelude.{ℕ, ◌+◌, ◌^◌, Bool, ◌||◌, if◌then◌else◌, Option, Some, None, bit_and}
use Rattle.xv_csr.specs.declared.SCsrs.{SCsrs}
use Rattle.xv_csr.specs.declared.Lines.{Lines}
use Rattle.xv_base.specs.Bits.{has_bit}
use Rattle.xv_csr.specs.Cause.{software_interrupt, timer_interrupt, external_interrupt}
use Rattle.xv_csr.specs.Cause.{interrupt_cause}
use Rattle.xv_csr.specs.Fields.{sie_bit}

-- sip
unfoldable pub sip_of : SCsrs → Lines → ℕ
sip_of csrs lines =
    (if csrs.ssip then 2 ^ software_interrupt else 0)
    + (if lines.timer then 2 ^ timer_interrupt else 0)
    + (if lines.external then 2 ^ external_interrupt else 0)

-- sip & sie
unfoldable pub pending : SCsrs → Lines → ℕ
pending csrs lines = bit_and (sip_of csrs lines) csrs.sie

-- of the pending interrupts the external is first, then the software, then the timer
abbrev pub first_of : ℕ → Option ℕ
first_of bits =
    if has_bit external_interrupt bits then Some (interrupt_cause external_interrupt)
    else if has_bit software_interrupt bits then Some (interrupt_cause software_interrupt)
    else if has_bit timer_interrupt bits then Some (interrupt_cause timer_interrupt)
    else None

-- the cause of the interrupt that is taken: one that is pending, in U always and in S where SIE is
-- 1
unfoldable pub chosen_interrupt : SCsrs → Bool → Lines → Option ℕ
chosen_interrupt csrs user lines =
    if user || has_bit sie_bit csrs.sstatus then first_of (pending csrs lines) else None
