-- The supervisor CSRs by number: which there are, what a read gives and what a write leaves.
use Rattle.std.specs.Prelude.{ℕ, ◌==◌, Bool, true, false, if◌then◌else◌, List, [], ◌∷◌, Option}
use Rattle.std.specs.Prelude.{Some, None, option_and_then}
use Rattle.xv_csr.specs.declared.SCsrs.{SCsrs}
use Rattle.xv_csr.specs.declared.Lines.{Lines}
use Rattle.xv_csr.specs.declared.Register.{Register}
use Rattle.xv_csr.specs.declared.Register.TheVariants.{Sstatus, Sie, Stvec, Scounteren, Senvcfg}
use Rattle.xv_csr.specs.declared.Register.TheVariants.{Sscratch, Sepc, Scause, Stval, Sip, Satp}
use Rattle.xv_csr.specs.declared.Register.TheVariants.{Time}
use Rattle.xv_base.specs.Bits.{has_bit}
use Rattle.xv_csr.specs.Cause.{software_interrupt}
use Rattle.xv_csr.specs.Fields.{tm_bit}
use Rattle.xv_csr.specs.Kept.{kept_sstatus, kept_sie, kept_stvec, kept_scounteren, kept_senvcfg}
use Rattle.xv_csr.specs.Kept.{kept_sepc, kept_satp}
use Rattle.xv_csr.specs.Pending.{sip_of}

-- number and register (Privileged Architecture 20211203, section 2.2)
abbrev pub rows : List (ℕ × Register)
rows =
    (0x100, Sstatus) ∷ (0x104, Sie) ∷ (0x105, Stvec) ∷ (0x106, Scounteren) ∷ (0x10A, Senvcfg)
    ∷ (0x140, Sscratch) ∷ (0x141, Sepc) ∷ (0x142, Scause) ∷ (0x143, Stval) ∷ (0x144, Sip)
    ∷ (0x180, Satp) ∷ (0xC01, Time) ∷ []

-- the register that has the number among the rows
abbrev pub register_among : List (ℕ × Register) → ℕ → Option Register
register_among [] number = None
register_among (row ∷ others) number =
    if row.0 == number then Some row.1 else register_among others number

unfoldable pub register_of : ℕ → Option Register
register_of number = register_among rows number

-- S reads each register; U reads time alone, and only where TM of scounteren is set
abbrev pub may_read : SCsrs → Bool → Register → Bool
may_read csrs false register = true
may_read csrs true Time = has_bit tm_bit csrs.scounteren
may_read csrs true register = false

-- what a read gives
abbrev pub register_read : SCsrs → Lines → ℕ → Register → ℕ
register_read csrs lines time Sstatus = csrs.sstatus
register_read csrs lines time Sie = csrs.sie
register_read csrs lines time Stvec = csrs.stvec
register_read csrs lines time Scounteren = csrs.scounteren
register_read csrs lines time Senvcfg = csrs.senvcfg
register_read csrs lines time Sscratch = csrs.sscratch
register_read csrs lines time Sepc = csrs.sepc
register_read csrs lines time Scause = csrs.scause
register_read csrs lines time Stval = csrs.stval
register_read csrs lines time Sip = sip_of csrs lines
register_read csrs lines time Satp = csrs.satp
register_read csrs lines time Time = time

-- what a write leaves, or none at the read-only time
abbrev pub register_written : SCsrs → ℕ → Register → Option SCsrs
register_written csrs value Sstatus = Some (record csrs { sstatus = kept_sstatus value })
register_written csrs value Sie = Some (record csrs { sie = kept_sie value })
register_written csrs value Stvec = Some (record csrs { stvec = kept_stvec value })
register_written csrs value Scounteren = Some (record csrs { scounteren = kept_scounteren value })
register_written csrs value Senvcfg = Some (record csrs { senvcfg = kept_senvcfg value })
register_written csrs value Sscratch = Some (record csrs { sscratch = value })
register_written csrs value Sepc = Some (record csrs { sepc = kept_sepc value })
register_written csrs value Scause = Some (record csrs { scause = value })
register_written csrs value Stval = Some (record csrs { stval = value })
register_written csrs value Sip = Some (record csrs { ssip = has_bit software_interrupt value })
register_written csrs value Satp = Some (record csrs { satp = kept_satp csrs.satp value })
register_written csrs value Time = None

-- what a read of a CSR by its number gives in U or in S, or none where it is refused
unfoldable pub csr_read : SCsrs → ℕ → Bool → Lines → ℕ → Option ℕ
csr_read csrs number user lines time =
    option_and_then (λ register. if may_read csrs user register
    then Some (register_read csrs lines time register) else None) (register_of number)

-- what a write of a CSR by its number leaves, or none where it is refused: always in U
unfoldable pub csr_written : SCsrs → ℕ → Bool → ℕ → Option SCsrs
csr_written csrs number user value =
    if user then None else option_and_then (λ register. register_written csrs value register)
    (register_of number)
