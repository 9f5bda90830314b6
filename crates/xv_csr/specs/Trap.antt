-- Trap entry into S and the return by SRET (Privileged Architecture 20211203, sections 3.3.2,
-- 4.1.1, 4.1.2 and 4.1.7).
use Rattle.std.specs.Prelude.{ℕ, ◌+◌, ◌*◌, ◌/◌, ◌%◌, ◌^◌, ◌==◌, Bool, true, false, not, ◌&&◌}
use Rattle.std.specs.Prelude.{if◌then◌else◌}
use Rattle.xv_csr.specs.declared.SCsrs.{SCsrs}
use Rattle.xv_base.specs.Bits.{has_bit, with_bit}
use Rattle.xv_csr.specs.Cause.{is_interrupt}
use Rattle.xv_csr.specs.Fields.{sie_bit, spie_bit, spp_bit, vectored}

-- sstatus after a trap: SPIE is the old SIE, SIE is 0, and SPP the mode that was left
abbrev pub trap_status : Bool → ℕ → ℕ
trap_status user status =
    with_bit spp_bit (not user)
    (with_bit spie_bit (has_bit sie_bit status) (with_bit sie_bit false status))

-- the registers after a trap that was taken at pc
unfoldable pub trap_csrs : SCsrs → Bool → ℕ → ℕ → ℕ → SCsrs
trap_csrs csrs user cause tval pc =
    record csrs { sstatus = trap_status user csrs.sstatus; sepc = pc; scause = cause; stval = tval }

-- the address of the handler: BASE, and four times the number behind it for an interrupt where the
-- mode of stvec is vectored
unfoldable pub handler : SCsrs → ℕ → ℕ
handler csrs cause =
    let base = csrs.stvec / 4 * 4 in
    if is_interrupt cause
    && csrs.stvec % 4 == vectored then (base + 4 * (cause % 2 ^ 63)) % 2 ^ 64 else base

-- sstatus after SRET: SIE is the old SPIE, SPIE is 1, and SPP is 0
abbrev pub return_status : ℕ → ℕ
return_status status =
    with_bit spp_bit false
    (with_bit spie_bit true (with_bit sie_bit (has_bit spie_bit status) status))

-- the registers after SRET
unfoldable pub return_csrs : SCsrs → SCsrs
return_csrs csrs = record csrs { sstatus = return_status csrs.sstatus }

-- the mode after SRET is U where SPP is 0
unfoldable pub returns_to_user : SCsrs → Bool
returns_to_user csrs = not (has_bit spp_bit csrs.sstatus)
