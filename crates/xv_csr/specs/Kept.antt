-- What each supervisor CSR keeps of a value that is written to it (Privileged Architecture
-- 20211203, section 4.1). A bit that isn't kept reads as 0, but for the read-only UXL of sstatus.
use Rattle.std.specs.Prelude.{◌≡◌, ℕ, ◌+◌, ◌*◌, ◌/◌, ◌%◌, ◌^◌, ◌==◌, ◌||◌, if◌then◌else◌, []}
use Rattle.std.specs.Prelude.{◌∷◌, bit_and}
use Rattle.xv_csr.specs.declared.SCsrs.{SCsrs}
use Rattle.xv_base.specs.Bits.{mask}
use Rattle.xv_csr.specs.Cause.{software_interrupt, timer_interrupt, external_interrupt}
use Rattle.xv_csr.specs.Fields.{sie_bit, spie_bit, spp_bit, sum_bit, mxr_bit, uxl, vectored, tm_bit}
use Rattle.xv_csr.specs.Fields.{fiom_bit, instruction_alignment}

-- sstatus (4.1.1): SIE, SPIE, SPP, SUM and MXR, beside the read-only UXL
unfoldable pub kept_sstatus : ℕ → ℕ
kept_sstatus value =
    bit_and value (mask (sie_bit ∷ spie_bit ∷ spp_bit ∷ sum_bit ∷ mxr_bit ∷ [])) + uxl

-- sie (4.1.3)
unfoldable pub kept_sie : ℕ → ℕ
kept_sie value =
    bit_and value (mask (software_interrupt ∷ timer_interrupt ∷ external_interrupt ∷ []))

-- stvec (4.1.2): BASE 63:2, and the mode, vectored or else 0 (direct)
unfoldable pub kept_stvec : ℕ → ℕ
kept_stvec value = value / 4 * 4 + (if value % 4 == vectored then vectored else 0)

-- scounteren (4.1.5): TM alone
unfoldable pub kept_scounteren : ℕ → ℕ
kept_scounteren value = bit_and value (mask (tm_bit ∷ []))

-- senvcfg (4.1.10): FIOM alone
unfoldable pub kept_senvcfg : ℕ → ℕ
kept_senvcfg value = bit_and value (mask (fiom_bit ∷ []))

-- sepc (4.1.7): an instruction's address
unfoldable pub kept_sepc : ℕ → ℕ
kept_sepc value = value / instruction_alignment * instruction_alignment

-- satp (4.1.11): MODE 63:60 and PPN 43:0 where MODE is 0 (Bare) or 8 (Sv39). Any other MODE has no
-- effect at all
unfoldable pub kept_satp : ℕ → ℕ → ℕ
kept_satp old value =
    if value / 2 ^ 60 == 0 || value / 2 ^ 60 == 8
    then value / 2 ^ 60 * 2 ^ 60 + value % 2 ^ 44 else old

-- each register holds what a write of it would keep
pub record IsKept (csrs : SCsrs) : Type 0 where
  pub sstatus : kept_sstatus csrs.sstatus ≡ csrs.sstatus
  pub sie : kept_sie csrs.sie ≡ csrs.sie
  pub stvec : kept_stvec csrs.stvec ≡ csrs.stvec
  pub scounteren : kept_scounteren csrs.scounteren ≡ csrs.scounteren
  pub senvcfg : kept_senvcfg csrs.senvcfg ≡ csrs.senvcfg
  pub sepc : kept_sepc csrs.sepc ≡ csrs.sepc
  pub satp : kept_satp 0 csrs.satp ≡ csrs.satp
