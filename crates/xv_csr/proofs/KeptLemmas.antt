-- Every write, trap and return leaves registers that hold what a write of them would keep.
use Rattle.std.proofs.Common.{◌≡◌, ℕ, ◌^◌, ◌-◌, ◌/◌, ◌⊎◌, Bool, true, false, not, Option, Some}
use Rattle.std.proofs.Common.{None}
use Rattle.std.proofs.Common.{unwrap_or, option_and_then, ◌∙◌, sym, refl, arith}
use Rattle.std.specs.Int.RustNames.{bit_and, bit_or}
use Rattle.std.proofs.lemmas.Bool.Decides.{nat_tests}
use Rattle.xv_csr.specs.declared.SCsrs.{SCsrs}
use Rattle.xv_csr.specs.declared.Register.{Register}
use Rattle.xv_csr.specs.declared.Register.TheVariants.{Sstatus, Sie, Stvec, Scounteren, Senvcfg}
use Rattle.xv_csr.specs.declared.Register.TheVariants.{Sscratch, Sepc, Scause, Stval, Sip, Satp}
use Rattle.xv_csr.specs.declared.Register.TheVariants.{Time}
use Rattle.xv_base.specs.Bits.{has_bit, with_bit}
use Rattle.xv_csr.specs.Fields.{IsInstructionAddress}
use Rattle.xv_csr.specs.Kept.{IsKept, kept_sstatus, kept_sie, kept_stvec, kept_scounteren}
use Rattle.xv_csr.specs.Kept.{kept_senvcfg, kept_sepc, kept_satp}
use Rattle.xv_csr.specs.Reset.{reset_csrs}
use Rattle.xv_csr.specs.Table.{register_written, csr_written, register_of}
use Rattle.xv_csr.specs.Trap.{trap_status, trap_csrs, return_status, return_csrs}
use Rattle.xv_csr.proofs.BitsLemmas.{masked, masked-add, and-and, masked-masked, masked-set}
use Rattle.xv_csr.proofs.BitsLemmas.{masked-clear}

kept_sstatus-masked : (value : ℕ) → kept_sstatus value ≡ masked 0xC0122 0x2_0000_0000 value
unfolding kept_sstatus
kept_sstatus-masked value = sym (masked-add 0xC0122 0x2_0000_0000 value refl)

pub kept_sstatus-kept : (value : ℕ) → kept_sstatus (kept_sstatus value) ≡ kept_sstatus value
kept_sstatus-kept value = simp kept_sstatus-masked (masked-masked 0xC0122 0x2_0000_0000 value)

pub kept_sie-kept : (value : ℕ) → kept_sie (kept_sie value) ≡ kept_sie value
unfolding kept_sie
kept_sie-kept value = and-and 0x222 value

pub kept_scounteren-kept : (value : ℕ)
    → kept_scounteren (kept_scounteren value) ≡ kept_scounteren value
unfolding kept_scounteren
kept_scounteren-kept value = and-and 2 value

pub kept_senvcfg-kept : (value : ℕ) → kept_senvcfg (kept_senvcfg value) ≡ kept_senvcfg value
unfolding kept_senvcfg
kept_senvcfg-kept value = and-and 1 value

pub kept_stvec-kept : (value : ℕ) → kept_stvec (kept_stvec value) ≡ kept_stvec value
unfolding kept_stvec
kept_stvec-kept value = grind (arith, nat_tests)

pub kept_sepc-kept : (value : ℕ) → kept_sepc (kept_sepc value) ≡ kept_sepc value
unfolding kept_sepc
kept_sepc-kept value = omega arith

pub kept_satp-kept : (old value : ℕ) → kept_satp 0 old ≡ old
    → kept_satp 0 (kept_satp old value) ≡ kept_satp old value
unfolding kept_satp
kept_satp-kept old value kept = grind (arith, nat_tests)

-- its MODE is Bare or Sv39
pub satp_mode : (satp : ℕ) → kept_satp 0 satp ≡ satp → (satp / 2 ^ 60 ≡ 0) ⊎ (satp / 2 ^ 60 ≡ 8)
unfolding kept_satp
satp_mode satp kept = grind (arith, nat_tests)

-- a bit that may change does
with_bit-kept : (k : ℕ) (value : Bool) (status : ℕ) → bit_and (2 ^ k) 0xC0122 ≡ 2 ^ k
    → bit_and 0x2_0000_0000 (2 ^ 64 - 1 - 2 ^ k) ≡ 0x2_0000_0000
    → kept_sstatus status ≡ status
    → kept_sstatus (with_bit k value status) ≡ with_bit k value status
with_bit-kept k true status inside apart kept =
    kept_sstatus-masked (bit_or status (2 ^ k)) ∙ masked-set 0xC0122 0x2_0000_0000 status (2 ^ k)
    (sym (kept_sstatus-masked status) ∙ kept) inside
with_bit-kept k false status inside apart kept =
    kept_sstatus-masked (bit_and status (2 ^ 64 - 1 - 2 ^ k))
    ∙ masked-clear 0xC0122 0x2_0000_0000 status (2 ^ 64 - 1 - 2 ^ k)
    (sym (kept_sstatus-masked status) ∙ kept) apart

trap_status-kept : (user : Bool) (status : ℕ) → kept_sstatus status ≡ status
    → kept_sstatus (trap_status user status) ≡ trap_status user status
trap_status-kept user status kept =
    with_bit-kept 8 (not user) _ refl refl
    (with_bit-kept 5 (has_bit 1 status) _ refl refl
    (with_bit-kept 1 false status refl refl kept))

return_status-kept : (status : ℕ) → kept_sstatus status ≡ status
    → kept_sstatus (return_status status) ≡ return_status status
return_status-kept status kept =
    with_bit-kept 8 false _ refl refl
    (with_bit-kept 5 true _ refl refl
    (with_bit-kept 1 (has_bit 5 status) status refl refl kept))

-- what a write of one register leaves
pub register_written-kept : (csrs : SCsrs) (value : ℕ) (register : Register) → IsKept csrs
    → IsKept (unwrap_or (register_written csrs value register) csrs)
register_written-kept csrs value Sstatus kept =
    record {
      sstatus = kept_sstatus-kept value;
      sie = kept.sie;
      stvec = kept.stvec;
      scounteren = kept.scounteren;
      senvcfg = kept.senvcfg;
      sepc = kept.sepc;
      satp = kept.satp;
    }
register_written-kept csrs value Sie kept =
    record {
      sstatus = kept.sstatus;
      sie = kept_sie-kept value;
      stvec = kept.stvec;
      scounteren = kept.scounteren;
      senvcfg = kept.senvcfg;
      sepc = kept.sepc;
      satp = kept.satp;
    }
register_written-kept csrs value Stvec kept =
    record {
      sstatus = kept.sstatus;
      sie = kept.sie;
      stvec = kept_stvec-kept value;
      scounteren = kept.scounteren;
      senvcfg = kept.senvcfg;
      sepc = kept.sepc;
      satp = kept.satp;
    }
register_written-kept csrs value Scounteren kept =
    record {
      sstatus = kept.sstatus;
      sie = kept.sie;
      stvec = kept.stvec;
      scounteren = kept_scounteren-kept value;
      senvcfg = kept.senvcfg;
      sepc = kept.sepc;
      satp = kept.satp;
    }
register_written-kept csrs value Senvcfg kept =
    record {
      sstatus = kept.sstatus;
      sie = kept.sie;
      stvec = kept.stvec;
      scounteren = kept.scounteren;
      senvcfg = kept_senvcfg-kept value;
      sepc = kept.sepc;
      satp = kept.satp;
    }
register_written-kept csrs value Sscratch kept =
    record {
      sstatus = kept.sstatus;
      sie = kept.sie;
      stvec = kept.stvec;
      scounteren = kept.scounteren;
      senvcfg = kept.senvcfg;
      sepc = kept.sepc;
      satp = kept.satp;
    }
register_written-kept csrs value Sepc kept =
    record {
      sstatus = kept.sstatus;
      sie = kept.sie;
      stvec = kept.stvec;
      scounteren = kept.scounteren;
      senvcfg = kept.senvcfg;
      sepc = kept_sepc-kept value;
      satp = kept.satp;
    }
register_written-kept csrs value Scause kept =
    record {
      sstatus = kept.sstatus;
      sie = kept.sie;
      stvec = kept.stvec;
      scounteren = kept.scounteren;
      senvcfg = kept.senvcfg;
      sepc = kept.sepc;
      satp = kept.satp;
    }
register_written-kept csrs value Stval kept =
    record {
      sstatus = kept.sstatus;
      sie = kept.sie;
      stvec = kept.stvec;
      scounteren = kept.scounteren;
      senvcfg = kept.senvcfg;
      sepc = kept.sepc;
      satp = kept.satp;
    }
register_written-kept csrs value Sip kept =
    record {
      sstatus = kept.sstatus;
      sie = kept.sie;
      stvec = kept.stvec;
      scounteren = kept.scounteren;
      senvcfg = kept.senvcfg;
      sepc = kept.sepc;
      satp = kept.satp;
    }
register_written-kept csrs value Satp kept =
    record {
      sstatus = kept.sstatus;
      sie = kept.sie;
      stvec = kept.stvec;
      scounteren = kept.scounteren;
      senvcfg = kept.senvcfg;
      sepc = kept.sepc;
      satp = kept_satp-kept csrs.satp value kept.satp;
    }
register_written-kept csrs value Time kept = kept

pub csr_written-kept : (csrs : SCsrs) (number : ℕ) (user : Bool) (value : ℕ) → IsKept csrs
    → IsKept (unwrap_or (csr_written csrs number user value) csrs)
unfolding csr_written
csr_written-kept csrs number true value kept = kept
csr_written-kept csrs number false value kept = at_register (register_of number)
  where
    at_register : (register : Option Register)
        → IsKept (unwrap_or (option_and_then (λ r. register_written csrs value r) register) csrs)
    at_register None = kept
    at_register (Some register) = register_written-kept csrs value register kept

-- a trap at an instruction's address
pub trap_csrs-kept : (csrs : SCsrs) (user : Bool) (cause tval pc : ℕ) → IsKept csrs
    → IsInstructionAddress pc → IsKept (trap_csrs csrs user cause tval pc)
unfolding trap_csrs kept_sepc
trap_csrs-kept csrs user cause tval pc kept aligned =
    record {
      sstatus = trap_status-kept user csrs.sstatus kept.sstatus;
      sie = kept.sie;
      stvec = kept.stvec;
      scounteren = kept.scounteren;
      senvcfg = kept.senvcfg;
      sepc = omega arith;
      satp = kept.satp;
    }

pub return_csrs-kept : (csrs : SCsrs) → IsKept csrs → IsKept (return_csrs csrs)
unfolding return_csrs
return_csrs-kept csrs kept =
    record {
      sstatus = return_status-kept csrs.sstatus kept.sstatus;
      sie = kept.sie;
      stvec = kept.stvec;
      scounteren = kept.scounteren;
      senvcfg = kept.senvcfg;
      sepc = kept.sepc;
      satp = kept.satp;
    }

pub reset_csrs_kept : IsKept reset_csrs
unfolding reset_csrs kept_sstatus kept_sie kept_stvec kept_scounteren kept_senvcfg
    kept_sepc kept_satp
reset_csrs_kept =
    record {
      sstatus = refl;
      sie = refl;
      stvec = refl;
      scounteren = refl;
      senvcfg = refl;
      sepc = refl;
      satp = refl;
    }
