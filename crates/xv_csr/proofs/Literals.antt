-- What an answer unfolds to compute what the CSRs keep of flags and of values that are written out.
use Rattle.std.specs.Prelude.{⊤}
use Rattle.bitflags.proofs.OnLiterals.{bitflags_on_literals}
use Rattle.xv_csr.specs.Kept.{kept_sstatus, kept_sie, kept_stvec, kept_scounteren, kept_senvcfg}
use Rattle.xv_csr.specs.Kept.{kept_sepc, kept_satp}
use Rattle.xv_csr.specs.Reset.{reset_csrs}

unfoldable pub kept_flags : ⊤
unfolding kept_sstatus kept_sie bitflags_on_literals
kept_flags = tt

unfoldable pub kept_at_reset : ⊤
unfolding reset_csrs kept_sstatus kept_sie kept_stvec kept_scounteren kept_senvcfg
    kept_sepc kept_satp
kept_at_reset = tt
