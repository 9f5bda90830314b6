-- The supervisor CSRs after a reset.
use Rattle.std.specs.Prelude.{false}
use Rattle.xv_csr.specs.declared.SCsrs.{SCsrs}
use Rattle.xv_csr.specs.Fields.{uxl}

-- 0 in each, but for the read-only UXL of sstatus
unfoldable pub reset_csrs : SCsrs
reset_csrs = record {
  sstatus = uxl;
  sie = 0;
  ssip = false;
  stvec = 0;
  scounteren = 0;
  senvcfg = 0;
  sscratch = 0;
  sepc = 0;
  scause = 0;
  stval = 0;
  satp = 0;
}
