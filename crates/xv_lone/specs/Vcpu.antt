-- One VCPU by itself.
use Rattle.std.specs.Prelude.{ℕ, ◌-◌, ◌^◌, false, slice_set, replicate}
use Rattle.xv_csr.specs.Reset.{reset_csrs}
use Rattle.xv_lone.specs.declared.vcpu.VcpuView.{VcpuView}
use Rattle.xv_lone.specs.declared.vcpu.HartState.TheVariants.{Started, Stopped}

-- Reset values: every register 0, mode S, supervisor CSRs 0 but for the read-only UXL, no timer
-- set, and the hart stopped.
abbrev pub reset_vcpu : ℕ → VcpuView
reset_vcpu start = record {
  x = replicate 32 0;
  pc = start;
  user = false;
  csrs = reset_csrs;
  timer = 2 ^ 64 - 1;
  hart = Stopped;
}

-- a guest begins to run: the VCPU is started, with a0 and a1 0
abbrev pub kicked_vcpu : VcpuView → VcpuView
kicked_vcpu v = record v { x = slice_set (slice_set v.x 10 0) 11 0; hart = Started }
