-- The registers with which a turn begins.
use Rattle.std.proofs.Common.{◌≡◌, ℕ, ◌+◌, ◌-◌, ◌%◌, ◌^◌, ◌<◌, refl, sym, ap, ◌∙◌, arith}
use Rattle.xv_hcsr.specs.Guest.{guest_hcsrs, IsForGuest}
use Rattle.xv_hcsr.specs.Stage.{root_of}
use Rattle.xv_hcsr.specs.Time.{guest_time, delta_of}
use Rattle.xv_hcsr.proofs.LineLemmas.{with_lines-software}
use Rattle.xv_hart.specs.Step.{IsWellFormed}
use Rattle.xv_lone.specs.declared.vcpu.VcpuView.{VcpuView}
use Rattle.xv_guest.specs.Guest.{Guest, IsView}
use Rattle.xv_host.specs.Change.{time_of}
use Rattle.xv_host.specs.OnHart.{lines_of_vcpu, hcsrs_of_vcpu, regs_of_vcpu}

delta_is : (k delta hvip : ℕ)
    → (record (guest_hcsrs k k delta) { hvip = hvip }).htimedelta ≡ delta
unfolding guest_hcsrs
delta_is k delta hvip = refl

-- guest time is the host's clock with htimedelta
pub begun_time : (g : Guest) (h clock : ℕ) (v : VcpuView)
    → guest_time clock (hcsrs_of_vcpu g h (time_of g clock) v) ≡ time_of g clock
begun_time g h clock v =
    ap (λ delta. (clock + delta) % 2 ^ 64)
    (delta_is g.key (delta_of g.birth) (hcsrs_of_vcpu g h (time_of g clock) v).hvip)
    ∙ (let e : (clock + (2 ^ 64 - g.birth) % 2 ^ 64) % 2 ^ 64 ≡ (clock + (2 ^ 64 - g.birth)) % 2 ^
    64
    = omega arith in e)

root_is : (k delta hvip : ℕ) → k < 16
    → root_of (record (guest_hcsrs k k delta) { hvip = hvip }) ≡ k
unfolding guest_hcsrs
root_is k delta hvip small = omega arith

guest_is : (k delta hvip : ℕ) → k < 16
    → IsForGuest (record (guest_hcsrs k k delta) { hvip = hvip })
unfolding guest_hcsrs
guest_is k delta hvip small = record {
  stage = omega arith;
  root = omega arith;
  vmid = omega arith;
  exceptions = refl;
  interrupts = refl;
  counters = refl;
  waits = refl;
}

pub begun_formed : (g : Guest) (h clock : ℕ) (v : VcpuView) → g.key < 16 → IsView v
    → IsWellFormed (regs_of_vcpu g h clock v)
begun_formed g h clock v small view =
    let t = time_of g clock in
    let lines = lines_of_vcpu g h t v in
    record {
      pc = view.pc;
      csrs = view.csrs;
      guest = guest_is g.key (delta_of g.birth) (hcsrs_of_vcpu g h t v).hvip small;
      software = sym (with_lines-software v.csrs.ssip lines.timer lines.external 0);
    }

pub begun_root : (g : Guest) (h clock : ℕ) (v : VcpuView) → g.key < 16
    → root_of (regs_of_vcpu g h clock v).h ≡ g.key
begun_root g h clock v small =
    root_is g.key (delta_of g.birth) (hcsrs_of_vcpu g h (time_of g clock) v).hvip small
