-- The hypervisor CSRs under which a guest runs (Privileged Architecture 20211203, section 8.2).
use Rattle.std.specs.Prelude.{ℕ, ◌≡◌, ◌+◌, ◌*◌, ◌^◌, ◌<◌, true, List, [], ◌∷◌}
use Rattle.xv_base.specs.Bits.{has_bit, mask}
use Rattle.xv_hcsr.specs.declared.HCsrs.{HCsrs}
use Rattle.xv_hcsr.specs.Stage.{root_of, vmid_of}

-- the exceptions that enter the guest: misaligned fetch 0, illegal instruction 2, breakpoint 3,
-- misaligned load 4 and store 6, call from U 8, page fault of a fetch 12, of a load 13 and of a
-- store 15
abbrev pub guest_exceptions : List ℕ
guest_exceptions = 0 ∷ 2 ∷ 3 ∷ 4 ∷ 6 ∷ 8 ∷ 12 ∷ 13 ∷ 15 ∷ []

-- the interrupts that enter the guest: software 2, timer 6 and external 10 of VS
abbrev pub guest_interrupts : List ℕ
guest_interrupts = 2 ∷ 6 ∷ 10 ∷ []

-- hgatp (8.2.10): MODE 63:60 is 8, Sv39x4; VMID 57:44; PPN 43:0, of the root table of four frames
abbrev pub guest_hgatp : ℕ → ℕ → ℕ
guest_hgatp root vmid = 8 * 2 ^ 60 + vmid * 2 ^ 44 + 4 * root

unfoldable pub guest_hcsrs : ℕ → ℕ → ℕ → HCsrs
guest_hcsrs root vmid delta = record {
  -- hstatus (8.2.1): SPV 7 and VTW 21. VTVM 20 and VTSR 22 are 0
  hstatus = mask (7 ∷ 21 ∷ []);
  -- hedeleg and hideleg (8.2.2), by the numbers of the causes
  hedeleg = mask guest_exceptions;
  hideleg = mask guest_interrupts;
  -- hvip (8.2.3): no line is up
  hvip = 0;
  hgatp = guest_hgatp root vmid;
  -- htimedelta (8.2.7)
  htimedelta = delta;
  -- hcounteren (8.2.6): TM 1 alone
  hcounteren = mask (1 ∷ []);
  -- htval (8.2.8) and htinst (8.2.9): no trap has left the guest
  htval = 0;
  htinst = 0;
}

-- the registers of some guest: what stays as for_guest makes it as long as the guest lives. Lines,
-- htval and htinst change while it runs, and htimedelta is the guest's own
pub record IsForGuest (h : HCsrs) : Type 0 where
  pub stage : h.hgatp ≡ guest_hgatp (root_of h) (vmid_of h)
  pub root : root_of h < 16
  pub vmid : vmid_of h < 16
  pub exceptions : h.hedeleg ≡ mask guest_exceptions
  pub interrupts : h.hideleg ≡ mask guest_interrupts
  pub counters : h.hcounteren ≡ mask (1 ∷ [])
  -- VTW of hstatus
  pub waits : has_bit 21 h.hstatus ≡ true
