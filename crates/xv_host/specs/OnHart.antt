-- A VCPU of a guest on the hart: the hart's registers, and the lone machine that they are with the
-- host's bytes.
use Rattle.std.specs.Prelude.{ℕ, ◌≡◌, ◌*◌, ◌<◌, ◌≤◌, ◌++◌, List, [], Option, Some, None, slice_get}
use Rattle.std.specs.Prelude.{slice_set}
use Rattle.std.specs.List.{All}
use Rattle.xv_csr.specs.declared.Lines.{Lines}
use Rattle.xv_hcsr.specs.declared.HCsrs.{HCsrs}
use Rattle.xv_hcsr.specs.Guest.{guest_hcsrs}
use Rattle.xv_hcsr.specs.Lines.{with_lines}
use Rattle.xv_hcsr.specs.Stage.{root_of}
use Rattle.xv_hcsr.specs.Time as hcsr
use Rattle.xv_region.specs.Rules.{Accepted}
use Rattle.xv_step.specs.State.{held_as}
use Rattle.xv_hart.specs.declared.regs.Held as hart
use Rattle.xv_hart.specs.declared.regs.Regs.{Regs}
use Rattle.xv_hart.specs.Step as hart_step
use Rattle.xv_lone.specs.declared.vcpu.HartState.{HartState}
use Rattle.xv_lone.specs.declared.vcpu.HartState.TheVariants.{Started}
use Rattle.xv_lone.specs.declared.vcpu.TurnEnd.{TurnEnd}
use Rattle.xv_lone.specs.declared.vcpu.TurnEnd.TheVariants as ends
use Rattle.xv_lone.specs.declared.vcpu.VcpuView.{VcpuView}
use Rattle.xv_lone.specs.Step.{OnHart, After, On, Halts, Reboots, lines_at}
use Rattle.xv_lone.specs.Trail.{IsTrail, IsPiece, most_tries}
use Rattle.xv_lone.specs.Turn as turns
use Rattle.xv_lone.specs.Turn.{Core}
use Rattle.xv_firmware.specs.Calls.{Leaves}
use Rattle.xv_guest.specs.Guest.{Guest, IsView, held_of, lone_of}
use Rattle.xv_guest.specs.Held.{Held, IsHeld}
use Rattle.xv_host.specs.Change.{time_of}
use Rattle.xv_firmware.specs.declared.calls.Progress.{Progress}
use Rattle.xv_firmware.specs.declared.calls.Progress.TheVariants as progress
use Rattle.xv_host.specs.Join.{StandsIn}
use Rattle.xv_host.specs.Spots.{place_of}

-- ---- the guest, and the number of its VCPU that is on the hart

-- the guest with another view of a VCPU
abbrev pub with_view : Guest → (h : ℕ) → VcpuView → Guest
with_view g h v = record g { vcpus = slice_set g.vcpus h v }

-- what a turn needs of the guest, whose VCPU h is this: its memory stands behind its own root
-- table, which has the number of its key
pub record MayRun (g : Guest) (h : ℕ) (v : VcpuView) (bytes : List ℕ) : Type 0 where
  pub held : IsHeld bytes (held_of g)
  pub accepted : Accepted g.plan.regions
  pub root : g.root ≡ Some g.key
  pub small : g.key < 16
  pub vcpu : slice_get g.vcpus h ≡ Some v
  pub view : IsView v

-- ---- its registers

-- the lines of a VCPU at guest time t, for which no byte matters
abbrev pub lines_of_vcpu : Guest → (h t : ℕ) → VcpuView → Lines
lines_of_vcpu g h t v = lines_at h t (lone_of g []) v

-- the registers with these lines of timer and interrupt controller in hvip
abbrev pub with_lines_of : Lines → Regs → Regs
with_lines_of lines r =
    let hvip = with_lines r.csrs.ssip lines.timer lines.external r.h.hvip in
    record r { h = record r.h { hvip = hvip } }

-- the hypervisor CSRs behind the guest, whose key is the number of its root table and its VMID, at
-- guest time t
abbrev pub hcsrs_of_vcpu : Guest → (h t : ℕ) → VcpuView → HCsrs
hcsrs_of_vcpu g h t v =
    let lines = lines_of_vcpu g h t v in
    record (guest_hcsrs g.key g.key (hcsr.delta_of g.birth)) {
      hvip = with_lines v.csrs.ssip lines.timer lines.external 0;
    }

-- the registers that the hart has when the VCPU's turn begins, at a clock: no reservation is held
abbrev pub regs_of_vcpu : Guest → (h clock : ℕ) → VcpuView → Regs
regs_of_vcpu g h clock v = record {
  x = v.x;
  pc = v.pc;
  user = v.user;
  csrs = v.csrs;
  h = hcsrs_of_vcpu g h (time_of g clock) v;
  time = clock;
  held = None;
}

-- what the trail shows of a VCPU
abbrev pub core_of : Regs → Core
core_of r = record { x = r.x; pc = r.pc; user = r.user; csrs = r.csrs }

-- the VCPU that is on the hart, in a hart state
abbrev pub view_of : VcpuView → Regs → HartState → VcpuView
view_of v r state = record v { x = r.x; pc = r.pc; user = r.user; csrs = r.csrs; hart = state }

-- ---- its lone machine

module _ (g : Guest) (h : ℕ) (v : VcpuView) where
  -- while its VCPU is on the hart, by what the hart shows
  abbrev pub on_hart_of : Regs → List ℕ → HartState → OnHart
  on_hart_of r bytes state = record {
    machine = lone_of (with_view g h (view_of v r state)) bytes;
    held = held_as (place_of (held_of g)) (hart_step.held_of r.held);
  }

  -- and after a lone step that left it so. A guest that reboots has its VCPUs anew
  abbrev pub after_of : Regs → List ℕ → Progress → After
  after_of r bytes (progress.Goes state) =
      record { on_hart = on_hart_of r bytes state; onward = On }
  after_of r bytes progress.Halts =
      record { on_hart = on_hart_of r bytes Started; onward = Halts }
  after_of r bytes progress.Reboots =
      record { on_hart = record { machine = lone_of g bytes; held = None }; onward = Reboots }

-- what of the guest an access to a device may change: the devices, a halt its state, a reboot its
-- VCPUs too
abbrev pub AccessLeaves : Progress → (old new : Guest) → Type 0
AccessLeaves (progress.Goes state) old new = new ≡ record old { devices = new.devices }
AccessLeaves progress.Halts old new =
    new ≡ record old { devices = new.devices; state = new.state }
AccessLeaves progress.Reboots old new = Leaves old new

-- VCPU h of the guest is this
pub record IsViewAt (g : Guest) (h : ℕ) (v : VcpuView) : Type 0 where
  pub at : slice_get g.vcpus h ≡ Some v
  pub kept : IsView v

-- after a lone step that left it so this is VCPU h, but for what the hart shows of it. Those of a
-- guest that reboots are new
abbrev pub Shows : Progress → Guest → (h : ℕ) → VcpuView → Type 0
Shows (progress.Goes state) g h v = IsViewAt g h v
Shows progress.Halts g h v = IsViewAt g h v
Shows progress.Reboots g h v = Unit {0}

-- the guest after a turn that stands so: the VCPU is what the hart shows, but for a reboot's
abbrev pub IsShown : Progress → Type 0
IsShown (progress.Goes state) = Unit {0}
IsShown progress.Halts = Unit {0}
IsShown progress.Reboots = ⊥

abbrev pub shown_guest : Guest → (h : ℕ) → VcpuView → Regs → Progress → Guest
shown_guest g h v r (progress.Goes state) = with_view g h (view_of v r state)
shown_guest g h v r progress.Halts = with_view g h (view_of v r Started)
shown_guest g h v r progress.Reboots = g

-- how a turn ends that stands so
abbrev pub end_of : Progress → TurnEnd
end_of (progress.Goes state) = turns.ends_as On state
end_of progress.Halts = ends.Halted
end_of progress.Reboots = ends.Rebooted

-- the turn at guest time t of VCPU h, which was v, from this guest and these host bytes on has come
-- to its end with this guest, on the hart, in host memory and in the trail
pub record IsTurned (g : Guest) (h : ℕ) (v : VcpuView) (t : ℕ) (first : List ℕ) (now : Guest)
    (r : Regs) (bytes : List ℕ) (trail : List Regs) (progress : Progress) : Type 0 where
  pub after : after_of now h v r bytes progress ≡ record {
    on_hart = (turns.whole_turn g.plan h t (lone_of g first)).on_hart;
    onward = (turns.whole_turn g.plan h t (lone_of g first)).onward;
  }
  pub pieces : IsTrail core_of (turns.whole_turn g.plan h t (lone_of g first)).begun trail

-- ---- within a turn

-- what is reserved stands in the guest's frames
abbrev pub ReservedStands : Held → Option hart.Held → Type 0
ReservedStands g None = Unit {0}
ReservedStands g (Some held) = StandsIn g held.width held.host

-- a VCPU of the guest is on the hart, within a turn at guest time t
pub record IsOnHart (g : Guest) (t : ℕ) (r : Regs) : Type 0 where
  pub root : root_of r.h ≡ g.key
  pub time : hcsr.guest_time r.time r.h ≡ t
  pub reserved : ReservedStands (held_of g) r.held

-- the trail of so many lone steps has so many entries: one at least for each, and 13 at most
abbrev pub IsBetween : (steps entries : ℕ) → Type 0
IsBetween steps entries = (steps ≤ entries) × (entries ≤ most_tries * steps)

-- the most accesses to host memory of a try of a lone step: 50 of the hart, and a fetch of the
-- monitor
abbrev pub most_accesses : ℕ
most_accesses = 66

-- the trail got one more piece, of a lone step that began with these registers, behind this root
-- table alone
pub record Grows (table : ℕ) (r : Regs) (before after : List Regs) : Type 0 where
  pub piece : List Regs
  pub grown : after ≡ before ++ piece
  pub shown : IsPiece core_of (core_of r) piece
  pub root : All (λ entry. root_of entry.h ≡ table) piece
