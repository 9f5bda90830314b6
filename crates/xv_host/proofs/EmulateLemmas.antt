-- A device that was accessed, with the hart's VCPU put back into the lone machine.
use Rattle.std.proofs.Common.{◌≡◌, ℕ, suc, ◌+◌, ◌-◌, ◌^◌, ◌<◌, ◌⊎◌, Bool, true, false, cond, eqb}
use Rattle.std.proofs.Common.{List, [], ◌∷◌, length, get_or, Option, Some, None, option_map}
use Rattle.std.proofs.Common.{option_and_then, unwrap_or, refl, sym, ap, ◌∙◌, subst, arith, inl}
use Rattle.std.proofs.Common.{inr}
use Rattle.std.proofs.lemmas.Bool.{cond-true, cond-false}
use Rattle.std.proofs.lemmas.List.{length-map}
use Rattle.xv_bus.specs.Access.{Fits, width_bytes}
use Rattle.xv_isa.specs.declared.instruction.Insn.{Insn}
use Rattle.xv_isa.specs.Effects.{Action, effect_of}
use Rattle.xv_isa.specs.Encoding.{InRange}
use Rattle.xv_isa.specs.Length.{next_pc}
use Rattle.xv_isa.specs.Operands.{decode_of}
use Rattle.xv_step.proofs.WidthLemmas.{HasWidth, IsWidth, One, Two, Four, Eight, effect_width}
use Rattle.xv_region.specs.declared.cell.Cell.{Cell}
use Rattle.xv_region.specs.declared.cell.Cell.TheVariants as cells
use Rattle.xv_region.specs.declared.plan.Kind.{Kind}
use Rattle.xv_region.specs.declared.plan.Kind.TheVariants.{Ram, Rom, Reserved, Alias, Device}
use Rattle.xv_region.specs.declared.plan.Region.{Region}
use Rattle.xv_region.specs.Cell.{bytes_at, cell, cell_from, cell_within, holds, nowhere, one_hop}
use Rattle.xv_region.specs.Rules.{Accepted}
use Rattle.xv_region.proofs.RuleLemmas.{sound-bounded}
use Rattle.xv_gstage.proofs.OwnPages.{lies}
use Rattle.xv_hart.specs.declared.exit.HTrap.{HTrap}
use Rattle.xv_guest.specs.Devices.{HasDevices, shape_of, shape_of_kind}
use Rattle.xv_lone.specs.Device.{Devices}
use Rattle.xv_host.specs.declared.emulate.Emulated.{Emulated}
use Rattle.xv_host.specs.Monitor.{DeviceAccess, IsAbout, IsEmulated, IsPlainFault, TellsAccess}
use Rattle.xv_host.specs.Monitor.{access_by, at_cell, device_access, gpa_of, kind_of_cause}
use Rattle.xv_host.specs.Monitor.{page_faulted, width_of_bus, word_of}
use Rattle.xv_bus.specs.declared.access.Access as bus
use Rattle.xv_bus.specs.declared.access.Ending.{Ending}
use Rattle.xv_bus.specs.declared.access.Outcome.{Outcome}
use Rattle.xv_bus.specs.declared.access.Outcome.TheVariants.{Value, Refused, Halt, Reboot}
use Rattle.xv_isa.specs.Effects as effects
use Rattle.xv_emul.specs.Emulation.{access_of, at_bus, emulated, is_bus_load, is_load, plain_of}
use Rattle.xv_emul.specs.Emulation.{width_named, written_back}
use Rattle.xv_region.specs.Plan.{Plan}
use Rattle.xv_step.specs.Outcome.{access_fault, access_kind, address_of, width_of}
use Rattle.xv_step.specs.State.{held_as}
use Rattle.xv_hart.specs.declared.regs.Regs.{Regs}
use Rattle.xv_hart.specs.Step.{after_trap, held_of}
use Rattle.xv_lone.specs.declared.vcpu.GuestState.TheVariants.{Halted}
use Rattle.xv_lone.specs.declared.vcpu.HartState.TheVariants.{Started}
use Rattle.xv_lone.specs.declared.vcpu.VcpuView.{VcpuView}
use Rattle.xv_lone.specs.Machine.{Machine, access_in, after_access, halted, rebooted, with_vcpu}
use Rattle.xv_lone.specs.Step.{After, Halts, OnHart, Reboots, by_device, by_outcome, faults}
use Rattle.xv_guest.specs.Guest.{Guest, held_of as holdings_of, lone_of}
use Rattle.xv_guest.specs.Held.{Held}
use Rattle.xv_firmware.specs.declared.calls.Progress.TheVariants as progress
use Rattle.xv_host.specs.OnHart.{after_of, on_hart_of, view_of}
use Rattle.xv_host.specs.Spots.{place_of}
use Rattle.xv_host.proofs.ViewLemmas.{back_is, fault_back}

module _ (g g' : Guest) (h : ℕ) (v : VcpuView) (r : Regs) (bytes now : List ℕ) (region at : ℕ)
    (access : bus.Access) (same : g' ≡ record g { devices = g'.devices })
    (machine : lone_of g' now ≡ after_access g.plan region
    (access_in g.plan region at access (lone_of g bytes)) (lone_of g bytes)) where
  abbrev w : VcpuView
  w = view_of v r Started

  abbrev before : OnHart
  before = on_hart_of g h v r bytes Started

  abbrev here : OnHart
  here = on_hart_of g' h v r now Started

  abbrev on_hart : Held → Machine → OnHart
  on_hart held m = record { machine = m; held = held_as (place_of held) (held_of r.held) }

  -- the machine with the VCPU of the hart, after the access
  seen : here ≡ record before {
    machine = after_access g.plan region (access_in g.plan region at access before.machine)
        before.machine;
  }
  seen =
      ap (λ (held : Held). on_hart held (with_vcpu h w (lone_of g' now)))
      (ap holdings_of same)
      ∙ ap (λ (m : Machine). on_hart (holdings_of g) (with_vcpu h w m)) machine

  module _ (plain : effects.Access) (next : ℕ) (outcome : Outcome) (is : at_bus plain ≡ access)
      (outcome_is : outcome ≡ (access_in g.plan region at access (lone_of g bytes)).outcome) where
    abbrev at_device : bus.Access → After
    at_device a =
        by_outcome g.plan h w plain next
        (record before {
          machine = after_access g.plan region (access_in g.plan region at a before.machine)
              before.machine;
        }) (access_in g.plan region at a before.machine).outcome

    -- the lone machine's answer, by what the device's comes to
    pub device_is : by_outcome g.plan h w plain next here outcome
        ≡ by_device g.plan h w plain next before region at
    device_is =
        ap (λ (m : OnHart). by_outcome g.plan h w plain next m outcome) seen
        ∙ ap (λ (o : Outcome). by_outcome g.plan h w plain next
        (record before {
          machine = after_access g.plan region (access_in g.plan region at access before.machine)
              before.machine;
        }) o) outcome_is
        ∙ sym (ap at_device is)

  -- ---- what the instruction leaves

  abbrev retired : effects.Access → (value next : ℕ) → Regs
  retired plain value next = record r { x = written_back plain value r.x; pc = next }

  module _ (plain : effects.Access) (next : ℕ) where
    pub value_back : (value : ℕ) (n : Regs) → n ≡ retired plain value next
        → after_of g' h v n now (progress.Goes Started)
        ≡ by_outcome g.plan h w plain next here (Value value)
    value_back value n is =
        ap (λ (m : Regs). after_of g' h v m now (progress.Goes Started)) is
        ∙ back_is g' h v now r (retired plain value next) Started

    pub refused_back : (cause va : ℕ) (n : Regs) → access_fault (access_kind plain) ≡ cause
        → address_of plain ≡ va → n ≡ after_trap cause va r
        → after_of g' h v n now (progress.Goes Started)
        ≡ by_outcome g.plan h w plain next here Refused
    refused_back cause va n cause_is va_is is =
        fault_back g' h v now r n (access_fault (access_kind plain)) (address_of plain)
        (is ∙ (ap (λ (c : ℕ). after_trap c va r) (sym cause_is)
        ∙ ap (λ (a : ℕ). after_trap (access_fault (access_kind plain)) a r) (sym va_is)))

    abbrev halting : Ending → After → After
    halting ending a = record {
      on_hart = record a.on_hart { machine = halted ending a.on_hart.machine };
      onward = Halts;
    }

    pub halt_back : (ending : Ending) (n : Regs) (last : Guest) → n ≡ retired plain 0 next
        → last ≡ record g' { state = Halted ending; birth = g'.birth }
        → after_of last h v n now progress.Halts
        ≡ by_outcome g.plan h w plain next here (Halt ending)
    halt_back ending n last is last_is =
        ap (λ (x : Guest). after_of x h v n now progress.Halts) last_is
        ∙ (ap (λ (m : Regs). halting ending (after_of g' h v m now (progress.Goes Started))) is
        ∙ ap (halting ending) (back_is g' h v now r (retired plain 0 next) Started))

    abbrev rebooting : Machine → After
    rebooting m = record { on_hart = record { machine = m; held = None }; onward = Reboots }

    pub reboot_back : (n : Regs) (last : Guest)
        → lone_of last now ≡ rebooted g'.plan (lone_of g' now)
        → after_of last h v n now progress.Reboots
        ≡ by_outcome g.plan h w plain next here Reboot
    reboot_back n last is =
        ap rebooting is
        ∙ ap (λ (plan : Plan). rebooting (rebooted plan (lone_of g' now)))
        (ap (λ (x : Guest). x.plan) same)

-- ---- the device access that a fault is about

-- the bytes of a plain access are as many as the device sees
plain_width : (plain : effects.Access) (a : Action) → HasWidth a → plain_of a ≡ Some plain
    → IsWidth (width_of plain)
plain_width plain (effects.Plain (effects.Load width signed va rd)) has e =
    let same : effects.Load width signed va rd ≡ plain = cc in
    subst (λ (p : effects.Access). IsWidth (width_of p)) same has
plain_width plain (effects.Plain (effects.Store width va value)) has e =
    let same : effects.Store width va value ≡ plain = cc in
    subst (λ (p : effects.Access). IsWidth (width_of p)) same has
plain_width plain (effects.LoadReserved width va rd) has e = absurd cc
plain_width plain (effects.StoreConditional width va value rd) has e = absurd cc
plain_width plain (effects.Modify op width va value rd) has e = absurd cc
plain_width plain (effects.Set rd value) has e = absurd cc
plain_width plain (effects.Jump target rd link) has e = absurd cc
plain_width plain (effects.AccessCsr number change rd) has e = absurd cc
plain_width plain effects.FenceTranslations has e = absurd cc
plain_width plain effects.Continue has e = absurd cc
plain_width plain effects.EnvironmentCall has e = absurd cc
plain_width plain effects.Breakpoint has e = absurd cc
plain_width plain effects.SupervisorReturn has e = absurd cc
plain_width plain effects.WaitForInterrupt has e = absurd cc

named_width : (width : ℕ) → IsWidth width → width_bytes (width_named width) ≡ width
named_width _ One = refl
named_width _ Two = refl
named_width _ Four = refl
named_width _ Eight = refl

bus_width : (plain : effects.Access) → IsWidth (width_of plain)
    → width_of_bus (at_bus plain) ≡ width_of plain
bus_width (effects.Load width signed va rd) is = named_width width is
bus_width (effects.Store width va value) is = named_width width is

-- the plain access behind one that a device sees
pub record IsSeen (plain : Option effects.Access) (access : bus.Access) : Type 0 where
  pub behind : effects.Access
  pub is : plain ≡ Some behind
  pub bus : at_bus behind ≡ access

seen_access : (plain : Option effects.Access) (access : bus.Access)
    → option_map at_bus plain ≡ Some access → IsSeen plain access
seen_access None access e = absurd cc
seen_access (Some plain) access e =
    let bus : at_bus plain ≡ access = cc in record { behind = plain; is = refl; bus = bus }

module _ (plan : Plan) (r : Regs) (bytes : List ℕ) (trap : HTrap) (word : ℕ) (i : Insn)
    (access : bus.Access) (target : trap.htinst ≡ 0) (fetched : word_of r bytes ≡ Some word)
    (decoded : decode_of word ≡ Some i) (emulated_is : emulated i r.x ≡ Some access) where
  pub of_insn : IsSeen (access_of i r.x) access
  of_insn = seen_access (access_of i r.x) access emulated_is

  access_is : access_by (word_of r bytes) r.x ≡ Some of_insn.behind
  access_is =
      ap (λ o. access_by o r.x) fetched
      ∙ (ap (option_and_then (λ (j : Insn). access_of j r.x)) decoded ∙ of_insn.is)

  width_is : width_of_bus access ≡ width_of of_insn.behind
  unfolding access_of
  width_is =
      sym (ap width_of_bus of_insn.bus)
      ∙ bus_width of_insn.behind
      (plain_width of_insn.behind (effect_of i r.x 0 0) (effect_width i r.x 0 0) of_insn.is)

  pub device_at : (c : Cell) → c ≡ cell plan.regions (gpa_of trap) (width_of_bus access)
      → device_access plan (word_of r bytes) r.x trap ≡ at_cell of_insn.behind c
  device_at c is =
      cond-true (eqb trap.htinst 0) _ None (ap (λ n. eqb n 0) target)
      ∙ (ap (option_and_then (λ (a : effects.Access). at_cell a
      (cell plan.regions (gpa_of trap) (width_of a)))) access_is
      ∙ (ap (λ (n : ℕ). at_cell of_insn.behind (cell plan.regions (gpa_of trap) n)) (sym width_is)
      ∙ ap (at_cell of_insn.behind) (sym is)))

  pub found_is : (region offset next : ℕ)
      → cells.Device region offset ≡ cell plan.regions (gpa_of trap) (width_of_bus access)
      → next ≡ next_pc r.pc word → is_bus_load (Some access) ≡ is_load (access_of i r.x)
      → InRange i → Fits access → IsEmulated plan r bytes trap (record {
        insn = i;
        access = access;
        region = region;
        offset = offset;
        next = next;
      })
  found_is region offset next is behind load range fits = record {
    plain = of_insn.behind;
    of_insn = of_insn.is;
    bus = of_insn.bus;
    is = device_at (cells.Device region offset) is;
    word = access_is;
    next = behind;
    load = load;
    range = range;
    fits = fits;
    target = target;
  }

-- ---- where a device's cell is

no_region : (a n : ℕ) (r : Region) → r.base + r.size < a → (b : Bool)
    → holds (bytes_at a n) r ≡ b → b ≡ false
no_region a n r past true is = let bounds = lies a n r is in absurd (omega arith)
no_region a n r past false is = refl

past_none : (hop : ℕ → Cell) (i : ℕ) (rs : List Region) (a n : ℕ) (d : Region) → ((k : ℕ)
    → k < length rs → (get_or rs k d).base + (get_or rs k d).size < a)
    → cell_from hop i rs a n ≡ cells.Nothing
past_none hop i [] a n d past = refl
past_none hop i (r ∷ rs) a n d past =
    cond-false (holds (bytes_at a n) r) _ _
    (no_region a n r (past 0 (omega arith)) (holds (bytes_at a n) r) refl)
    ∙ past_none hop (suc i) rs a n d (λ k within. past (suc k) (omega arith))

-- no region reaches past the 41 bits of an address
pub cell_past : (regions : List Region) (a n : ℕ) (d : Region) → Accepted regions → 2 ^ 41 < a
    → cells.Nothing ≡ cell regions a n
unfolding cell
cell_past regions a n d accepted past =
    sym (past_none (one_hop regions n) 0 regions a n d (λ k within.
    let end = sound-bounded regions k d accepted.sound within in omega arith))

-- a device's number is a region's
device_kind : (hop : ℕ → Cell) (i at : ℕ) (kind : Kind) (region offset : ℕ)
    → cell_within hop i at kind ≡ cells.Device region offset
    → (region ≡ i) ⊎ ((b : ℕ) × (hop b ≡ cells.Device region offset))
device_kind hop i at Ram region offset e = absurd cc
device_kind hop i at Rom region offset e = absurd cc
device_kind hop i at (Reserved host) region offset e = absurd cc
device_kind hop i at (Alias target) region offset e = inr (target + at, e)
device_kind hop i at (Device kind) region offset e =
    let same : region ≡ i = cc in inl same

device_from : (hop : ℕ → Cell) (i : ℕ) (rs : List Region) (a n region offset : ℕ)
    → cell_from hop i rs a n ≡ cells.Device region offset
    → (region < i + length rs) ⊎ ((b : ℕ) × (hop b ≡ cells.Device region offset))
device_from hop i [] a n region offset e = absurd cc
device_from hop i (r ∷ rs) a n region offset e =
    by (holds (bytes_at a n) r) e (λ rest. device_from hop (suc i) rs a n region offset rest)
  where
    by : (b : Bool)
        → cond b (cell_within hop i (a - r.base) r.kind) (cell_from hop (suc i) rs a n)
        ≡ cells.Device region offset
        → (cell_from hop (suc i) rs a n ≡ cells.Device region offset
        → (region < suc i + length rs) ⊎ ((b : ℕ) × (hop b ≡ cells.Device region offset)))
        → (region < i + length (r ∷ rs)) ⊎ ((b : ℕ) × (hop b ≡ cells.Device region offset))
    by true is later =
        elim (device_kind hop i (a - r.base) r.kind region offset is) [
          | inl here ↦ inl (omega arith)
          | inr hopped ↦ inr hopped
        ]
    by false is later =
        elim (later is) [
          | inl there ↦ inl (omega arith)
          | inr hopped ↦ inr hopped
        ]

pub device_within : (regions : List Region) (a n region offset : ℕ)
    → cell regions a n ≡ cells.Device region offset → region < length regions
unfolding cell
device_within regions a n region offset e =
    elim (device_from (one_hop regions n) 0 regions a n region offset e) [
      | inl here ↦ omega arith
      | inr hopped ↦
          elim (device_from nowhere 0 regions hopped.0 n region offset hopped.1) [
            | inl there ↦ omega arith
            | inr none ↦ absurd (let e = none.1 in cc)
          ]
    ]

abbrev cell_in : Option DeviceAccess → Cell
cell_in None = cells.Nothing
cell_in (Some d) = cells.Device d.region d.offset

at_cell_device : (access : effects.Access) (c : Cell) (plain : effects.Access) (region offset : ℕ)
    → at_cell access c ≡ Some (record { access = plain; region = region; offset = offset })
    → c ≡ cells.Device region offset
at_cell_device access (cells.Memory i at writable) plain region offset e = absurd cc
at_cell_device access (cells.Device i at) plain region offset e = ap cell_in e
at_cell_device access cells.Nothing plain region offset e = absurd cc

-- so what is emulated is of a region
pub emulated_region : (plan : Plan) (r : Regs) (bytes : List ℕ) (trap : HTrap) (e : Emulated)
    → IsEmulated plan r bytes trap e → e.region < length plan.regions
emulated_region plan r bytes trap e is =
    device_within plan.regions (gpa_of trap) (width_of is.plain) e.region e.offset
    (at_cell_device is.plain (cell plan.regions (gpa_of trap) (width_of is.plain)) is.plain
    e.region e.offset
    (sym (cond-true (eqb trap.htinst 0) _ None (ap (λ n. eqb n 0) is.target)
    ∙ ap (option_and_then (λ (a : effects.Access). at_cell a
    (cell plan.regions (gpa_of trap) (width_of a)))) is.word)
    ∙ is.is))

-- a region has a device's state, if an absent one
pub devices_length : (plan : Plan) (ds : Devices) → HasDevices plan ds
    → length ds ≡ length plan.regions
devices_length plan ds has =
    sym (length-map ds shape_of) ∙ (ap length has
    ∙ length-map plan.regions (λ (r : Region). shape_of_kind r.kind))

-- ---- a fault by its device access

module _ (plan : Plan) (h t : ℕ) (m : OnHart) (v : VcpuView) (word : Option ℕ) (trap : HTrap)
  where
    pub by_access : (given : Option DeviceAccess) (d : DeviceAccess) → given ≡ Some d
        → page_faulted plan h t m v word trap given
        ≡ by_device plan h v d.access (next_pc v.pc (unwrap_or word 0)) m d.region d.offset
    by_access given d is = ap (page_faulted plan h t m v word trap) is

    pub by_none : (given : Option DeviceAccess) → given ≡ None
        → page_faulted plan h t m v word trap given
        ≡ faults plan h t m v (kind_of_cause trap.cause) trap.tval
    by_none given is = ap (page_faulted plan h t m v word trap) is

-- a plain access of the word at the pc is what the trap tells
pub told : (access : effects.Access) (word : Option effects.Access) (trap : HTrap)
    → word ≡ Some access → TellsAccess word trap → IsPlainFault trap → IsAbout access trap
told access word trap is tells fault =
    (subst (λ o. TellsAccess o trap) is tells) fault
