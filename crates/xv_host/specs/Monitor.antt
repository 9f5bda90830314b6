-- The monitor: by the trap and by the word at the pc alone it gives what the lone machine answers
-- to the ask that the hart left.
use Rattle.std.specs.Prelude.{ℕ, ◌≡◌, ◌≢◌, ◌+◌, ◌*◌, ◌%◌, ◌==◌, if◌then◌else◌, List, Option, Some}
use Rattle.std.specs.Prelude.{None}
use Rattle.std.specs.Prelude.{option_and_then, unwrap_or}
use Rattle.xv_isa.specs.Effects as effects
use Rattle.xv_isa.specs.Length.{next_pc}
use Rattle.xv_isa.specs.Operands.{decode_of}
use Rattle.xv_csr.specs.Cause.{environment_call_from_vs, virtual_instruction}
use Rattle.xv_csr.specs.Cause.{instruction_guest_page_fault, load_guest_page_fault}
use Rattle.xv_isa.specs.Encoding.{InRange}
use Rattle.xv_bus.specs.Access.{Fits, width_bytes}
use Rattle.xv_bus.specs.declared.access.Access as bus
use Rattle.xv_bus.specs.declared.access.Access.TheVariants as bus_access
use Rattle.xv_emul.specs.Emulation.{access_of, at_bus, is_bus_load, is_load}
use Rattle.xv_step.specs.Step.{fetched_word}
use Rattle.xv_hart.specs.Memory.{bus_of}
use Rattle.xv_hart.specs.Step.{state_of}
use Rattle.xv_hart.specs.declared.regs.Regs.{Regs}
use Rattle.xv_firmware.specs.Calls.{ecall_word}
use Rattle.xv_host.specs.declared.emulate.Emulated.{Emulated}
use Rattle.xv_step.specs.Outcome.{access_kind, address_of, width_of}
use Rattle.xv_pte.specs.declared.access.Kind3.TheVariants.{Fetch, Load, Store}
use Rattle.xv_pte.specs.declared.access.Kind3.{Kind3}
use Rattle.xv_hart.specs.declared.exit.HTrap.{HTrap}
use Rattle.xv_lone.specs.declared.vcpu.VcpuView.{VcpuView}
use Rattle.xv_region.specs.declared.cell.Cell.{Cell}
use Rattle.xv_region.specs.declared.cell.Cell.TheVariants as cells
use Rattle.xv_region.specs.Cell.{cell}
use Rattle.xv_region.specs.Plan.{Plan}
use Rattle.xv_lone.specs.Step.{OnHart, After, by_device, calls, waits, faults}

-- ---- what a guest-page fault is about (Privileged Architecture 20211203, 8.6.3)

-- the guest physical address, of which htval lacks the two low bits
abbrev pub gpa_of : HTrap → ℕ
gpa_of trap = trap.htval * 4 + trap.tval % 4

-- the kind of the access
abbrev pub kind_of_cause : ℕ → Kind3
kind_of_cause cause =
    if cause == instruction_guest_page_fault then Fetch
    else (if cause == load_guest_page_fault then Load else Store)

-- the plain access that the instruction of a word makes, if it makes one
abbrev pub access_by : (word : Option ℕ) → (x : List ℕ) → Option effects.Access
access_by word x = option_and_then (λ i. access_of i x) (option_and_then decode_of word)

-- a plain access to a device: its region, and the offset there
pub record DeviceAccess : Type 0 where
  pub access : effects.Access
  pub region : ℕ
  pub offset : ℕ

abbrev pub at_cell : effects.Access → Cell → Option DeviceAccess
at_cell access (cells.Memory region offset writable) = None
at_cell access (cells.Device region offset) =
    Some (record { access = access; region = region; offset = offset })
at_cell access cells.Nothing = None

-- an access of the hart's own to a page table (htinst isn't 0) is none to a device
abbrev pub device_access : Plan → (word : Option ℕ) → (x : List ℕ) → HTrap → Option DeviceAccess
device_access plan word x trap =
    if trap.htinst == 0
    then option_and_then (λ access. at_cell access
    (cell plan.regions (gpa_of trap) (width_of access))) (access_by word x)
    else None

-- a load or a store led to no memory
pub record IsPlainFault (trap : HTrap) : Type 0 where
  pub no_call : trap.cause ≢ environment_call_from_vs
  pub no_wait : trap.cause ≢ virtual_instruction
  pub no_fetch : trap.cause ≢ instruction_guest_page_fault
  pub target : trap.htinst ≡ 0

-- then the trap tells kind and virtual address of the access that the word at the pc makes
pub record IsAbout (access : effects.Access) (trap : HTrap) : Type 0 where
  pub kind : kind_of_cause trap.cause ≡ access_kind access
  pub address : trap.tval ≡ address_of access

abbrev pub TellsAccess : Option effects.Access → HTrap → Type 0
TellsAccess None trap = Unit {0}
TellsAccess (Some access) trap = IsPlainFault trap → IsAbout access trap

-- ---- what a trap of VCPU h, which is v, is answered with, where this is the word at the pc

module _ (plan : Plan) (h t : ℕ) (r : OnHart) (v : VcpuView) (word : Option ℕ) where
  abbrev pub page_faulted : HTrap → Option DeviceAccess → After
  page_faulted trap None = faults plan h t r v (kind_of_cause trap.cause) trap.tval
  page_faulted trap (Some d) =
      by_device plan h v d.access (next_pc v.pc (unwrap_or word 0)) r d.region d.offset

  abbrev pub monitored : HTrap → After
  monitored trap =
      if trap.cause == environment_call_from_vs
      then calls plan h t r v (next_pc v.pc ecall_word)
      else if trap.cause == virtual_instruction then waits plan h t r v (next_pc v.pc trap.word)
      else if trap.cause == instruction_guest_page_fault
      then faults plan h t r v Fetch trap.tval
      else page_faulted trap (device_access plan word v.x trap)

-- ---- the code's own form of a device access

-- the word at the pc, through both stages
abbrev pub word_of : Regs → (bytes : List ℕ) → Option ℕ
word_of r bytes = fetched_word (bus_of r bytes) (state_of r bytes)

-- how many bytes an access has, as a device sees it
abbrev pub width_of_bus : bus.Access → ℕ
width_of_bus (bus_access.Load width) = width_bytes width
width_of_bus (bus_access.Store width value) = width_bytes width

-- an instruction whose access a device answers
pub record IsEmulated (plan : Plan) (r : Regs) (bytes : List ℕ) (trap : HTrap) (e : Emulated)
    : Type 0 where
  pub plain : effects.Access
  pub of_insn : access_of e.insn r.x ≡ Some plain
  pub bus : at_bus plain ≡ e.access
  pub is : device_access plan (word_of r bytes) r.x trap
      ≡ Some (record { access = plain; region = e.region; offset = e.offset })
  pub word : access_by (word_of r bytes) r.x ≡ Some plain
  pub next : e.next ≡ next_pc r.pc (unwrap_or (word_of r bytes) 0)
  pub load : is_bus_load (Some e.access) ≡ is_load (access_of e.insn r.x)
  pub range : InRange e.insn
  pub fits : Fits e.access
  pub target : trap.htinst ≡ 0
