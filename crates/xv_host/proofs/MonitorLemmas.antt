-- The monitor's answer to a trap is the lone machine's answer to the ask that the hart left.
use Rattle.std.proofs.Common.{◌≡◌, ◌≢◌, ℕ, ◌+◌, ◌*◌, ◌/◌, ◌%◌, Bool, false, eqb, List, Option}
use Rattle.std.proofs.Common.{Some, None, unwrap_or}
use Rattle.std.proofs.Common.{option_and_then, refl, sym, ap, ◌∙◌, subst, arith}
use Rattle.std.proofs.lemmas.Bool.{cond-true, cond-false, ne_eqb}
use Rattle.xv_isa.specs.declared.instruction.Insn.{Insn}
use Rattle.xv_isa.specs.Effects as effects
use Rattle.xv_isa.specs.Effects.{effect_of}
use Rattle.xv_isa.specs.Length.{next_pc}
use Rattle.xv_csr.specs.Cause.{environment_call_from_vs, virtual_instruction}
use Rattle.xv_csr.specs.Cause.{instruction_guest_page_fault}
use Rattle.xv_emul.specs.Emulation.{access_of, plain_of}
use Rattle.xv_emul.proofs.AccessLemmas.{access_anywhere, atomic_access}
use Rattle.xv_pte.specs.declared.access.Kind3.TheVariants as kinds
use Rattle.xv_pte.specs.declared.access.Kind3.{Kind3}
use Rattle.xv_step.specs.Outcome.{Ask, TableEntry, Target, Plain, Call, Wait}
use Rattle.xv_step.specs.Outcome.{address_of, width_of}
use Rattle.xv_step.proofs.AskLemmas.{AtPc, AsksPlain, AsksAtomic, IsOfWord}
use Rattle.xv_step.proofs.NextLemmas.{AsksNext, IsNext}
use Rattle.xv_hart.specs.declared.exit.HTrap.{HTrap}
use Rattle.xv_hart.specs.declared.regs.Regs.{Regs}
use Rattle.xv_hart.specs.Memory.{bus_of}
use Rattle.xv_hart.specs.Step.{trap_of, state_of}
use Rattle.xv_lone.specs.declared.vcpu.VcpuView.{VcpuView}
use Rattle.xv_region.specs.declared.cell.Cell.{Cell}
use Rattle.xv_region.specs.declared.cell.Cell.TheVariants as cells
use Rattle.xv_region.specs.Cell.{cell}
use Rattle.xv_region.specs.Plan.{Plan}
use Rattle.xv_lone.specs.declared.vcpu.HartState.TheVariants.{Started}
use Rattle.xv_lone.specs.Step.{OnHart, After, answered, by_cell, by_device, faults, calls, waits}
use Rattle.xv_host.specs.Monitor.{IsAbout, IsPlainFault, TellsAccess, access_by, at_cell}
use Rattle.xv_firmware.specs.Calls.{ecall_word}
use Rattle.xv_host.specs.Monitor.{device_access, gpa_of, monitored, page_faulted}
use Rattle.xv_host.specs.Monitor.{word_of}
use Rattle.xv_host.specs.OnHart.{view_of}

module _ (r : Regs) (bytes : List ℕ) where
  -- the plain access of the word at the pc
  at_pc_is : (at : AtPc (bus_of r bytes) (state_of r bytes))
      → access_by (word_of r bytes) r.x ≡ access_of at.insn r.x
  at_pc_is at =
      ap (λ o. access_by o r.x) at.fetched
      ∙ ap (option_and_then (λ (i : Insn). access_of i r.x)) at.decoded

  plain_is : (access : effects.Access) (gpa next : ℕ)
      → AsksPlain (bus_of r bytes) (state_of r bytes) access gpa next
      → access_by (word_of r bytes) r.x ≡ Some access
  plain_is access gpa next asks =
      at_pc_is asks.at
      ∙ (sym (access_anywhere asks.at.insn r.x r.pc next) ∙ ap plain_of asks.effect)

  atomic_is : AsksAtomic (bus_of r bytes) (state_of r bytes)
      → access_by (word_of r bytes) r.x ≡ None
  atomic_is asks =
      at_pc_is asks.at
      ∙ atomic_access asks.at.insn r.x r.pc asks.next
      (effect_of asks.at.insn r.x r.pc asks.next) refl asks.effect

  low_gpa : (va gpa : ℕ) → va % 4 ≡ gpa % 4 → gpa / 4 * 4 + va % 4 ≡ gpa
  low_gpa va gpa low = omega arith

  -- ---- what the trap tells of it

  tells_not : (access : Option effects.Access) (trap : HTrap) → (IsPlainFault trap → ⊥)
      → TellsAccess access trap
  tells_not None trap never = tt {0}
  tells_not (Some access) trap never = λ fault. absurd (never fault)

  tells_plain : (user : Bool) (access : effects.Access) (gpa next : ℕ)
      → IsPlainFault (trap_of user (Plain access gpa next))
      → IsAbout access (trap_of user (Plain access gpa next))
  tells_plain user (effects.Load width signed va rd) gpa next fault =
      record { kind = refl; address = refl }
  tells_plain user (effects.Store width va value) gpa next fault =
      record { kind = refl; address = refl }

  pub tells : (ask : Ask) → IsOfWord (bus_of r bytes) (state_of r bytes) ask
      → TellsAccess (access_by (word_of r bytes) r.x) (trap_of r.user ask)
  tells (TableEntry access va gpa) word =
      tells_not (access_by (word_of r bytes) r.x) (trap_of r.user (TableEntry access va gpa))
      (λ fault. let no = fault.target in omega arith)
  tells (Target kinds.Fetch va gpa) word =
      tells_not (access_by (word_of r bytes) r.x) (trap_of r.user (Target kinds.Fetch va gpa))
      (λ fault. fault.no_fetch refl)
  tells (Target kinds.Load va gpa) word =
      subst (λ o. TellsAccess o (trap_of r.user (Target kinds.Load va gpa)))
      (sym (atomic_is word)) (tt {0})
  tells (Target kinds.Store va gpa) word =
      subst (λ o. TellsAccess o (trap_of r.user (Target kinds.Store va gpa)))
      (sym (atomic_is word)) (tt {0})
  tells (Plain access gpa next) word =
      subst (λ o. TellsAccess o (trap_of r.user (Plain access gpa next)))
      (sym (plain_is access gpa next word)) (tells_plain r.user access gpa next)
  tells (Call next) word =
      tells_not (access_by (word_of r bytes) r.x) (trap_of r.user (Call next))
      (λ fault. fault.no_call refl)
  tells (Wait next) word =
      tells_not (access_by (word_of r bytes) r.x) (trap_of r.user (Wait next))
      (λ fault. fault.no_wait refl)

  -- ---- the answers

  module _ (plan : Plan) (h t : ℕ) (m : OnHart) (w : VcpuView) where
    abbrev v : VcpuView
    v = view_of w r Started

    abbrev word : Option ℕ
    word = word_of r bytes

    abbrev answer : HTrap → After
    answer trap = monitored plan h t m v word trap

    abbrev page_answer : HTrap → Option effects.Access → After
    page_answer trap access =
        page_faulted plan h t m v word trap
        (option_and_then (λ a. at_cell a (cell plan.regions (gpa_of trap) (width_of a))) access)

    entry_same : (access : Kind3) (va gpa : ℕ)
        → answer (trap_of r.user (TableEntry access va gpa)) ≡ faults plan h t m v access va
    entry_same kinds.Fetch va gpa = refl
    entry_same kinds.Load va gpa = refl
    entry_same kinds.Store va gpa = refl

    cell_same : (access : effects.Access) (gpa next : ℕ) → next_pc r.pc (unwrap_or word 0) ≡ next
        → (c : Cell)
        → page_faulted plan h t m v word (trap_of r.user (Plain access gpa next)) (at_cell access c)
        ≡ by_cell plan h v access next m c
    cell_same access gpa next is (cells.Device region offset) =
        ap (λ n. by_device plan h v access n m region offset) is
    cell_same (effects.Load width signed va rd) gpa next is (cells.Memory i offset writable) = refl
    cell_same (effects.Store width va value) gpa next is (cells.Memory i offset writable) = refl
    cell_same (effects.Load width signed va rd) gpa next is cells.Nothing = refl
    cell_same (effects.Store width va value) gpa next is cells.Nothing = refl

    plain_same : (access : effects.Access) (gpa next : ℕ)
        → AsksPlain (bus_of r bytes) (state_of r bytes) access gpa next → IsNext r.pc next
        → page_answer (trap_of r.user (Plain access gpa next)) (access_by word r.x)
        ≡ by_cell plan h v access next m (cell plan.regions gpa (width_of access))
    plain_same access gpa next asks behind =
        let trap = trap_of r.user (Plain access gpa next) in
        ap (page_answer trap) (plain_is access gpa next asks)
        ∙ ap (λ (a : ℕ). page_faulted plan h t m v word trap
        (at_cell access (cell plan.regions a (width_of access))))
        (low_gpa (address_of access) gpa asks.low_bits)
        ∙ cell_same access gpa next (sym behind.is) (cell plan.regions gpa (width_of access))

    pub monitored_same : (ask : Ask) → AsksNext r.pc ask
        → IsOfWord (bus_of r bytes) (state_of r bytes) ask
        → answer (trap_of r.user ask) ≡ answered plan h t m v ask
    unfolding answered
    monitored_same (TableEntry access va gpa) behind of_word = entry_same access va gpa
    monitored_same (Target kinds.Fetch va gpa) behind of_word = refl
    monitored_same (Target kinds.Load va gpa) behind of_word =
        ap (page_answer (trap_of r.user (Target kinds.Load va gpa))) (atomic_is of_word)
    monitored_same (Target kinds.Store va gpa) behind of_word =
        ap (page_answer (trap_of r.user (Target kinds.Store va gpa))) (atomic_is of_word)
    monitored_same (Plain (effects.Load width signed va rd) gpa next) behind of_word =
        plain_same (effects.Load width signed va rd) gpa next of_word behind
    monitored_same (Plain (effects.Store width va value) gpa next) behind of_word =
        plain_same (effects.Store width va value) gpa next of_word behind
    monitored_same (Call next) behind of_word = ap (λ n. calls plan h t m v n) (sym behind.is)
    monitored_same (Wait next) behind of_word = ap (λ n. waits plan h t m v n) (sym behind.is)

-- ---- by the cause

module _ (plan : Plan) (h t : ℕ) (m : OnHart) (v : VcpuView) (word : Option ℕ) (trap : HTrap) where
  is_not : (n : ℕ) → trap.cause ≢ n → eqb trap.cause n ≡ false
  is_not n not = ne_eqb trap.cause n not

  pub monitored_call : trap.cause ≡ environment_call_from_vs
      → monitored plan h t m v word trap ≡ calls plan h t m v (next_pc v.pc ecall_word)
  monitored_call e =
      cond-true (eqb trap.cause environment_call_from_vs) _ _
      (ap (λ n. eqb n environment_call_from_vs) e)

  pub monitored_wait : trap.cause ≡ virtual_instruction
      → monitored plan h t m v word trap ≡ waits plan h t m v (next_pc v.pc trap.word)
  monitored_wait e =
      cond-false (eqb trap.cause environment_call_from_vs) _ _
      (ap (λ n. eqb n environment_call_from_vs) e)
      ∙ cond-true (eqb trap.cause virtual_instruction) _ _ (ap (λ n. eqb n virtual_instruction) e)

  pub monitored_fetch : trap.cause ≡ instruction_guest_page_fault
      → monitored plan h t m v word trap ≡ faults plan h t m v kinds.Fetch trap.tval
  monitored_fetch e =
      cond-false (eqb trap.cause environment_call_from_vs) _ _
      (ap (λ n. eqb n environment_call_from_vs) e)
      ∙ cond-false (eqb trap.cause virtual_instruction) _ _ (ap (λ n. eqb n virtual_instruction) e)
      ∙ cond-true (eqb trap.cause instruction_guest_page_fault) _ _
      (ap (λ n. eqb n instruction_guest_page_fault) e)

  pub monitored_fault : trap.cause ≢ environment_call_from_vs → trap.cause ≢ virtual_instruction
      → trap.cause ≢ instruction_guest_page_fault → monitored plan h t m v word trap
      ≡ page_faulted plan h t m v word trap (device_access plan word v.x trap)
  monitored_fault no_call no_wait no_fetch =
      cond-false (eqb trap.cause environment_call_from_vs) _ _
      (is_not environment_call_from_vs no_call)
      ∙ cond-false (eqb trap.cause virtual_instruction) _ _ (is_not virtual_instruction no_wait)
      ∙ cond-false (eqb trap.cause instruction_guest_page_fault) _ _
      (is_not instruction_guest_page_fault no_fetch)
