-- Worked rows of the lone machine, computed by the checker: journals of a guest with 64 bytes of
-- memory.
use Rattle.std.proofs.Common.{Bool, true, false, ◌≡◌, ℕ, zero, suc, ◌+◌, ◌*◌, ◌-◌, ◌/◌, ◌%◌, ◌^◌}
use Rattle.std.proofs.Common.{◌++◌, List, [], ◌∷◌, map, Option, Some, None}
use Rattle.std.proofs.Common.{slice_get, slice_index, refl}
use Rattle.xv_mem.specs.Bytes.{word_at, put, put_word}
use Rattle.xv_isa.specs.Effects.{effect_of}
use Rattle.xv_isa.specs.Operands.{decode_of}
use Rattle.xv_isa.specs.Rows.{row_of, rows, form_of, operation_at}
use Rattle.xv_csr.specs.Kept.{kept_stvec, kept_sie, kept_satp, kept_sstatus}
use Rattle.xv_csr.specs.Pending.{chosen_interrupt, pending, sip_of}
use Rattle.xv_csr.specs.Reset.{reset_csrs}
use Rattle.xv_csr.specs.Table.{csr_read, csr_written, register_of}
use Rattle.xv_csr.specs.Trap.{trap_csrs, handler, return_csrs, returns_to_user}
use Rattle.xv_pte.specs.Entry.{kind_of}
use Rattle.xv_pte.specs.Sv39.{path, verdict}
use Rattle.xv_sbi.specs.Calls.{call_of}
use Rattle.xv_step.specs.Step.{step}
use Rattle.xv_lone.specs.declared.vcpu.VcpuView.{VcpuView}
use Rattle.xv_lone.specs.declared.vcpu.HartState.{HartState}
use Rattle.xv_lone.specs.declared.vcpu.HartState.TheVariants.{Started, Waiting, Suspended, Stopped}
use Rattle.xv_region.specs.declared.plan.DeviceKind.TheVariants.{Finisher}
use Rattle.xv_region.specs.declared.plan.Kind.{Kind}
use Rattle.xv_region.specs.declared.plan.Kind.TheVariants.{Ram, Rom, Alias, Device}
use Rattle.xv_region.specs.declared.plan.Region.{Region}
use Rattle.xv_region.specs.declared.plan.VcpuPlan.{VcpuPlan}
use Rattle.xv_region.specs.Cell.{cell}
use Rattle.xv_region.specs.Plan.{Plan, flat_base, usual_priority}
use Rattle.xv_bus.specs.Finisher.{finisher_outcome}
use Rattle.xv_lone.specs.Device.{after_gateways, external_line, sources_up}
use Rattle.xv_lone.specs.Machine.{Machine}
use Rattle.xv_lone.specs.Step.{answered, lone_step}
use Rattle.xv_lone.specs.declared.vcpu.TurnEnd.{TurnEnd}
use Rattle.xv_lone.specs.declared.vcpu.TurnEnd.TheVariants.{Spent, Waits, Stops, Halted, Rebooted}
use Rattle.xv_lone.specs.Ready.{is_ready}
use Rattle.xv_lone.specs.Turn.{iterate, whole_turn, turn, visited, steps, ending}
use Rattle.xv_lone.specs.Journal.{Entry, Born, Changed, Load, Kick, Turn, replay}

region_of : (base size : ℕ) → Kind → Region
region_of base size kind = record { name = []; base = base; size = size; kind = kind }

vcpu_at : ℕ → VcpuPlan
vcpu_at start = record { start = start; priority = usual_priority }

plan : Plan
plan = record {
  regions = region_of flat_base 64 Ram ∷ [];
  vcpus = vcpu_at flat_base ∷ [];
}

-- memory that can't be written, where it starts; other memory, the same under a second address, and
-- a device
mixed : Plan
mixed = record {
  regions = region_of flat_base 64 Rom
      ∷ region_of 0x2000_0000 64 (Alias 0x1000_0000)
      ∷ region_of 0x1000_0000 64 Ram
      ∷ region_of 0x100 8 (Device Finisher)
      ∷ [];
  vcpus = vcpu_at flat_base ∷ [];
}

-- memory that can't be written, and a device
led : Plan
led = record {
  regions = region_of flat_base 128 Rom ∷ region_of 0x1000_0000 64 (Device Finisher) ∷ [];
  vcpus = vcpu_at flat_base ∷ [];
}

bytes_of : ℕ → ℕ → List ℕ
bytes_of zero n = []
bytes_of (suc width) n = n % 256 ∷ bytes_of width (n / 256)

memory_of : List ℕ → List ℕ
memory_of [] = []
memory_of (word ∷ words) = bytes_of 4 word ++ memory_of words

-- born at clock 50, with these words, and kicked; then turns at these clocks
journal : List ℕ → List ℕ → List Entry
journal words clocks = Born 50 ∷ Changed (Load flat_base (memory_of words)) ∷ Changed Kick
    ∷ map (λ clock. Changed (Turn 0 clock)) clocks

hart_number : HartState → ℕ
hart_number Started = 0
hart_number Waiting = 1
hart_number Suspended = 2
hart_number Stopped = 3

-- the hart state, the offset of the pc, and these registers
vcpu_shows : List ℕ → Option VcpuView → List ℕ
vcpu_shows ks None = []
vcpu_shows ks (Some v) = hart_number v.hart ∷ (v.pc - flat_base) ∷ map (λ k. slice_index v.x k) ks

-- scause, sepc and stval
vcpu_trap : Option VcpuView → List ℕ
vcpu_trap None = []
vcpu_trap (Some v) = v.csrs.scause ∷ v.csrs.sepc ∷ v.csrs.stval ∷ []

of_machine : (Option VcpuView → List ℕ) → Option Machine → List ℕ
of_machine shows None = []
of_machine shows (Some m) = shows (slice_get m.vcpus 0)

shows : List ℕ → List ℕ → List ℕ → List ℕ
shows words clocks ks = of_machine (vcpu_shows ks) (replay plan (journal words clocks))

traps : List ℕ → List ℕ
traps words = of_machine vcpu_trap (replay plan (journal words (50 ∷ [])))

-- the same of the mixed plan
mixed_shows : List ℕ → List ℕ → List ℕ
mixed_shows words ks = of_machine (vcpu_shows ks) (replay mixed (journal words (50 ∷ [])))

mixed_traps : List ℕ → List ℕ
mixed_traps words = of_machine vcpu_trap (replay mixed (journal words (50 ∷ [])))

-- the trap of `code`, at offset 56 of `led`, under Sv39: the root table is page 2^shift, and entry
-- 3 of the table at the base is `three`; entry 2 leads the base's GiB to itself. The handler of
-- traps, at offset 32, waits
led_traps : (shift three : ℕ) → List ℕ → List ℕ
led_traps shift three code =
    of_machine vcpu_trap (replay led
    (journal (0x00100293 ∷ ((63 - shift) * 2 ^ 20 + 0x29293) ∷ 0x00128293 ∷ 0x0180006f
    ∷ 0x200000cf ∷ 0 ∷ three ∷ 0 ∷ 0x10500073
    ∷ (shift * 2 ^ 20 + 0x29293) ∷ 0x00000317 ∷ 0xff830313 ∷ 0x10531073 ∷ 0x18029073 ∷ code)
    (50 ∷ [])))

bit : Bool → ℕ
bit true = 1
bit false = 0

end_number : TurnEnd → ℕ
end_number Spent = 0
end_number Waits = 1
end_number Stops = 2
end_number Halted = 3
end_number Rebooted = 4

-- whether VCPU 0 is ready, how its turn ends, and where each of its lone steps began; and whether
-- it is ready after that
turn_shows : Option Machine → List ℕ
turn_shows None = []
turn_shows (Some m) =
    bit (is_ready 0 0 m) ∷ end_number (ending plan 0 0 m) ∷ steps plan 0 0 m
    ∷ map (λ c. c.pc - flat_base) (visited plan 0 0 m) ++ bit (is_ready 0 0 (turn plan 0 0 m)) ∷ []

-- how a turn ends, the number of its lone steps, and what is seen of the VCPU after it
end_shows : List ℕ → Option Machine → List ℕ
end_shows ks None = []
end_shows ks (Some m) = end_number (ending plan 0 0 m) ∷ steps plan 0 0 m
    ∷ vcpu_shows ks (slice_get (turn plan 0 0 m).vcpus 0)

-- two VCPUs, of which the second starts at offset 16
pair : Plan
pair = record plan { vcpus = vcpu_at flat_base ∷ vcpu_at (flat_base + 16) ∷ [] }

-- VCPU h of the pair: whether it is ready, how its turn ends and after how many steps; and where
-- both are then
pair_shows : ℕ → Option Machine → List ℕ
pair_shows h None = []
pair_shows h (Some m) =
    bit (is_ready h 0 m) ∷ end_number (ending pair h 0 m) ∷ steps pair h 0 m
    ∷ vcpu_shows (7 ∷ []) (slice_get (turn pair h 0 m).vcpus 0)
    ++ vcpu_shows (7 ∷ []) (slice_get (turn pair h 0 m).vcpus 1)

-- x5 is the address of offset 32
at_x5 : List ℕ → List ℕ
at_x5 words = 0x00000297 ∷ 0x02028293 ∷ words

-- the handler of traps, at offset 16, waits
handled : ℕ → List ℕ
handled word = 0x00000297 ∷ 0x01028293 ∷ 0x10529073 ∷ word ∷ 0x10500073 ∷ []

table : List (List ℕ × List ℕ)
table =
    -- WFI with nothing enabled: the VCPU waits behind it
    (shows (0x10500073 ∷ []) (50 ∷ []) [], 1 ∷ 4 ∷ [])
    -- with a software interrupt pending and enabled, and SIE 0, it goes on
    ∷ (
      shows (0x14415073 ∷ 0x10415073 ∷ 0x10500073 ∷ 0x00100393 ∷ 0x10405073 ∷ 0x10500073 ∷ [])
          (50 ∷ []) (7 ∷ []),
      1 ∷ 24 ∷ 1 ∷ [],
    )
    -- with the timer's interrupt alone enabled it waits, as the compare is 2^64 - 1
    ∷ (shows (0x02000313 ∷ 0x10431073 ∷ 0x10500073 ∷ []) (50 ∷ []) [], 1 ∷ 12 ∷ [])
    -- a store, and a load of what it stored
    ∷ (
      shows (at_x5 (0x00700313 ∷ 0x0062b023 ∷ 0x0002b383 ∷ 0x10500073 ∷ [])) (50 ∷ []) (7 ∷ []),
      1 ∷ 24 ∷ 7 ∷ [],
    )
    -- LR.D and SC.D in one turn, and in two
    ∷ (
      shows (at_x5 (0x1002b3af ∷ 0x1802b32f ∷ 0x10500073 ∷ [])) (50 ∷ []) (6 ∷ []),
      1 ∷ 20 ∷ 0 ∷ [],
    )
    ∷ (
      shows (at_x5 (0x1002b3af ∷ 0x10500073 ∷ 0x1802b32f ∷ 0x10500073 ∷ [])) (50 ∷ 150 ∷ [])
          (6 ∷ []),
      1 ∷ 24 ∷ 1 ∷ [],
    )
    -- ECALL in S: -2 and 0
    ∷ (
      shows (0x00500593 ∷ 0x00000073 ∷ 0x10500073 ∷ []) (50 ∷ []) (10 ∷ 11 ∷ []),
      1 ∷ 12 ∷ (2 ^ 64 - 2) ∷ 0 ∷ [],
    )
    -- time is the clock less the birth
    ∷ (shows (0xc01023f3 ∷ 0x10500073 ∷ []) (80 ∷ []) (7 ∷ []), 1 ∷ 8 ∷ 30 ∷ [])
    -- before its birth's clock guest time is past 2^64, and below it again
    ∷ (shows (0xc01023f3 ∷ 0x10500073 ∷ []) (20 ∷ []) (7 ∷ []), 1 ∷ 8 ∷ (2 ^ 64 - 30) ∷ [])
    -- at 2^64 - 1 it reaches the timer's compare of a reset: WFI goes on where the timer's
    -- interrupt is enabled, and an interrupt is taken where SIE is set too
    ∷ (
      shows (0x02000313 ∷ 0x10431073 ∷ 0x10500073 ∷ 0x00100393 ∷ 0x10401073 ∷ 0x10500073 ∷ [])
          (49 ∷ []) (7 ∷ []),
      1 ∷ 24 ∷ 1 ∷ [],
    )
    ∷ (
      of_machine vcpu_trap
          (replay plan
          (journal (0x00000297 ∷ 0x01c28293 ∷ 0x10529073 ∷ 0x02000313 ∷ 0x10431073 ∷ 0x10015073
          ∷ 0x00000013 ∷ 0x0000006f ∷ []) (49 ∷ []))),
      (2 ^ 63 + 5) ∷ (flat_base + 24) ∷ 0 ∷ [],
    )
    -- a turn that is spent: a loop of two instructions
    ∷ (
      end_shows (7 ∷ []) (replay plan (journal (0x00138393 ∷ 0xffdff06f ∷ []) [])),
      0 ∷ 1000 ∷ 0 ∷ 0 ∷ 500 ∷ [],
    )
    -- of two VCPUs a kick starts the first alone, and its turn leaves the second; a turn of the
    -- second, which is stopped, has no step
    ∷ (
      pair_shows 0 (replay pair (journal (0x00100393 ∷ 0x10500073 ∷ []) [])),
      1 ∷ 1 ∷ 2 ∷ 1 ∷ 8 ∷ 1 ∷ 3 ∷ 16 ∷ 0 ∷ [],
    )
    ∷ (
      pair_shows 1 (replay pair (journal (0x00100393 ∷ 0x10500073 ∷ []) [])),
      0 ∷ 2 ∷ 0 ∷ 0 ∷ 0 ∷ 0 ∷ 3 ∷ 16 ∷ 0 ∷ [],
    )
    -- a turn of two steps, the second of which waits; and a guest that wasn't kicked
    ∷ (
      turn_shows (replay plan (journal (0x00100393 ∷ 0x10500073 ∷ []) [])),
      1 ∷ 1 ∷ 2 ∷ 0 ∷ 4 ∷ 0 ∷ [],
    )
    ∷ (turn_shows (replay plan (Born 0 ∷ [])), 0 ∷ 2 ∷ 0 ∷ 0 ∷ [])
    -- a load, a store and a fetch at 0, where no memory is: causes 5, 7 and 1
    ∷ (traps (handled 0x00003383), 5 ∷ (flat_base + 12) ∷ 0 ∷ [])
    ∷ (traps (handled 0x00003023), 7 ∷ (flat_base + 12) ∷ 0 ∷ [])
    ∷ (traps (handled 0x00000067), 1 ∷ 0 ∷ 0 ∷ [])
    -- code in memory that can't be written, and a store there
    ∷ (mixed_traps (handled 0x0002b823), 7 ∷ (flat_base + 12) ∷ (flat_base + 32) ∷ [])
    -- a load and a store of 8 bytes at a device that takes 4, and a fetch from a hole
    ∷ (mixed_traps (handled 0x10003383), 5 ∷ (flat_base + 12) ∷ 0x100 ∷ [])
    ∷ (mixed_traps (handled 0x10703023), 7 ∷ (flat_base + 12) ∷ 0x100 ∷ [])
    ∷ (mixed_traps (handled 0x00000067), 1 ∷ 0 ∷ 0 ∷ [])
    -- under Sv39, by a leaf with W and D: a store to memory that can't be written, and a load of a
    -- device
    ∷ (
      led_traps 19 0x200000cf (0x00300393 ∷ 0x01e39393 ∷ 0x0073b023 ∷ []),
      7 ∷ (flat_base + 64) ∷ 0xc000_0000 ∷ [],
    )
    ∷ (
      led_traps 19 0xcf (0x00d00393 ∷ 0x01c39393 ∷ 0x0003b403 ∷ []),
      5 ∷ (flat_base + 64) ∷ 0xd000_0000 ∷ [],
    )
    -- a root table in a device, and in a hole: each fetch faults, the handler's too
    ∷ (led_traps 16 0 [], 1 ∷ (flat_base + 32) ∷ (flat_base + 32) ∷ [])
    ∷ (led_traps 20 0 [], 1 ∷ (flat_base + 32) ∷ (flat_base + 32) ∷ [])
    -- an entry of the root table that names that table: on the last level it is no leaf
    ∷ (
      led_traps 19 0x20000001
          (0x00300393 ∷ 0x00939393 ∷ 0x00338393 ∷ 0x00939393 ∷ 0x00338393 ∷ 0x00c39393 ∷ 0x0073b023
          ∷ []),
      15 ∷ (flat_base + 80) ∷ 0xc060_3000 ∷ [],
    )
    -- LR.D under the second address and SC.D under the first, and the other way round: each is a
    -- reservation of the one place, and what is stored is seen under both
    ∷ (
      mixed_shows (0x200002b7 ∷ 0x10000337 ∷ 0x1002b3af ∷ 0x1863342f ∷ 0x0002b483 ∷ 0x10500073 ∷ [])
          (8 ∷ 9 ∷ []),
      1 ∷ 24 ∷ 0 ∷ 0x1000_0000 ∷ [],
    )
    ∷ (
      mixed_shows (0x200002b7 ∷ 0x10000337 ∷ 0x100333af ∷ 0x1862b42f ∷ 0x00033483 ∷ 0x10500073 ∷ [])
          (8 ∷ 9 ∷ []),
      1 ∷ 24 ∷ 0 ∷ 0x1000_0000 ∷ [],
    )
    ∷ []

the_rows : map (λ r. r.0) table ≡ map (λ r. r.1) table
unfolding region_of vcpu_at plan mixed mixed_shows mixed_traps led led_traps path kind_of cell
    finisher_outcome after_gateways external_line sources_up
    bytes_of memory_of journal hart_number vcpu_shows vcpu_trap of_machine shows traps bit
    end_number turn_shows end_shows pair pair_shows at_x5 handled table replay ending visited
    answered steps turn whole_turn iterate lone_step step word_at put put_word decode_of row_of rows
    form_of operation_at effect_of chosen_interrupt pending sip_of csr_read csr_written register_of
    trap_csrs handler return_csrs returns_to_user kept_stvec kept_sie kept_satp kept_sstatus
    reset_csrs verdict call_of
the_rows = refl
