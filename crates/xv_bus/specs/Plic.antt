-- The interrupt controller: an automaton after the RISC-V Platform-Level Interrupt Controller
-- Specification 1.0.0, with 63 sources, 7 levels of priority, and a context for each VCPU, at most
-- 8. Masks have bit k for source k, and no bit 0.
use Rattle.std.specs.Prelude.{◌≡◌, ◌<◌, ◌≤◌, length, ℕ, ◌+◌, ◌-◌, ◌*◌, ◌/◌, ◌%◌, ◌^◌, ◌==◌, Bool}
use Rattle.std.specs.Prelude.{true, false, ◌&&◌, if◌then◌else◌, List, [], ◌∷◌, replicate}
use Rattle.std.specs.Prelude.{slice_index, slice_set, nat_le, nat_lt, bit_and, bit_or, Option, Some}
use Rattle.std.specs.Prelude.{None, unwrap_or}
use Rattle.std.specs.Option.{option_map_or}
use Rattle.xv_base.specs.Bits.{has_bit, with_bit}
use Rattle.xv_bus.specs.declared.access.Access.{Access}
use Rattle.xv_bus.specs.declared.access.Access.TheVariants.{Load, Store}
use Rattle.xv_bus.specs.declared.access.Outcome.TheVariants.{Value, Done, Refused}
use Rattle.xv_bus.specs.declared.access.Width.TheVariants.{W4}
use Rattle.xv_bus.specs.declared.registers.Half.{Half}
use Rattle.xv_bus.specs.declared.registers.Half.TheVariants.{Low, High}
use Rattle.xv_bus.specs.declared.registers.PlicRegister.{PlicRegister}
use Rattle.xv_bus.specs.declared.registers.PlicRegister.TheVariants.{Priority, Pending, Enables}
use Rattle.xv_bus.specs.declared.registers.PlicRegister.TheVariants.{Threshold, Claim}
use Rattle.xv_bus.specs.Below.{some_below, least_below, greatest_below}
use Rattle.xv_bus.specs.Device.{Answer, answer}

-- `priority` has 64 numbers, the first of no source; `enables` and `threshold` have 8, of which the
-- first `contexts` are in use
pub record PlicUnit : Type 0 where
  pub contexts : ℕ
  pub priority : List ℕ
  pub pending : ℕ
  pub in_service : ℕ
  pub enables : List ℕ
  pub threshold : List ℕ

-- after a reset
unfoldable pub new_plic : ℕ → PlicUnit
new_plic contexts =
    record {
      contexts = contexts;
      priority = replicate 64 0;
      pending = 0;
      in_service = 0;
      enables = replicate 8 0;
      threshold = replicate 8 0;
    }

unfoldable pub plic_reset : PlicUnit → PlicUnit
plic_reset plic = new_plic plic.contexts

abbrev pub priority_of : PlicUnit → ℕ → ℕ
priority_of plic id = slice_index plic.priority id

abbrev pub enables_of : PlicUnit → ℕ → ℕ
enables_of plic context = slice_index plic.enables context

abbrev pub threshold_of : PlicUnit → ℕ → ℕ
threshold_of plic context = slice_index plic.threshold context

-- ---- the gateways (chapter Interrupt Gateways)

-- the sources whose lines are up become pending, but for those in service; a line that falls
-- changes nothing
unfoldable pub lifted : ℕ → PlicUnit → PlicUnit
lifted lines plic =
    record plic { pending = bit_or plic.pending (bit_and lines (2 ^ 64 - 1 - plic.in_service)) }

-- ---- the lines of the contexts (chapters Interrupt Enables, Priority Thresholds)

-- pending, and enabled for the context
abbrev pub is_waiting : PlicUnit → ℕ → ℕ → Bool
is_waiting plic context id = has_bit id plic.pending && has_bit id (enables_of plic context)

abbrev pub is_above_threshold : PlicUnit → ℕ → ℕ → Bool
is_above_threshold plic context id =
    is_waiting plic context id && nat_lt (threshold_of plic context) (priority_of plic id)

-- up where some waiting source has a priority above the threshold
unfoldable pub context_line : PlicUnit → ℕ → Bool
context_line plic context = some_below (is_above_threshold plic context) 64

-- ---- claim and completion (chapters Interrupt Claim Process, Interrupt Completion)

-- a source that may be claimed: waiting, of a priority above 0, whatever the threshold
abbrev pub is_candidate : PlicUnit → ℕ → ℕ → Bool
is_candidate plic context id = is_waiting plic context id && nat_lt 0 (priority_of plic id)

-- the greatest priority of a candidate
abbrev pub top_priority : PlicUnit → ℕ → ℕ
top_priority plic context = greatest_below (is_candidate plic context) (priority_of plic) 64

-- the least candidate of that priority
unfoldable pub claim : PlicUnit → ℕ → Option ℕ
claim plic context =
    let top = top_priority plic context in
    least_below (λ id. is_candidate plic context id && priority_of plic id == top) 64

-- what is claimed is in service, and pending no more
abbrev pub claimed : PlicUnit → ℕ → PlicUnit
claimed plic id =
    record plic {
      pending = with_bit id false plic.pending;
      in_service = with_bit id true plic.in_service;
    }

-- an id that the context may complete: enabled for it, and in service
abbrev pub is_served : PlicUnit → ℕ → ℕ → Bool
is_served plic context id =
    nat_lt id 64 && has_bit id (enables_of plic context) && has_bit id plic.in_service

abbrev pub completed : PlicUnit → ℕ → ℕ → PlicUnit
completed plic context id =
    if is_served plic context id
    then record plic { in_service = with_bit id false plic.in_service } else plic

-- ---- registers (chapter Memory Map)

-- an offset is that of one of `count` registers, the first at the offset `first` and each `stride`
-- behind the one before
abbrev pub is_within : (first stride count at : ℕ) → Bool
is_within first stride count at =
    nat_le first at && (at - first) % stride == 0 && nat_lt ((at - first) / stride) count

-- such registers, by which of them it is, from 0 on
pub record Block : Type 0 where
  pub first : ℕ
  pub stride : ℕ
  pub count : ℕ
  pub register : ℕ → PlicRegister

abbrev pub block : ℕ → ℕ → ℕ → (ℕ → PlicRegister) → Block
block first stride count register =
    record { first = first; stride = stride; count = count; register = register }

-- the map, with so many contexts
abbrev pub blocks : ℕ → List Block
blocks contexts =
    block 0x4 0x4 63 (λ k. Priority (k + 1))
    ∷ block 0x1000 0x4 1 (λ k. Pending Low)
    ∷ block 0x1004 0x4 1 (λ k. Pending High)
    ∷ block 0x2000 0x80 contexts (λ k. Enables k Low)
    ∷ block 0x2004 0x80 contexts (λ k. Enables k High)
    ∷ block 0x20_0000 0x1000 contexts Threshold
    ∷ block 0x20_0004 0x1000 contexts Claim
    ∷ []

abbrev pub register_in : List Block → ℕ → Option PlicRegister
register_in [] at = None
register_in (b ∷ bs) at =
    if is_within b.first b.stride b.count at
    then Some (b.register ((at - b.first) / b.stride))
    else register_in bs at

unfoldable pub plic_register : ℕ → ℕ → Option PlicRegister
plic_register contexts at = register_in (blocks contexts) at

-- one half of a mask
abbrev pub half_of : Half → ℕ → ℕ
half_of Low mask = mask % 2 ^ 32
half_of High mask = mask / 2 ^ 32

abbrev pub with_half : Half → ℕ → ℕ → ℕ
with_half Low value mask = mask / 2 ^ 32 * 2 ^ 32 + value
with_half High value mask = mask % 2 ^ 32 + value * 2 ^ 32

-- the enables of a context, with one half written; bit 0 stays 0
abbrev pub with_enables : ℕ → Half → ℕ → PlicUnit → PlicUnit
with_enables context half value plic =
    record plic {
      enables = slice_set plic.enables context
          (with_bit 0 false (with_half half value (enables_of plic context)));
    }

-- what a read gives
unfoldable pub plic_shown : PlicUnit → PlicRegister → ℕ
plic_shown plic (Priority id) = priority_of plic id
plic_shown plic (Pending half) = half_of half plic.pending
plic_shown plic (Enables context half) = half_of half (enables_of plic context)
plic_shown plic (Threshold context) = threshold_of plic context
plic_shown plic (Claim context) = unwrap_or (claim plic context) 0

-- what a read leaves: that of a claim register claims
unfoldable pub plic_after_read : PlicUnit → PlicRegister → PlicUnit
plic_after_read plic (Priority id) = plic
plic_after_read plic (Pending half) = plic
plic_after_read plic (Enables context half) = plic
plic_after_read plic (Threshold context) = plic
plic_after_read plic (Claim context) = option_map_or (claimed plic) (claim plic context) plic

-- what a write leaves: priorities and thresholds keep 3 bits, and a write of a claim register
-- completes
unfoldable pub plic_written : PlicUnit → PlicRegister → ℕ → PlicUnit
plic_written plic (Priority id) value =
    record plic { priority = slice_set plic.priority id (value % 2 ^ 3) }
plic_written plic (Pending half) value = plic
plic_written plic (Enables context half) value = with_enables context half value plic
plic_written plic (Threshold context) value =
    record plic { threshold = slice_set plic.threshold context (value % 2 ^ 3) }
plic_written plic (Claim context) value = completed plic context value

-- ---- accesses

abbrev pub load_answer : PlicUnit → Option PlicRegister → Answer PlicUnit
load_answer plic None = answer plic (Value 0)
load_answer plic (Some register) =
    answer (plic_after_read plic register) (Value (plic_shown plic register))

abbrev pub store_answer : PlicUnit → ℕ → Option PlicRegister → Answer PlicUnit
store_answer plic value None = answer plic Done
store_answer plic value (Some register) = answer (plic_written plic register value) Done

-- a read and a write at an offset; where no register is, a read gives 0 and a write does nothing
abbrev pub plic_load : PlicUnit → ℕ → Answer PlicUnit
plic_load plic at = load_answer plic (plic_register plic.contexts at)

abbrev pub plic_store : PlicUnit → ℕ → ℕ → Answer PlicUnit
plic_store plic at value = store_answer plic value (plic_register plic.contexts at)

-- an access of four bytes
abbrev pub aligned_answer : PlicUnit → ℕ → Answer PlicUnit → Answer PlicUnit
aligned_answer plic at given = if at % 4 == 0 then given else answer plic Refused

-- aligned accesses of four bytes alone
unfoldable pub plic_accessed : PlicUnit → ℕ → Access → Answer PlicUnit
plic_accessed plic at (Load W4) = aligned_answer plic at (plic_load plic at)
plic_accessed plic at (Store W4 value) = aligned_answer plic at (plic_store plic at value)
plic_accessed plic at (Load width) = answer plic Refused
plic_accessed plic at (Store width value) = answer plic Refused

-- ---- what the controller can hold

-- each mask without bit 0, priorities and thresholds of 3 bits, no priority of no source, and zeros
-- for the contexts that aren't there
pub record IsPlic (plic : PlicUnit) : Type 0 where
  pub contexts : plic.contexts ≤ 8
  pub lengths : (length plic.priority ≡ 64) × (length plic.enables ≡ 8)
      × (length plic.threshold ≡ 8)
  pub no_source : priority_of plic 0 ≡ 0
  pub priority : (id : ℕ) → priority_of plic id < 2 ^ 3
  pub pending : has_bit 0 plic.pending ≡ false
  pub in_service : has_bit 0 plic.in_service ≡ false
  pub enables : (context : ℕ) → has_bit 0 (enables_of plic context) ≡ false
  pub threshold : (context : ℕ) → threshold_of plic context < 2 ^ 3
  pub absent : (context : ℕ) → plic.contexts ≤ context → (enables_of plic context ≡ 0)
      × (threshold_of plic context ≡ 0)
