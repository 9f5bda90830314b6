-- A lone machine keeps as many VCPUs as its plan has, whatever happens to it.
use Rattle.std.proofs.Common.{◌≡◌, ℕ, zero, suc, Bool, true, false, cond, eqb, ltb, ◌||◌, length}
use Rattle.std.proofs.Common.{refl, ap}
use Rattle.std.proofs.Common.{◌∙◌, List, [], ◌∷◌, Option, Some, None, option_map, slice_get, subst}
use Rattle.std.proofs.lemmas.List.{length-set, length-map}
use Rattle.xv_step.specs.Outcome.{Ask, TableEntry, Target, Plain, Call, Wait, Outcome, Went, Raised}
use Rattle.xv_step.specs.Outcome.{Left, width_of}
use Rattle.xv_isa.specs.Effects as effects
use Rattle.xv_emul.specs.Emulation.{at_bus}
use Rattle.xv_bus.specs.declared.access.Outcome as outcomes
use Rattle.xv_bus.specs.declared.access.Outcome.TheVariants.{Value, Done, Refused, Halt as Halts}
use Rattle.xv_bus.specs.declared.access.Outcome.TheVariants.{Reboot}
use Rattle.xv_region.specs.declared.cell.Cell.{Cell}
use Rattle.xv_region.specs.declared.cell.Cell.TheVariants as cells
use Rattle.xv_region.specs.Cell.{cell}
use Rattle.xv_step.specs.Bus.{Spot}
use Rattle.xv_step.specs.Step.{step}
use Rattle.xv_region.specs.Plan.{Plan}
use Rattle.xv_lone.specs.declared.vcpu.VcpuView.{VcpuView}
use Rattle.xv_lone.specs.Memory.{Memory, Place, spot_at}
use Rattle.xv_lone.specs.Machine.{Machine, access_in, after_access, guest_time, on_vcpu_of}
use Rattle.xv_lone.specs.Machine.{reset_parts, rebooted}
use Rattle.xv_lone.specs.Calls.{Reply, Returns, StopsCaller, HaltsGuest, RebootsGuest, call_in}
use Rattle.xv_bus.specs.declared.access.Ending.TheVariants.{Shutdown}
use Rattle.xv_lone.specs.Calls.{fails, invalid_param, is_reserved, may_start, replied}
use Rattle.xv_lone.specs.Calls.{signalled_from, start, start_from}
use Rattle.xv_lone.specs.Calls.{status}
use Rattle.xv_lone.specs.declared.vcpu.HartState.{HartState}
use Rattle.xv_lone.specs.declared.vcpu.HartState.TheVariants.{Started, Waiting, Suspended, Stopped}
use Rattle.xv_sbi.specs.declared.call.Call.{Call as SbiCall}
use Rattle.xv_sbi.specs.declared.call.Call.TheVariants as calls
use Rattle.xv_sbi.specs.Mask.{mask_ok}
use Rattle.xv_lone.specs.Journal.{Change, Load, Kick, Pause, Resume, Reset, Halt, Input, Dump, Turn}
use Rattle.xv_lone.specs.Journal.{after_change, stored_at}
use Rattle.xv_lone.specs.Step.{OnHart, after, answered, by_cell, by_outcome, inputs_at, hart_of}
use Rattle.xv_lone.specs.Step.{lone_bus}
use Rattle.xv_lone.specs.Step.{by_reply, lone_step, stepped}
use Rattle.xv_lone.specs.Turn.{InTurn, begin, iterate, or_on, one_more, one_more_of, runs_on}
use Rattle.xv_lone.specs.Turn.{turn, whole_turn, with_step}

-- ---- an iteration keeps what each of its turns keeps

on_keeps : {S : Type 0} (P : S → Type 0) (next : S → S) → ((t : S) → P t → P (next t)) → (s : S)
    → (o : Option S) → P s → ((t : S) → o ≡ Some t → P t) → P (or_on next s o)
on_keeps P next keeps s None now made = now
on_keeps P next keeps s (Some t) now made = keeps t (made t refl)

iterate_keeps : {S : Type 0} (P : S → Type 0) (f : S → Option S)
    → ((s t : S) → f s ≡ Some t → P s → P t) → (n : ℕ) (s : S) → P s → P (iterate f n s)
unfolding iterate
iterate_keeps P f keeps zero s now = now
iterate_keeps P f keeps (suc n) s now =
    on_keeps P (iterate f n) (iterate_keeps P f keeps n) s (f s) now (λ t is. keeps s t is now)

module _ (plan : Plan) where
  -- the machine has a view for each VCPU of the plan
  abbrev pub IsFull : Machine → Type 0
  IsFull m = length m.vcpus ≡ length plan.vcpus

  on_vcpu_full : (h : ℕ) (change : VcpuView → VcpuView) (m : Machine) (o : Option VcpuView)
      → IsFull m → IsFull (on_vcpu_of h change m o)
  on_vcpu_full h change m None full = full
  on_vcpu_full h change m (Some v) full = length-set m.vcpus h (change v) ∙ full

  reset_full : (m : Machine) → IsFull (rebooted plan m)
  reset_full m =
      let reset = reset_parts plan m in
      on_vcpu_full 0 _ reset (slice_get reset.vcpus 0) (length-map plan.vcpus _)

  -- ---- an access to a device

  module _ (h : ℕ) (v : VcpuView) (access : effects.Access) (next : ℕ) where
    outcome_full : (r : OnHart) → IsFull r.machine → (o : outcomes.Outcome)
        → IsFull (by_outcome plan h v access next r o).on_hart.machine
    outcome_full r full (Value value) = length-set r.machine.vcpus h _ ∙ full
    outcome_full r full Done = length-set r.machine.vcpus h _ ∙ full
    outcome_full r full Refused = length-set r.machine.vcpus h _ ∙ full
    outcome_full r full (Halts ending) = length-set r.machine.vcpus h _ ∙ full
    outcome_full r full Reboot = reset_full r.machine

    cell_full : (r : OnHart) → IsFull r.machine → (c : Cell)
        → IsFull (by_cell plan h v access next r c).on_hart.machine
    cell_full r full (cells.Memory region offset writable) =
        length-set r.machine.vcpus h _ ∙ full
    cell_full r full (cells.Device region offset) =
        let accessed = access_in plan region offset (at_bus access) r.machine in
        outcome_full (record r { machine = after_access plan region accessed r.machine }) full
        accessed.outcome
    cell_full r full cells.Nothing = length-set r.machine.vcpus h _ ∙ full

  -- ---- a call

  signals_full : (mask base k : ℕ) (vs : List VcpuView)
      → length (signalled_from mask base k vs) ≡ length vs
  unfolding signalled_from
  signals_full mask base k [] = refl
  signals_full mask base k (v ∷ vs) = ap suc (signals_full mask base (suc k) vs)

  -- a reply's machine, where there is one
  abbrev ReplyFull : Reply → Type 0
  ReplyFull (Returns error value m) = IsFull m
  ReplyFull StopsCaller = Unit {0}
  ReplyFull (HaltsGuest ending) = Unit {0}
  ReplyFull RebootsGuest = Unit {0}

  module _ (h : ℕ) (m : Machine) (full : IsFull m) where
    if_full : (b : Bool) (one other : Reply) → ReplyFull one → ReplyFull other
        → ReplyFull (cond b one other)
    if_full true one other of_one of_other = of_one
    if_full false one other of_one of_other = of_other

    started_full : (hart address opaque : ℕ) (state : HartState)
        → ReplyFull (start_from plan hart address opaque m state)
    started_full hart address opaque Started = full
    started_full hart address opaque Waiting = full
    started_full hart address opaque Suspended = full
    started_full hart address opaque Stopped =
        if_full (may_start plan address) _ _ (length-set m.vcpus hart _ ∙ full) full

    start_full : (hart address opaque : ℕ) (o : Option VcpuView)
        → ReplyFull (start plan hart address opaque m o)
    start_full hart address opaque None = full
    start_full hart address opaque (Some v) = started_full hart address opaque v.hart

    status_full : (o : Option VcpuView) → ReplyFull (status m o)
    status_full None = full
    status_full (Some v) = full

    reply_full : (c : SbiCall) → ReplyFull (replied plan h m c)
    reply_full calls.SpecVersion = full
    reply_full calls.ImplId = full
    reply_full calls.ImplVersion = full
    reply_full (calls.Probe extension) = full
    reply_full calls.VendorId = full
    reply_full calls.ArchId = full
    reply_full calls.MachineId = full
    reply_full (calls.SetTimer compare) = on_vcpu_full h _ m (slice_get m.vcpus h) full
    reply_full (calls.Ipi mask base) =
        if_full (mask_ok mask base (length m.vcpus)) _ _
        (signals_full mask base 0 m.vcpus ∙ full) full
    reply_full (calls.Fence mask base) =
        if_full (mask_ok mask base (length m.vcpus)) _ _ full full
    reply_full (calls.HartStart hart address opaque) =
        start_full hart address opaque (slice_get m.vcpus hart)
    reply_full calls.HartStop = tt {0}
    reply_full (calls.HartStatus hart) = status_full (slice_get m.vcpus hart)
    reply_full (calls.HartSuspend kind) =
        if_full (eqb kind 0) _ _ (on_vcpu_full h _ m (slice_get m.vcpus h) full)
        (if_full (is_reserved kind) _ _ full full)
    reply_full (calls.SystemReset kind reason) =
        if_full (ltb 2 kind || ltb 1 reason) (fails invalid_param m)
        (cond (eqb kind 0) (HaltsGuest Shutdown) RebootsGuest) full
        (if_full (eqb kind 0) (HaltsGuest Shutdown) RebootsGuest (tt {0}) (tt {0}))
    reply_full calls.Unknown = full

  -- ---- a turn

  module _ (h t : ℕ) (r : OnHart) (v : VcpuView) (full : IsFull r.machine) where
    by_reply_full : (next : ℕ) (reply : Reply) → ReplyFull reply
        → IsFull (by_reply plan h t r v next reply).on_hart.machine
    by_reply_full next (Returns error value m) of_reply =
        on_vcpu_full h _ m (slice_get m.vcpus h) of_reply
    by_reply_full next StopsCaller of_reply = length-set r.machine.vcpus h _ ∙ full
    by_reply_full next (HaltsGuest ending) of_reply = length-set r.machine.vcpus h _ ∙ full
    by_reply_full next RebootsGuest of_reply = reset_full r.machine

    answered_full : (ask : Ask) → IsFull (answered plan h t r v ask).on_hart.machine
    unfolding answered
    answered_full (TableEntry access va gpa) = length-set r.machine.vcpus h _ ∙ full
    answered_full (Target access va gpa) = length-set r.machine.vcpus h _ ∙ full
    answered_full (Plain access gpa next) =
        cell_full h v access next r full (cell plan.regions gpa (width_of access))
    answered_full (Call next) =
        let call = call_in v.x in
        by_reply_full next (replied plan h r.machine call) (reply_full h r.machine full call)
    answered_full (Wait next) = length-set r.machine.vcpus h _ ∙ full

    after_full : (o : Outcome Memory Place) → IsFull (after plan h t r v o).on_hart.machine
    after_full (Went s) = length-set r.machine.vcpus h _ ∙ full
    after_full (Raised cause tval) = length-set r.machine.vcpus h _ ∙ full
    after_full (Left ask) = answered_full ask

    stepped_full : IsFull (stepped plan h t r v).on_hart.machine
    stepped_full = after_full (step (lone_bus plan) (inputs_at h t r.machine v) (hart_of r v))

  one_more_full : (h t : ℕ) (r next : InTurn) (o : Option VcpuView)
      → one_more_of plan h t r o ≡ Some next → IsFull r.on_hart.machine
      → IsFull next.on_hart.machine
  unfolding lone_step
  one_more_full h t r next None is full = cc
  one_more_full h t r next (Some v) is full =
      by_step (runs_on r.onward v.hart) (slice_get r.on_hart.machine.vcpus h) is
    where
      by_step : (on : Bool) (o : Option VcpuView)
          → cond on (option_map (with_step r v) (option_map (stepped plan h t r.on_hart) o)) None
          ≡ Some next → IsFull next.on_hart.machine
      by_step false o is = cc
      by_step true None is = cc
      by_step true (Some w) is =
          let same : with_step r v (stepped plan h t r.on_hart w) ≡ next = cc in
          subst (λ (x : InTurn). IsFull x.on_hart.machine) same
          (stepped_full h t r.on_hart w full)

  turn_full : (h t : ℕ) (m : Machine) → IsFull m → IsFull (turn plan h t m)
  unfolding turn whole_turn
  turn_full h t m full =
      iterate_keeps (λ (r : InTurn). IsFull r.on_hart.machine) (one_more plan h t)
      (λ s next is now. one_more_full h t s next (slice_get s.on_hart.machine.vcpus h) is now)
      1000 (begin h m) (on_vcpu_full h _ m (slice_get m.vcpus h) full)

  -- ---- every change

  stored_full : (bytes : List ℕ) (m : Machine) (o : Option (Spot Place)) → IsFull m
      → IsFull (stored_at bytes m o)
  stored_full bytes m None full = full
  stored_full bytes m (Some spot) full = full

  pub change_full : (change : Change) (m : Machine) → IsFull m
      → IsFull (after_change plan change m)
  change_full (Load gpa bytes) m full =
      stored_full bytes m (spot_at plan (length bytes) gpa) full
  change_full Kick m full = on_vcpu_full 0 _ m (slice_get m.vcpus 0) full
  change_full Pause m full = full
  change_full Resume m full = full
  change_full (Reset clock) m full = length-map plan.vcpus _
  change_full Halt m full = full
  change_full (Input region bytes) m full = full
  change_full (Dump region) m full = full
  change_full (Turn vcpu clock) m full = turn_full vcpu (guest_time clock m) m full
