-- The hart's step over host bytes, with the monitor's answer to its trap, is the lone step of the
-- guest's machine.
use Rattle.std.proofs.Common.{◌≡◌, ℕ, Bool, true, false, cond, List, [], Option, Some, None}
use Rattle.std.proofs.Common.{subst, refl, sym, ap, ◌∙◌}
use Rattle.std.proofs.lemmas.Bool.{cond-true}
use Rattle.xv_base.specs.Bits.{has_bit}
use Rattle.xv_csr.specs.declared.Lines.{Lines}
use Rattle.xv_hcsr.specs.declared.HCsrs.{HCsrs}
use Rattle.xv_hcsr.specs.Delegation.{is_delegated}
use Rattle.xv_hcsr.specs.Guest.{IsForGuest}
use Rattle.xv_hcsr.specs.Lines.{external_line}
use Rattle.xv_hcsr.specs.Stage.{root_of}
use Rattle.xv_hcsr.specs.Time.{guest_time}
use Rattle.xv_hcsr.proofs.LineLemmas.{with_lines-software, with_lines-timer, with_lines-external}
use Rattle.xv_step.specs.State.{Held as Reservation, State, trapped}
use Rattle.xv_step.specs.Outcome.{Ask, TableEntry, Target, Plain, Call, Wait, Outcome, Went, Raised}
use Rattle.xv_step.specs.Outcome.{Left}
use Rattle.xv_step.specs.Step.{step, fetched_word}
use Rattle.xv_step.proofs.AskLemmas.{LeavesWord, step_asks}
use Rattle.xv_step.proofs.BusLemmas as buses
use Rattle.xv_step.proofs.BusLemmas.{AreJoined, Nothing}
use Rattle.xv_step.proofs.NextLemmas.{LeavesNext, step_next, IsRaised, FetchMisaligned, Illegal}
use Rattle.xv_step.proofs.NextLemmas.{Breakpoint, LoadMisaligned, StoreMisaligned, UserCall}
use Rattle.xv_step.proofs.NextLemmas.{FetchPageFault, LoadPageFault, StorePageFault}
use Rattle.xv_hart.specs.declared.exit.Exit.{Exit}
use Rattle.xv_hart.specs.declared.exit.Exit.TheVariants.{Done, Trap}
use Rattle.xv_hart.specs.declared.exit.HTrap.{HTrap}
use Rattle.xv_hart.specs.declared.regs.Held.{Held}
use Rattle.xv_hart.specs.declared.regs.Regs.{Regs}
use Rattle.xv_hart.specs.Memory.{bus_of}
use Rattle.xv_hart.specs.Stage.{stage_bus}
use Rattle.xv_hart.specs.Step.{HStep, came, exit_of, state_of, inputs_of, held_of, outcome_of}
use Rattle.xv_hart.specs.Step.{hart_step, trap_of, lines_of, ended, raised, IsWellFormed}
use Rattle.xv_hart.proofs.StepLemmas.{ssip_guest}
use Rattle.xv_lone.specs.declared.vcpu.HartState.{HartState}
use Rattle.xv_lone.specs.declared.vcpu.HartState.TheVariants.{Started}
use Rattle.xv_lone.specs.Memory.{Memory, Place}
use Rattle.xv_lone.specs.Step as lone
use Rattle.xv_lone.specs.Step.{After, On, OnHart, lone_bus, inputs_at, hart_of, goes_on}
use Rattle.xv_lone.specs.declared.vcpu.VcpuView.{VcpuView}
use Rattle.xv_guest.specs.Guest.{Guest, held_of as holdings_of, lone_of, root_or_none}
use Rattle.xv_guest.specs.Held.{memory_of}
use Rattle.xv_host.specs.Join.{StandsIn, IsGoodFor}
use Rattle.xv_firmware.specs.declared.calls.Progress.TheVariants.{Goes}
use Rattle.xv_host.specs.Monitor.{TellsAccess, access_by, monitored, word_of}
use Rattle.xv_host.specs.OnHart.{view_of, on_hart_of, after_of, lines_of_vcpu, with_lines_of}
use Rattle.xv_host.specs.OnHart.{IsOnHart, MayRun, ReservedStands}
use Rattle.xv_host.specs.Spots.{place_of}
use Rattle.xv_host.proofs.JoinLemmas.{joined}
use Rattle.xv_host.proofs.MonitorLemmas.{monitored_same, tells}
use Rattle.xv_host.proofs.StageLemmas.{good_first}
use Rattle.xv_host.proofs.ViewLemmas.{back_is}

-- what a step of the hart needs, once its lines are those of this moment
pub record IsToStep (g : Guest) (h t : ℕ) (v : VcpuView) (r : Regs) : Type 0 where
  pub on : IsOnHart g t r
  pub lines : lines_of r.h ≡ lines_of_vcpu g h t v
  pub formed : IsWellFormed r

lines_are : (lines : Lines) (r : Regs) → lines_of (with_lines_of lines r).h ≡ lines
lines_are lines r =
    let software = r.csrs.ssip in
    ap (λ timer. record { timer = timer; external = external_line (with_lines_of lines r).h })
    (with_lines-timer software lines.timer lines.external r.h.hvip)
    ∙ ap (λ external. record { timer = lines.timer; external = external })
    (with_lines-external software lines.timer lines.external r.h.hvip)

pub with_lines : (g : Guest) (h t : ℕ) (v : VcpuView) (r next : Regs)
    → next ≡ with_lines_of (lines_of_vcpu g h t v) r → IsOnHart g t r
    → IsWellFormed r → IsToStep g h t v next
with_lines g h t v r next is on formed =
    let lines = lines_of_vcpu g h t v in
    let hvip = (with_lines_of lines r).h.hvip in
    subst (IsToStep g h t v) (sym is) (record {
      on = record { root = on.root; time = on.time; reserved = on.reserved };
      lines = lines_are lines r;
      formed = record {
        pc = formed.pc;
        csrs = formed.csrs;
        guest = ssip_guest r.h hvip formed.guest;
        software = sym (with_lines-software r.csrs.ssip lines.timer lines.external r.h.hvip);
      };
    })

-- the monitor's answer leaves root, time and reservation, and of h all but the lines
pub on_again : (g : Guest) (t : ℕ) (stepped next : Regs) → IsOnHart g t stepped
    → next.time ≡ stepped.time → next.h ≡ record stepped.h { hvip = next.h.hvip }
    → next.held ≡ stepped.held → IsOnHart g t next
on_again g t stepped next on time h held = record {
  root = ap root_of h ∙ on.root;
  time = ap (λ n. guest_time n next.h) time ∙ (ap (guest_time stepped.time) h ∙ on.time);
  reserved = subst (ReservedStands (holdings_of g)) (sym held) on.reserved;
}

-- every exception of a step enters the guest
delegated : (h : HCsrs) (cause : ℕ) → IsForGuest h → IsRaised cause → is_delegated h cause ≡ true
unfolding is_delegated
delegated h _ guest FetchMisaligned = ap (has_bit 0) guest.exceptions
delegated h _ guest Illegal = ap (has_bit 2) guest.exceptions
delegated h _ guest Breakpoint = ap (has_bit 3) guest.exceptions
delegated h _ guest LoadMisaligned = ap (has_bit 4) guest.exceptions
delegated h _ guest StoreMisaligned = ap (has_bit 6) guest.exceptions
delegated h _ guest UserCall = ap (has_bit 8) guest.exceptions
delegated h _ guest FetchPageFault = ap (has_bit 12) guest.exceptions
delegated h _ guest LoadPageFault = ap (has_bit 13) guest.exceptions
delegated h _ guest StorePageFault = ap (has_bit 15) guest.exceptions

entered : (r : Regs) (bytes : List ℕ) (cause tval : ℕ) → IsForGuest r.h → IsRaised cause
    → raised r bytes cause tval ≡ ended Done r (trapped cause tval (state_of r bytes))
entered r bytes cause tval guest is =
    cond-true (is_delegated r.h cause) _ _ (delegated r.h cause guest is)

module _ (g : Guest) (h t : ℕ) (v : VcpuView) (first : List ℕ) (may : MayRun g h v first) where
  abbrev root : ℕ
  root = (holdings_of g).root

  abbrev joins : AreJoined (lone_bus g.plan) (stage_bus first root)
      (λ b. memory_of b (holdings_of g)) (place_of (holdings_of g))
      (IsGoodFor (holdings_of g) first) (StandsIn (holdings_of g)) Nothing
  joins = joined (holdings_of g) g.plan first refl may.accepted may.held

  -- a state of the hart over host bytes, as one of the lone machine
  abbrev seen : State (List ℕ) ℕ → State Memory Place
  seen s = buses.seen (lone_bus g.plan) (stage_bus first root)
      (λ b. memory_of b (holdings_of g)) (place_of (holdings_of g))
      (IsGoodFor (holdings_of g) first) (StandsIn (holdings_of g)) Nothing joins s

  abbrev IsGood : State (List ℕ) ℕ → Type 0
  IsGood s = buses.IsGood (lone_bus g.plan) (stage_bus first root)
      (λ b. memory_of b (holdings_of g)) (place_of (holdings_of g))
      (IsGoodFor (holdings_of g) first) (StandsIn (holdings_of g)) Nothing joins s

  abbrev HeldStands : Option (Reservation ℕ) → Type 0
  HeldStands held =
      buses.HeldStands (lone_bus g.plan) (stage_bus first root)
      (λ b. memory_of b (holdings_of g)) (place_of (holdings_of g))
      (IsGoodFor (holdings_of g) first) (StandsIn (holdings_of g)) Nothing joins held

  abbrev IsOne : Outcome Memory Place → Outcome (List ℕ) ℕ → Type 0
  IsOne a b = buses.IsOne (lone_bus g.plan) (stage_bus first root)
      (λ b. memory_of b (holdings_of g)) (place_of (holdings_of g))
      (IsGoodFor (holdings_of g) first) (StandsIn (holdings_of g)) Nothing joins a b

  abbrev seen_outcome : Outcome (List ℕ) ℕ → Outcome Memory Place
  seen_outcome o =
      buses.seen_outcome (lone_bus g.plan) (stage_bus first root)
      (λ b. memory_of b (holdings_of g)) (place_of (holdings_of g))
      (IsGoodFor (holdings_of g) first) (StandsIn (holdings_of g)) Nothing joins o

  abbrev LeavesGood : Outcome (List ℕ) ℕ → Type 0
  LeavesGood o =
      buses.LeavesGood (lone_bus g.plan) (stage_bus first root)
      (λ b. memory_of b (holdings_of g)) (place_of (holdings_of g))
      (IsGoodFor (holdings_of g) first) (StandsIn (holdings_of g)) Nothing joins o

  abbrev IsLacking : Ask → Type 0
  IsLacking ask =
      buses.IsLacking (lone_bus g.plan) (stage_bus first root)
      (λ b. memory_of b (holdings_of g)) (place_of (holdings_of g))
      (IsGoodFor (holdings_of g) first) (StandsIn (holdings_of g)) Nothing joins ask

  -- what is reserved stands
  held_stands : (held : Option Held) → ReservedStands (holdings_of g) held
      → HeldStands (held_of held)
  held_stands None stands = tt {0}
  held_stands (Some held) stands = stands

  reserved_stands : (held : Option Held) → HeldStands (held_of held)
      → ReservedStands (holdings_of g) held
  reserved_stands None stands = tt {0}
  reserved_stands (Some held) stands = stands

  -- the tables lack nothing
  none_lacking : (ask : Ask) → IsLacking ask → ⊥
  none_lacking (TableEntry access va gpa) lacks = lacks
  none_lacking (Target access va gpa) lacks = lacks.1
  none_lacking (Plain access gpa next) lacks = lacks
  none_lacking (Call next) lacks = lacks
  none_lacking (Wait next) lacks = lacks

  record SameOutcome (of_lone : Outcome Memory Place) (of_host : Outcome (List ℕ) ℕ) : Type 0 where
    same : of_lone ≡ seen_outcome of_host
    good : LeavesGood of_host

  same_outcome : (of_lone : Outcome Memory Place) (of_host : Outcome (List ℕ) ℕ)
      → IsOne of_lone of_host → SameOutcome of_lone of_host
  same_outcome of_lone of_host (buses.Same same good) = record { same = same; good = good }
  same_outcome of_lone of_host (buses.Asks ask is lacks) = absurd (none_lacking ask lacks)

  -- ---- one step of the hart

  module _ (r : Regs) (on : IsOnHart g t r)
      (lines : lines_of r.h ≡ lines_of_vcpu g h t v) (formed : IsWellFormed r) where
    memory : IsGoodFor (holdings_of g) first first
    memory = good_first (holdings_of g) first may.held

    root_is : root_of r.h ≡ root
    root_is = on.root ∙ sym (ap root_or_none may.root)

    abbrev s : State (List ℕ) ℕ
    s = state_of r first

    abbrev before : OnHart
    before = on_hart_of g h v r first Started

    good : IsGood s
    good = record { memory = memory; held = held_stands r.held on.reserved }

    host_outcome : Outcome (List ℕ) ℕ
    host_outcome = step (stage_bus first root) (inputs_of r) s

    outcome_is : outcome_of r first ≡ host_outcome
    unfolding host_outcome
    outcome_is = ap (λ n. step (stage_bus first n) (inputs_of r) s) root_is

    one : SameOutcome (step (lone_bus g.plan) (inputs_of r) (seen s)) (outcome_of r first)
    unfolding host_outcome
    one =
        subst (SameOutcome (step (lone_bus g.plan) (inputs_of r) (seen s))) (sym outcome_is)
        (same_outcome (step (lone_bus g.plan) (inputs_of r) (seen s)) host_outcome
        (buses.step_is_one (lone_bus g.plan) (stage_bus first root)
        (λ b. memory_of b (holdings_of g)) (place_of (holdings_of g))
        (IsGoodFor (holdings_of g) first) (StandsIn (holdings_of g)) Nothing joins s good
        (inputs_of r) formed.pc))

    inputs_are : inputs_at h t (lone_of g []) v ≡ inputs_of r
    inputs_are =
        ap (λ l. record { lines = l; time = t }) (sym lines)
        ∙ ap (λ n. record { lines = lines_of r.h; time = n }) (sym on.time)

    -- the lone step, by what the host's step comes to
    lone_is : lone.stepped g.plan h t before (view_of v r Started) ≡ lone.after g.plan h t
        before (view_of v r Started) (seen_outcome (outcome_of r first))
    lone_is =
        ap (λ i. lone.after g.plan h t before (view_of v r Started)
        (step (lone_bus g.plan) i (hart_of before (view_of v r Started)))) inputs_are
        ∙ ap (lone.after g.plan h t before (view_of v r Started)) one.same

    next_is : LeavesNext r.pc (outcome_of r first)
    next_is = step_next (bus_of r first) s (inputs_of r)

    word_is : LeavesWord (bus_of r first) (state_of r first) (outcome_of r first)
    word_is = step_asks (bus_of r first) s (inputs_of r)

    -- the machine with this state of the hart, in host memory
    abbrev after_state : State (List ℕ) ℕ → HartState → After
    after_state u state = goes_on h before (view_of v r Started) (seen u) state

    -- the hart's state is put back as the VCPU's view
    after_is : (next : Regs) (now : List ℕ) (state : HartState)
        → after_of g h v next now (Goes state) ≡ after_state (state_of next now) state
    after_is next now state = back_is g h v now r next state

    module _ (next : Regs) (now : List ℕ) (exit : Exit)
        (stepped : came exit next now ≡ hart_step r first) where
      step_is : came exit next now ≡ exit_of r first (outcome_of r first)
      unfolding hart_step
      step_is = stepped

      state_after : Exit → Outcome (List ℕ) ℕ → State (List ℕ) ℕ
      state_after e (Went u) = u
      state_after e (Raised cause tval) = trapped cause tval s
      state_after e (Left ask) = s

      -- a hart that made its step
      pub done_is : ((trap : HTrap) → exit ≡ Trap trap → ⊥)
          → after_of g h v next now (Goes Started) ≡ lone.stepped g.plan h t before (view_of v r
          Started)
      done_is no_trap =
          after_is next now Started ∙ by_outcome (outcome_of r first) next_is step_is
          ∙ sym lone_is
        where
          by_outcome : (o : Outcome (List ℕ) ℕ) → LeavesNext r.pc o
              → came exit next now ≡ exit_of r first o
              → after_state (state_of next now) Started
              ≡ lone.after g.plan h t before (view_of v r Started) (seen_outcome o)
          by_outcome (Went u) _ e = ap (λ (hs : HStep). after_state hs.state Started) e
          by_outcome (Raised cause tval) is e =
              ap (λ (hs : HStep). after_state hs.state Started)
              (e ∙ entered r first cause tval formed.guest is)
          by_outcome (Left ask) _ e =
              absurd (no_trap (trap_of r.user ask) (ap (λ (hs : HStep). hs.exit) e))

      one_trap : (a b : HTrap) → Trap a ≡ Trap b → a ≡ b
      one_trap a b e = cc

      -- the word at the pc, of what a step comes to
      abbrev word_in : HStep → Option ℕ
      word_in hs = fetched_word (stage_bus hs.state.memory (root_of hs.h)) hs.state

      -- what the hart left, by what the monitor answers
      pub trap_is : (trap : HTrap) → exit ≡ Trap trap
          → monitored g.plan h t (on_hart_of g h v next now Started) (view_of v next Started)
          (word_of next now) trap
          ≡ lone.stepped g.plan h t before (view_of v r Started)
      trap_is trap left =
          ap (λ (a : After). monitored g.plan h t a.on_hart (view_of v next Started)
          (word_of next now) trap) (after_is next now Started)
          ∙ by_outcome (outcome_of r first) next_is word_is step_is ∙ sym lone_is
        where
          by_outcome : (o : Outcome (List ℕ) ℕ) → LeavesNext r.pc o
              → LeavesWord (bus_of r first) (state_of r first) o
              → came exit next now ≡ exit_of r first o
              → monitored g.plan h t (after_state (state_of next now) Started).on_hart
              (view_of v next Started) (word_of next now) trap
              ≡ lone.after g.plan h t before (view_of v r Started) (seen_outcome o)
          by_outcome (Went u) _ _ e = let no : Trap trap ≡ Done =
              sym left ∙ ap (λ (hs : HStep). hs.exit) e in cc
          by_outcome (Raised cause tval) is _ e = let no : Trap trap ≡ Done =
              sym left
              ∙ ap (λ (hs : HStep). hs.exit) (e ∙ entered r first cause tval formed.guest is) in cc
          by_outcome (Left ask) behind of_word e =
              let same : Trap trap ≡ Trap (trap_of r.user ask) =
              sym left ∙ ap (λ (hs : HStep). hs.exit) e in
              ap (λ (hs : HStep). monitored g.plan h t (after_state hs.state Started).on_hart
              (record (view_of v r Started) {
                x = hs.state.x;
                pc = hs.state.pc;
                user = hs.state.user;
                csrs = hs.state.csrs;
              }) (word_in hs) trap) e
              ∙ (ap (λ (a : After). monitored g.plan h t a.on_hart (view_of v r Started)
              (word_of r first) trap) (sym (after_is r first Started))
              ∙ ap (monitored g.plan h t before (view_of v r Started) (word_of r first))
              (one_trap trap (trap_of r.user ask) same)
              ∙ monitored_same r first g.plan h t before v ask behind of_word)

      -- and it tells of which access it is
      pub trap_tells : (trap : HTrap) → exit ≡ Trap trap
          → TellsAccess (access_by (word_of next now) next.x) trap
      trap_tells trap left = by_outcome (outcome_of r first) next_is word_is step_is
        where
          by_outcome : (o : Outcome (List ℕ) ℕ) → LeavesNext r.pc o
              → LeavesWord (bus_of r first) (state_of r first) o
              → came exit next now ≡ exit_of r first o
              → TellsAccess (access_by (word_of next now) next.x) trap
          by_outcome (Went u) _ _ e = let no : Trap trap ≡ Done =
              sym left ∙ ap (λ (hs : HStep). hs.exit) e in absurd cc
          by_outcome (Raised cause tval) is _ e = let no : Trap trap ≡ Done =
              sym left
              ∙ ap (λ (hs : HStep). hs.exit) (e ∙ entered r first cause tval formed.guest is) in
              absurd cc
          by_outcome (Left ask) behind of_word e =
              let same : Trap trap ≡ Trap (trap_of r.user ask) =
              sym left ∙ ap (λ (hs : HStep). hs.exit) e in
              subst (λ (hs : HStep). TellsAccess (access_by (word_in hs) hs.state.x) trap) (sym e)
              (subst (TellsAccess (access_by (word_of r first) r.x))
              (sym (one_trap trap (trap_of r.user ask) same))
              (tells r first ask of_word))

      -- ---- what stands after it

      good_after : IsGood (state_of next now)
      good_after = by_outcome (outcome_of r first) next_is one.good step_is
        where
          by_outcome : (o : Outcome (List ℕ) ℕ) → LeavesNext r.pc o → LeavesGood o
              → came exit next now ≡ exit_of r first o → IsGood (state_of next now)
          by_outcome (Went u) _ leaves e =
              subst IsGood (sym (ap (λ (hs : HStep). hs.state) e)) leaves
          by_outcome (Raised cause tval) is leaves e =
              subst IsGood (sym (ap (λ (hs : HStep). hs.state)
              (e ∙ entered r first cause tval formed.guest is)))
              (record { memory = good.memory; held = good.held })
          by_outcome (Left ask) _ leaves e =
              subst IsGood (sym (ap (λ (hs : HStep). hs.state) e)) good

      record SameRest (e : HStep) : Type 0 where
        table : root_of e.h ≡ root_of r.h
        time : guest_time e.time e.h ≡ guest_time r.time r.h

      same_rest : SameRest (came exit next now)
      same_rest = subst SameRest (sym step_is) (by_outcome (outcome_of r first))
        where
          by_delegated : (delegated : Bool) (e f : HStep) → SameRest e → SameRest f
              → SameRest (cond delegated e f)
          by_delegated true e f of_e of_f = of_e
          by_delegated false e f of_e of_f = of_f

          by_outcome : (o : Outcome (List ℕ) ℕ) → SameRest (exit_of r first o)
          by_outcome (Went u) = record { table = refl; time = refl }
          by_outcome (Raised cause tval) =
              by_delegated (is_delegated r.h cause) _ _ (record { table = refl; time = refl })
              (record { table = refl; time = refl })
          by_outcome (Left ask) = record { table = refl; time = refl }

      pub on_after : IsOnHart g t next
      on_after = record {
        root = same_rest.table ∙ on.root;
        time = same_rest.time ∙ on.time;
        reserved = reserved_stands next.held good_after.held;
      }

      pub memory_after : IsGoodFor (holdings_of g) first now
      memory_after = good_after.memory
