-- A turn, lone step by lone step: what is made so far, continued by the rest of the budget, is the
-- whole.
use Rattle.std.proofs.Common.{◌≡◌, ℕ, ◌+◌, ◌-◌, ◌*◌, ◌<◌, ◌≤◌, Bool, true, false, List, [], ◌∷◌}
use Rattle.std.proofs.Common.{◌++◌, length, Option, Some, None, option_map, slice_get}
use Rattle.std.proofs.Common.{subst, refl, sym}
use Rattle.std.proofs.Common.{ap, ◌∙◌, arith}
use Rattle.std.proofs.lemmas.Bool.{cond-false}
use Rattle.std.proofs.lemmas.List.{length-append}
use Rattle.std.proofs.lemmas.Option.{slice_get_within}
use Rattle.xv_hart.specs.declared.regs.Regs.{Regs}
use Rattle.xv_lone.specs.declared.vcpu.HartState.{HartState}
use Rattle.xv_lone.specs.declared.vcpu.HartState.TheVariants.{Started, Waiting, Suspended, Stopped}
use Rattle.xv_lone.specs.Machine.{Machine, on_vcpu_of}
use Rattle.xv_lone.specs.Ready.{may_run}
use Rattle.xv_lone.specs.Step.{After, On, Halts, Reboots, lone_step, stepped}
use Rattle.xv_lone.specs.Trail.{IsTrail, NoPiece, OneMore}
use Rattle.xv_lone.specs.Turn.{InTurn, Core, begin, woken, woken_vcpu, with_step, one_more}
use Rattle.xv_lone.specs.Turn.{one_more_of, is_started, iterate, runs_on, whole_turn, turn}
use Rattle.xv_lone.specs.Turn.{visited}
use Rattle.xv_lone.specs.Turn.{steps, ending, ending_of}
use Rattle.xv_lone.specs.declared.vcpu.TurnEnd.{TurnEnd}
use Rattle.xv_lone.specs.declared.vcpu.TurnEnd.TheVariants as ends
use Rattle.xv_lone.proofs.IterateLemmas.{iterate_over, iterate_more, iterate_none}
use Rattle.xv_lone.specs.declared.vcpu.VcpuView.{VcpuView}
use Rattle.xv_region.specs.Plan.{Plan}
use Rattle.xv_guest.specs.Guest.{Guest, held_of as holdings_of, lone_of, with_machine}
use Rattle.xv_firmware.specs.declared.calls.Progress.{Progress}
use Rattle.xv_firmware.specs.declared.calls.Progress.TheVariants.{Goes, Halts as GuestHalts}
use Rattle.xv_firmware.specs.declared.calls.Progress.TheVariants.{Reboots as GuestReboots}
use Rattle.xv_host.specs.OnHart.{view_of, with_view, core_of, on_hart_of, after_of, end_of}
use Rattle.xv_host.specs.OnHart.{regs_of_vcpu, shown_guest, IsBetween, IsOnHart, IsTurned}
use Rattle.xv_firmware.specs.Calls.{Leaves}
use Rattle.xv_host.specs.OnHart.{Grows, IsViewAt, MayRun, Shows}
use Rattle.xv_host.proofs.ViewLemmas.{slice_get-set}

-- the guest's turn, with this on the hart and in host memory
abbrev in_turn : Guest → (h : ℕ) → VcpuView → Regs → List ℕ → List Core → Progress → InTurn
in_turn g h v r bytes begun p =
    record {
      on_hart = (after_of g h v r bytes p).on_hart;
      onward = (after_of g h v r bytes p).onward;
      begun = begun;
    }

-- how far it is, and how it goes on
abbrev and_onward : InTurn → After
and_onward w = record { on_hart = w.on_hart; onward = w.onward }

-- so many steps of the turn that began with guest g are made, and the rest follow
pub record IsTurning (g : Guest) (h t : ℕ) (v : VcpuView) (first : List ℕ) (now : Guest)
    (made : ℕ) (r : Regs) (bytes : List ℕ) (trail : List Regs) : Type 0 where
  pub begun : List Core
  pub rest : iterate (one_more g.plan h t) (1000 - made)
      (in_turn now h v r bytes begun (Goes Started))
      ≡ whole_turn g.plan h t (lone_of g first)
  pub pieces : IsTrail core_of begun trail

-- the VCPU that is on the hart is the machine's
on_hart_at : (g : Guest) (h : ℕ) (v w : VcpuView) → slice_get g.vcpus h ≡ Some v
    → slice_get (with_view g h w).vcpus h ≡ Some w
on_hart_at g h v w at = slice_get-set g.vcpus h w (slice_get_within g.vcpus h v at)

-- a guest that halted or rebooted makes no more steps, and its turn ends so
over_halts : (plan : Plan) (h t : ℕ) (r : InTurn) (o : Option VcpuView) → r.onward ≡ Halts
    → one_more_of plan h t r o ≡ None
over_halts plan h t r None halts = refl
over_halts plan h t r (Some v) halts =
    cond-false (runs_on r.onward v.hart) _ None (ap (λ w. runs_on w v.hart) halts)

over_reboots : (plan : Plan) (h t : ℕ) (r : InTurn) (o : Option VcpuView) → r.onward ≡ Reboots
    → one_more_of plan h t r o ≡ None
over_reboots plan h t r None reboots = refl
over_reboots plan h t r (Some v) reboots =
    cond-false (runs_on r.onward v.hart) _ None (ap (λ w. runs_on w v.hart) reboots)

ends_halted : (o : Option VcpuView) → ending_of Halts o ≡ ends.Halted
ends_halted None = refl
ends_halted (Some v) = refl

ends_rebooted : (o : Option VcpuView) → ending_of Reboots o ≡ ends.Rebooted
ends_rebooted None = refl
ends_rebooted (Some v) = refl

module _ (g : Guest) (h t : ℕ) (v : VcpuView) (first : List ℕ) (at : slice_get g.vcpus h ≡ Some v)
  where
    woken_is : (state : HartState) (interrupt : Bool) → may_run state interrupt ≡ true
        → woken state ≡ Started
    woken_is Started interrupt h = refl
    woken_is Waiting interrupt h = refl
    woken_is Suspended interrupt h = refl
    woken_is Stopped interrupt h = cc

    abbrev no_step_yet : Machine → InTurn
    no_step_yet m = record {
      on_hart = record { machine = m; held = None };
      onward = On;
      begun = [];
    }

    begins : (clock : ℕ) (interrupt : Bool) → may_run v.hart interrupt ≡ true
        → begin h (lone_of g first)
        ≡ in_turn g h v (regs_of_vcpu g h clock v) first [] (Goes Started)
    begins clock interrupt may =
        ap (λ (o : Option VcpuView). no_step_yet (on_vcpu_of h woken_vcpu (lone_of g first) o)) at
        ∙ ap (λ (state : HartState). no_step_yet
        (lone_of (with_view g h (record v { hart = state })) first)) (woken_is v.hart interrupt may)

    pub turning_starts : (clock : ℕ) (interrupt : Bool) → may_run v.hart interrupt ≡ true
        → IsTurning g h t v first g 0 (regs_of_vcpu g h clock v) first []
    unfolding whole_turn
    turning_starts clock interrupt may = record {
      begun = [];
      rest = ap (iterate (one_more g.plan h t) 1000) (sym (begins clock interrupt may));
      pieces = NoPiece;
    }

    module _ (here there : Guest) (same : Leaves g here) (w u : VcpuView)
        (here_at : slice_get here.vcpus h ≡ Some w) (r next : Regs) (bytes now : List ℕ)
        (p : Progress) (made_step : after_of there h u next now p
        ≡ stepped here.plan h t (on_hart_of here h w r bytes Started) (view_of w r Started)) where
      step_is : after_of there h u next now p
          ≡ stepped g.plan h t (on_hart_of here h w r bytes Started) (view_of w r Started)
      step_is =
          made_step
          ∙ ap (λ (plan : Plan). stepped plan h t (on_hart_of here h w r bytes Started)
          (view_of w r Started)) (ap (λ (x : Guest). x.plan) same)

      -- the hart's step with its answer is one more lone step
      one_more_is : (begun : List Core)
          → one_more g.plan h t (in_turn here h w r bytes begun (Goes Started))
          ≡ Some (in_turn there h u next now (begun ++ core_of r ∷ []) p)
      unfolding lone_step
      one_more_is begun =
          ap (one_more_of g.plan h t (in_turn here h w r bytes begun (Goes Started)))
          (on_hart_at here h w (view_of w r Started) here_at)
          ∙ ap (λ (o : Option VcpuView). option_map
          (with_step (in_turn here h w r bytes begun (Goes Started)) (view_of w r Started))
          (option_map (stepped g.plan h t (on_hart_of here h w r bytes Started)) o))
          (on_hart_at here h w (view_of w r Started) here_at)
          ∙ ap (λ (a : After). Some
          (with_step (in_turn here h w r bytes begun (Goes Started)) (view_of w r Started) a))
          (sym step_is)

      module _ (made : ℕ) (more : made < 1000) (before after : List Regs)
          (turning : IsTurning g h t w first here made r bytes before) (table : ℕ)
          (grows : Grows table r before after) where
        begun_after : List Core
        begun_after = turning.begun ++ core_of r ∷ []

        pieces_after : IsTrail core_of begun_after after
        unfolding begun_after
        pieces_after =
            subst (IsTrail core_of (turning.begun ++ core_of r ∷ [])) (sym grows.grown)
            (OneMore turning.begun before (core_of r) grows.piece turning.pieces grows.shown)

        rest_after : iterate (one_more g.plan h t) (1000 - (made + 1))
            (in_turn there h u next now begun_after p) ≡ whole_turn g.plan h t (lone_of g first)
        unfolding begun_after
        rest_after =
            sym (iterate_more (one_more g.plan h t) (1000 - (made + 1)) (1000 - made)
            (in_turn here h w r bytes turning.begun (Goes Started))
            (in_turn there h u next now (turning.begun ++ core_of r ∷ []) p)
            (one_more_is turning.begun)
            (omega arith))
            ∙ turning.rest

        pub turning_goes_on : p ≡ Goes Started
            → IsTurning g h t u first there (made + 1) next now after
        turning_goes_on started = record {
          begun = begun_after;
          rest = ap (λ s. iterate (one_more g.plan h t) (1000 - (made + 1))
              (in_turn there h u next now begun_after s)) (sym started) ∙ rest_after;
          pieces = pieces_after;
        }

        not_started : (s : HartState) → (s ≡ Started → ⊥) → is_started s ≡ false
        not_started Started h = absurd (h refl)
        not_started Waiting h = refl
        not_started Suspended h = refl
        not_started Stopped h = refl

        none_more : (q : Progress) → (q ≡ Goes Started → ⊥) → Shows q there h u
            → one_more g.plan h t (in_turn there h u next now begun_after q) ≡ None
        none_more (Goes s) stopped shows =
            ap (one_more_of g.plan h t (in_turn there h u next now begun_after (Goes s)))
            (on_hart_at there h u (view_of u next s) shows.at)
            ∙ cond-false (is_started s) _ None
            (not_started s (λ (e : s ≡ Started). stopped (ap Goes e)))
        none_more GuestHalts stopped shows =
            over_halts g.plan h t (in_turn there h u next now begun_after GuestHalts)
            (slice_get (with_view there h (view_of u next Started)).vcpus h) refl
        none_more GuestReboots stopped shows =
            over_reboots g.plan h t (in_turn there h u next now begun_after GuestReboots)
            (slice_get there.vcpus h) refl

        -- a turn that doesn't go on has come to its end
        pub turning_stops : (p ≡ Goes Started → ⊥) → Shows p there h u
            → IsTurned g h u t first there next now after p
        turning_stops stopped shows =
            let last : in_turn there h u next now begun_after p
            ≡ whole_turn g.plan h t (lone_of g first) =
            sym (iterate_over (one_more g.plan h t) (1000 - (made + 1))
            (in_turn there h u next now begun_after p) (none_more p stopped shows))
            ∙ rest_after in
            record {
              after = ap (λ (w : InTurn). and_onward w) last;
              pieces = subst (λ cores. IsTrail core_of cores after)
                  (ap (λ w. w.begun) last) pieces_after;
            }

    pub turning_ends : (now : Guest) (w : VcpuView) (made : ℕ) (r : Regs) (bytes : List ℕ)
        (trail : List Regs) → 1000 ≤ made → IsTurning g h t w first now made r bytes trail
        → IsTurned g h w t first now r bytes trail (Goes Started)
    turning_ends now w made r bytes trail all turning =
        let last : in_turn now h w r bytes turning.begun (Goes Started)
        ≡ whole_turn g.plan h t (lone_of g first) =
        sym (iterate_none (one_more g.plan h t)
        (in_turn now h w r bytes turning.begun (Goes Started)))
        ∙ (ap (λ n. iterate (one_more g.plan h t) n
        (in_turn now h w r bytes turning.begun (Goes Started)))
        (let e : 0 ≡ 1000 - made = omega arith in e)
        ∙ turning.rest) in
        record {
          after = ap (λ (w : InTurn). and_onward w) last;
          pieces = subst (λ cores. IsTrail core_of cores trail) (ap (λ w. w.begun) last)
              turning.pieces;
        }

-- a piece more of the trail
pub piece_some : (table : ℕ) (r : Regs) (before after : List Regs) → Grows table r before after
    → length before + 1 ≤ length after
piece_some table r before after grows =
    omega (arith, ap length grows.grown, length-append before grows.piece, grows.shown.some)

pub piece_few : (table : ℕ) (r : Regs) (before after : List Regs) → Grows table r before after
    → length after ≤ length before + 13
piece_few table r before after grows =
    omega (arith, ap length grows.grown, length-append before grows.piece, grows.shown.few)

-- ---- what a guest within a turn has of the one that began it

module _ (g now : Guest) (same : Leaves g now) where
  pub held_now : holdings_of now ≡ holdings_of g
  held_now = ap holdings_of same

  pub key_now : now.key ≡ g.key
  key_now = ap (λ (x : Guest). x.key) same

  pub leaves_next : (next : Guest) → Leaves now next → Leaves g next
  leaves_next next is =
      is
      ∙ ap (λ (x : Guest). record x {
        devices = next.devices;
        vcpus = next.vcpus;
        state = next.state;
      }) same

  -- the same of the first guest with what the other has
  pub may_now : (h : ℕ) (v w : VcpuView) (bytes : List ℕ) → MayRun g h v bytes
      → IsViewAt now h w → MayRun now h w bytes
  may_now h v w bytes may view =
      let of_same : (x : Guest) → x ≡ record g {
        devices = now.devices;
        vcpus = now.vcpus;
        state = now.state;
      } → slice_get x.vcpus h ≡ Some w → MayRun x h w bytes =
      λ x is at. subst (λ (y : Guest). (slice_get y.vcpus h ≡ Some w) → MayRun y h w bytes) (sym is)
      (λ there. record {
        held = may.held;
        accepted = may.accepted;
        root = may.root;
        small = may.small;
        vcpu = there;
        view = view.kept;
      }) at in
      of_same now same view.at

  pub on_now : (t : ℕ) (r : Regs) → IsOnHart g t r → IsOnHart now t r
  on_now t r on =
      subst (λ (x : Guest). IsOnHart x t r) (sym same)
      (record { root = on.root; time = on.time; reserved = on.reserved })

  pub on_first : (t : ℕ) (r : Regs) → IsOnHart now t r → IsOnHart g t r
  on_first t r on =
      let of_same : IsOnHart (record g {
        devices = now.devices;
        vcpus = now.vcpus;
        state = now.state;
      }) t r = subst (λ (x : Guest). IsOnHart x t r) same on in
      record { root = of_same.root; time = of_same.time; reserved = of_same.reserved }

-- ---- what the whole turn gives

module _ (g : Guest) (h t : ℕ) (v : VcpuView) (first : List ℕ) (now : Guest) (r : Regs)
    (bytes : List ℕ) (trail : List Regs) where
  shown_is : (p : Progress) → lone_of (shown_guest now h v r p) bytes
      ≡ (after_of now h v r bytes p).on_hart.machine
  shown_is (Goes state) = refl
  shown_is GuestHalts = refl
  shown_is GuestReboots = refl

  -- the guest is its lone machine, and what it was else
  pub guest_back : (p : Progress) → Leaves g now → shown_guest now h v r p
      ≡ with_machine g (lone_of (shown_guest now h v r p) bytes)
  guest_back (Goes state) leaves =
      ap (λ (x : Guest). with_view x h (view_of v r state)) leaves
      ∙ sym (ap (λ (x : Guest). with_machine g (lone_of (with_view x h (view_of v r state)) bytes))
      leaves)
  guest_back GuestHalts leaves =
      ap (λ (x : Guest). with_view x h (view_of v r Started)) leaves
      ∙ sym (ap (λ (x : Guest). with_machine g
      (lone_of (with_view x h (view_of v r Started)) bytes)) leaves)
  guest_back GuestReboots leaves =
      leaves ∙ sym (ap (λ (x : Guest). with_machine g (lone_of x bytes)) leaves)

  abbrev ending_in_after : After → TurnEnd
  ending_in_after a = ending_of a.onward (slice_get a.on_hart.machine.vcpus h)

  end_is : (p : Progress) → Shows p now h v → end_of p
      ≡ ending_in_after (after_of now h v r bytes p)
  end_is (Goes state) shows =
      ap (ending_of On) (sym (on_hart_at now h v (view_of v r state) shows.at))
  end_is GuestHalts shows =
      sym (ends_halted (slice_get (with_view now h (view_of v r Started)).vcpus h))
  end_is GuestReboots shows = sym (ends_rebooted (slice_get now.vcpus h))

  module _ (p : Progress) (end : IsTurned g h v t first now r bytes trail p) where
    pub turned_is : lone_of (shown_guest now h v r p) bytes ≡ turn g.plan h t (lone_of g first)
    unfolding turn
    turned_is = shown_is p ∙ ap (λ (a : After). a.on_hart.machine) end.after

    pub trail_is : IsTrail core_of (visited g.plan h t (lone_of g first)) trail
    unfolding visited
    trail_is = end.pieces

    pub ending_is : Shows p now h v → end_of p ≡ ending g.plan h t (lone_of g first)
    unfolding ending
    ending_is shows = end_is p shows ∙ ap ending_in_after end.after

-- a lone step has an entry or more in the trail
trail_counts : (cores : List Core) (trail : List Regs) → IsTrail core_of cores trail
    → length cores ≤ length trail
trail_counts _ _ NoPiece = omega arith
trail_counts _ _ (OneMore cores trail core piece earlier shown) =
    omega (
      arith,
      length-append cores (core ∷ []),
      length-append trail piece,
      shown.some,
      trail_counts cores trail earlier,
    )

trail_most : (cores : List Core) (trail : List Regs) → IsTrail core_of cores trail
    → length trail ≤ 13 * length cores
trail_most _ _ NoPiece = omega arith
trail_most _ _ (OneMore cores trail core piece earlier shown) =
    omega (
      arith,
      length-append cores (core ∷ []),
      length-append trail piece,
      shown.few,
      trail_most cores trail earlier,
    )

-- so the entries of a turn are between its lone steps and 13 times these
pub pieces_are : (plan : Plan) (h t : ℕ) (m : Machine) (trail : List Regs)
    → IsTrail core_of (visited plan h t m) trail → IsBetween (steps plan h t m) (length trail)
unfolding steps
pieces_are plan h t m trail pieces =
    (trail_counts (visited plan h t m) trail pieces, trail_most (visited plan h t m) trail pieces)
