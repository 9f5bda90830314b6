-- One VCPU of a guest, put back into its lone machine.
use Rattle.std.proofs.Common.{◌≡◌, ℕ, zero, suc, ◌<◌, List, [], ◌∷◌, length, set, refl, sym, ap}
use Rattle.std.proofs.Common.{◌∙◌, arith, eqb, Option, Some, slice_get}
use Rattle.std.proofs.lemmas.Bool.{cond-false, ne_eqb}
use Rattle.xv_lone.specs.declared.vcpu.VcpuView.{VcpuView}
use Rattle.xv_lone.specs.Machine.{Machine, on_vcpu, on_vcpu_of, with_vcpu}
use Rattle.xv_guest.specs.Guest.{Guest, lone_of}
use Rattle.xv_lone.specs.Step as lone
use Rattle.xv_lone.specs.Step.{After, On, OnHart, after_wait}
use Rattle.xv_lone.specs.declared.vcpu.HartState.{HartState}
use Rattle.xv_lone.specs.declared.vcpu.HartState.TheVariants.{Started, Waiting}
use Rattle.xv_csr.specs.Pending.{pending}
use Rattle.xv_isa.specs.Length.{next_pc}
use Rattle.xv_hart.specs.declared.regs.Regs.{Regs}
use Rattle.xv_hart.specs.Step.{after_trap, held_of}
use Rattle.xv_lone.specs.Memory.{Place}
use Rattle.xv_step.specs.State.{Held, held_as}
use Rattle.xv_guest.specs.Guest.{held_of as holdings_of}
use Rattle.xv_firmware.specs.declared.calls.Progress.{Progress}
use Rattle.xv_firmware.specs.declared.calls.Progress.TheVariants as progress
use Rattle.xv_firmware.specs.declared.calls.Progress.TheVariants.{Goes}
use Rattle.xv_firmware.specs.Calls.{InState, after_guest}
use Rattle.xv_host.specs.OnHart.{after_of, lines_of_vcpu, on_hart_of, view_of, with_view}
use Rattle.xv_host.specs.Spots.{place_of}

pub set-again : {X : Type 0} (xs : List X) (i : ℕ) (x y : X) → set (set xs i x) i y ≡ set xs i y
set-again [] i x y = refl
set-again (z ∷ xs) zero x y = refl
set-again {X} (z ∷ xs) (suc i) x y = ap (λ (ys : List X). z ∷ ys) (set-again xs i x y)

pub slice_get-set : {X : Type 0} (xs : List X) (i : ℕ) (x : X) → i < length xs
    → slice_get (set xs i x) i ≡ Some x
slice_get-set [] i x within = absurd (omega arith)
slice_get-set (z ∷ xs) zero x within = refl
slice_get-set (z ∷ xs) (suc i) x within = slice_get-set xs i x (omega arith)

pub set-same : {X : Type 0} (xs : List X) (i : ℕ) (x : X) → slice_get xs i ≡ Some x → set xs i x ≡
    xs
set-same [] i x at = refl
set-same (z ∷ xs) zero x at = let same : z ≡ x = cc in ap (λ y. y ∷ xs) (sym same)
set-same {X} (z ∷ xs) (suc i) x at = ap (λ (ys : List X). z ∷ ys) (set-same xs i x at)

module _ (g : Guest) (h : ℕ) (bytes : List ℕ) where
  -- the second of two views is left
  pub view_again : (w x : VcpuView) → with_vcpu h x (lone_of (with_view g h w) bytes)
      ≡ lone_of (with_view g h x) bytes
  view_again w x =
      ap (λ (vs : List VcpuView). lone_of (record g { vcpus = vs }) bytes)
      (set-again g.vcpus h w x)

  -- a change of the VCPU is one of its view
  pub on_view : (w : VcpuView) (change : VcpuView → VcpuView) → h < length g.vcpus
      → on_vcpu h change (lone_of (with_view g h w) bytes)
      ≡ lone_of (with_view g h (change w)) bytes
  on_view w change within =
      ap (on_vcpu_of h change (lone_of (with_view g h w) bytes)) (slice_get-set g.vcpus h w within)
      ∙ view_again w (change w)

-- ---- the VCPU that is on the hart

module _ (g : Guest) (h : ℕ) (v : VcpuView) (bytes : List ℕ) where
  abbrev pub after_machine : Regs → Machine → After
  after_machine next m = record {
    on_hart = record {
      machine = m;
      held = held_as (place_of (holdings_of g)) (held_of next.held);
    };
    onward = On;
  }

  -- is put back into the machine that it was in
  pub back_is : (r next : Regs) (state : HartState) → after_of g h v next bytes (Goes state)
      ≡ after_machine next (with_vcpu h (view_of v next state)
      (lone_of (with_view g h (view_of v r Started)) bytes))
  back_is r next state =
      ap (after_machine next)
      (sym (view_again g h bytes (view_of v r Started) (view_of v next state)))

  pub fault_back : (r next : Regs) (cause va : ℕ) → next ≡ after_trap cause va r
      → after_of g h v next bytes (Goes Started)
      ≡ lone.traps h (on_hart_of g h v r bytes Started) (view_of v r Started) cause va
  fault_back r next cause va is =
      ap (λ (n : Regs). after_of g h v n bytes (Goes Started)) is
      ∙ back_is r (after_trap cause va r) Started

  pub wait_back : (t n word : ℕ) (r : Regs) (state : HartState) → n ≡ next_pc r.pc word
      → state ≡ after_wait (pending r.csrs (lines_of_vcpu g h t v))
      → after_of g h v (record r { pc = n }) bytes (Goes state)
      ≡ lone.waits g.plan h t (on_hart_of g h v r bytes Started) (view_of v r Started)
      (next_pc r.pc word)
  wait_back t n word r state is after =
      ap (λ (s : HartState). after_of g h v (record r { pc = n }) bytes (Goes s)) after
      ∙ ap (λ (k : ℕ). after_of g h v (record r { pc = k }) bytes
      (Goes (after_wait (pending r.csrs (lines_of_vcpu g h t v))))) is
      ∙ back_is r (record r { pc = next_pc r.pc word })
      (after_wait (pending r.csrs (lines_of_vcpu g h t v)))

pub waits_on_none : (interrupts : ℕ) → interrupts ≡ 0 → Waiting ≡ after_wait interrupts
waits_on_none interrupts none = ap after_wait (sym none)

pub goes_on_some : (interrupts : ℕ) → (interrupts ≡ 0 → ⊥) → Started ≡ after_wait interrupts
goes_on_some interrupts some =
    sym (cond-false (eqb interrupts 0) Waiting Started (ne_eqb interrupts 0 some))

-- ---- the VCPU of a guest that the hart shows as it is there

module _ (g : Guest) (h : ℕ) (u : VcpuView) (r : Regs) (bytes : List ℕ)
    (at : slice_get g.vcpus h ≡ Some u)
    (same : r ≡ record r { x = u.x; pc = u.pc; user = u.user; csrs = u.csrs }) where
  shown : (state : HartState) → u.hart ≡ state → view_of u r state ≡ u
  shown state is =
      ap (λ (n : Regs). view_of u n state) same
      ∙ ap (λ (s : HartState). record u { hart = s }) (sym is)

  in_guest : (state : HartState) → u.hart ≡ state → with_view g h (view_of u r state) ≡ g
  in_guest state is =
      ap (λ (w : VcpuView). with_view g h w) (shown state is)
      ∙ ap (λ (vs : List VcpuView). record g { vcpus = vs }) (set-same g.vcpus h u at)

  abbrev kept : Option (Held Place)
  kept = held_as (place_of (holdings_of g)) (held_of r.held)

  pub after_is : (p : Progress) → InState p u.hart
      → after_of g h u r bytes p ≡ after_guest g kept bytes p
  after_is (progress.Goes state) is =
      ap (λ (x : Guest). after_guest (record g { vcpus = x.vcpus }) kept bytes (progress.Goes
      state))
      (in_guest state is)
  after_is progress.Halts is =
      ap (λ (x : Guest). after_guest (record g { vcpus = x.vcpus }) kept bytes progress.Halts)
      (in_guest Started is)
  after_is progress.Reboots is = refl
