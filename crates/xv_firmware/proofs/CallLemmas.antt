-- A call, and the machine that it leaves; signals to VCPUs, one by one.
use Rattle.std.proofs.Common.{◌≡◌, ℕ, zero, suc, ◌+◌, cond, List, [], ◌∷◌, length, set, slice_get}
use Rattle.std.proofs.Common.{Option, Some, refl, sym, ap, ◌∙◌, arith}
use Rattle.xv_step.specs.State.{Held}
use Rattle.xv_lone.specs.Calls as lone
use Rattle.xv_lone.specs.Memory.{Place}
use Rattle.xv_lone.specs.Step.{After, by_reply}
use Rattle.xv_lone.specs.declared.vcpu.VcpuView.{VcpuView}
use Rattle.xv_region.specs.Plan.{Plan}
use Rattle.xv_sbi.specs.Mask.{names}
use Rattle.xv_guest.specs.Guest.{Guest, lone_of}
use Rattle.xv_firmware.specs.declared.reply.Reply.{Reply}
use Rattle.xv_firmware.specs.declared.reply.Reply.TheVariants.{Returns, StopsCaller, HaltsGuest}
use Rattle.xv_firmware.specs.declared.reply.Reply.TheVariants.{RebootsGuest}
use Rattle.xv_firmware.specs.Calls.{CallerIs, Changes, reply_of}

-- ---- what the reply says of the machine of the call

module _ (plan : Plan) (h t next : ℕ) (held : Option (Held Place)) (v : VcpuView)
    (called now : Guest) (bytes : List ℕ) where
  abbrev by : Guest → Reply → After
  by g reply =
      by_reply plan h t (record { machine = lone_of g bytes; held = held }) v next
      (reply_of reply (lone_of now bytes))

  pub reply_back : (reply : Reply) → Changes reply called now → by now reply ≡ by called reply
  reply_back (Returns error value) is = refl
  reply_back StopsCaller is = ap (λ (g : Guest). by g StopsCaller) is
  reply_back (HaltsGuest ending) is = ap (λ (g : Guest). by g (HaltsGuest ending)) is
  reply_back RebootsGuest is = ap (λ (g : Guest). by g RebootsGuest) is

-- the VCPU that called is as it was where the reply speaks of it
pub caller_is : (h : ℕ) (v : VcpuView) (called now : Guest) (reply : Reply)
    → Changes reply called now → slice_get called.vcpus h ≡ Some v → CallerIs reply now h v
caller_is h v called now (Returns error value) is at = tt {0}
caller_is h v called now StopsCaller is at = ap (λ (g : Guest). slice_get g.vcpus h) is ∙ at
caller_is h v called now (HaltsGuest ending) is at = ap (λ (g : Guest). slice_get g.vcpus h) is ∙ at
caller_is h v called now RebootsGuest is at = ap (λ (g : Guest). slice_get g.vcpus h) is ∙ at

-- a reply leaves all but VCPUs
pub same_rest : (called now : Guest) (reply : Reply) → Changes reply called now
    → now ≡ record called { vcpus = now.vcpus }
same_rest called now (Returns error value) is = is
same_rest called now StopsCaller is =
    is ∙ ap (λ (g : Guest). record called { vcpus = g.vcpus }) (sym is)
same_rest called now (HaltsGuest ending) is =
    is ∙ ap (λ (g : Guest). record called { vcpus = g.vcpus }) (sym is)
same_rest called now RebootsGuest is =
    is ∙ ap (λ (g : Guest). record called { vcpus = g.vcpus }) (sym is)

-- ---- signals, VCPU by VCPU

module _ (mask base : ℕ) where
  abbrev if_named : ℕ → VcpuView → VcpuView
  if_named k v = cond (names mask base k) (lone.signalled v) v

  pub signalled_length : (k : ℕ) (vs : List VcpuView)
      → length (lone.signalled_from mask base k vs) ≡ length vs
  unfolding lone.signalled_from
  signalled_length k [] = refl
  signalled_length k (v ∷ vs) = ap suc (signalled_length (suc k) vs)

  -- the first i are signalled, and the rest not yet
  pub signals_so_far : (k i : ℕ) → List VcpuView → List VcpuView
  signals_so_far k i [] = []
  signals_so_far k zero (v ∷ vs) = v ∷ vs
  signals_so_far k (suc i) (v ∷ vs) = if_named k v ∷ signals_so_far (suc k) i vs

  pub signals_none : (k : ℕ) (vs : List VcpuView) → signals_so_far k 0 vs ≡ vs
  unfolding signals_so_far
  signals_none k [] = refl
  signals_none k (v ∷ vs) = refl

  pub signals_length : (k i : ℕ) (vs : List VcpuView) → length (signals_so_far k i vs) ≡ length vs
  unfolding signals_so_far
  signals_length k i [] = refl
  signals_length k zero (v ∷ vs) = refl
  signals_length k (suc i) (v ∷ vs) = ap suc (signals_length (suc k) i vs)

  pub signals_all : (k i : ℕ) (vs : List VcpuView) → length vs ≡ i
      → signals_so_far k i vs ≡ lone.signalled_from mask base k vs
  unfolding signals_so_far lone.signalled_from
  signals_all k i [] all = refl
  signals_all k zero (v ∷ vs) all = absurd (omega arith)
  signals_all k (suc i) (v ∷ vs) all =
      ap (λ (ws : List VcpuView). if_named k v ∷ ws)
      (signals_all (suc k) i vs (let less : length vs ≡ i = omega arith in less))

  -- number i is the next
  pub signals_next : (k i : ℕ) (vs : List VcpuView) (v : VcpuView)
      → slice_get (signals_so_far k i vs) i ≡ Some v
      → set (signals_so_far k i vs) i (if_named (k + i) v) ≡ signals_so_far k (suc i) vs
  unfolding signals_so_far
  signals_next k i [] v at = refl
  signals_next k zero (w ∷ vs) v at =
      let same : w ≡ v = cc in
      let rest = signals_none (suc k) vs in
      let here : k + 0 ≡ k = omega arith in
      ap (λ (n : ℕ). if_named n v ∷ vs) here
      ∙ (ap (λ (x : VcpuView). if_named k x ∷ vs) (sym same)
      ∙ ap (λ (ws : List VcpuView). if_named k w ∷ ws) (sym rest))
  signals_next k (suc i) (w ∷ vs) v at =
      let there : k + suc i ≡ suc k + i = omega arith in
      ap (λ (ws : List VcpuView). if_named k w ∷ ws)
      (ap (λ (n : ℕ). set (signals_so_far (suc k) i vs) i (if_named n v)) there
      ∙ signals_next (suc k) i vs v at)

  -- the same with numbers as a loop has them
  pub signals_one : (i n : ℕ) (vs : List VcpuView) (v : VcpuView) → n ≡ i + 1
      → slice_get (signals_so_far 0 i vs) i ≡ Some v
      → set (signals_so_far 0 i vs) i (if_named i v) ≡ signals_so_far 0 n vs
  signals_one i n vs v next at =
      let here : i ≡ 0 + i = omega arith in
      let after : suc i ≡ n = omega arith in
      ap (λ (k : ℕ). set (signals_so_far 0 i vs) i (if_named k v)) here
      ∙ (signals_next 0 i vs v at ∙ ap (λ (k : ℕ). signals_so_far 0 k vs) after)
