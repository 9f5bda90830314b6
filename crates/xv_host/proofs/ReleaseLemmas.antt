-- What a release needs of a host, and what it keeps; a call that changes neither what is held nor
-- the pool; and a host that holds nothing.
use Rattle.std.proofs.Common.{◌≡◌, ℕ, zero, suc, ◌+◌, ◌-◌, ◌*◌, ◌/◌, ◌<◌, ◌≤◌, List}
use Rattle.std.proofs.Common.{length, get_or, set, refl, sym, ap, ◌∙◌, subst, arith}
use Rattle.std.proofs.Common.{Some, None, false, is_some, replicate}
use Rattle.std.specs.Prelude.{slice_get}
use Rattle.std.specs.List.{sum_by}
use Rattle.std.proofs.lemmas.List.{get_or-set_same, get_or-set_other}
use Rattle.std.proofs.lemmas.List.Sums.{sum_by-cons, get_or-le-sum_by}
use Rattle.std.proofs.lemmas.Option.{slice_get-get_or}
use Rattle.xv_base.specs.declared.keys.Span.{Span}
use Rattle.xv_base.specs.Range.{range_end}
use Rattle.xv_pool.specs.FrameList.{up_from}
use Rattle.xv_pool.specs.Resources.{Resources, IsSound, fresh}
use Rattle.xv_pte.specs.GStage.{frame_bytes}
use Rattle.xv_gstage.specs.Memory.{IsZero}
use Rattle.xv_guest.specs.Frames.{IsInside, reserved_ranges}
use Rattle.xv_guest.specs.Guest.{Guest, held_of}
use Rattle.xv_guest.specs.Held.{Held, IsHeld, Within, holds}
use Rattle.xv_guest.specs.Take.{GivesBack, MayGive}
use Rattle.xv_guest.proofs.FrameLemmas.{hit}
use Rattle.xv_guest.proofs.HeldLemmas.{up_from-bounds}
use Rattle.xv_hart.specs.declared.machine.Machine.{Machine}
use Rattle.xv_mem.proofs.Puts.{range-replicate}
use Rattle.xv_host.specs.Host.{IsFresh}
use Rattle.xv_host.specs.Places.{Places, guest_at, amount_at, amount_of}
use Rattle.xv_region.specs.Rules.{Accepted}
use Rattle.xv_host.specs.Holdings.{IsLaidOut, Holdings, IsPlaced, IsStep}
use Rattle.xv_host.proofs.HoldingLemmas.{once, within}
use Rattle.xv_host.proofs.SumLemmas.{amounts, listed_amount}

-- ---- a release

module _ (bytes : List ℕ) (pool : Resources) (places : Places)
    (holdings : Holdings bytes pool places) (k : ℕ) (g : Guest)
    (at : guest_at places k ≡ Some g) where
  root_is : g.root ≡ Some k
  root_is = holdings.parted.root k g at

  held_root : (held_of g).root ≡ k
  held_root = rw root_is refl

  part_of : (amount : Held → ℕ) → amount (held_of g) ≤ amount_of amount places
  part_of amount =
      let bound = get_or-le-sum_by (amount_at amount) places k None (within places k g at) in
      let here = ap (amount_at amount) at in
      omega arith

  pub may_give : MayGive bytes pool g
  may_give = record {
    taken = root_is ∙ ap Some (sym held_root);
    root =
        let out = holdings.parted.roots k ∙ ap is_some at in
        let low : k < length pool.roots = omega (
          arith,
          within places k g at,
          holdings.parted.sixteen,
          holdings.parted.sound.sixteen,
        ) in
        ap (λ (j : ℕ). slice_get pool.roots j) held_root
        ∙ slice_get-get_or pool.roots k false low ∙ ap Some out;
    frames = λ frame some.
        let part = part_of (listed_amount frame) in
        let all = holdings.parted.frames (hit frame) in
        up_from-bounds frame pool.first pool.count (omega arith);
    out = λ frame.
        let part = part_of (listed_amount frame) in
        let parts = amounts frame places in
        let all = once bytes pool places holdings.laid holdings.parted frame in
        omega arith;
    ranges = λ weight.
        let part = part_of (λ h. sum_by weight (reserved_ranges h.regions)) in
        let all = holdings.parted.ranges weight in
        omega arith;
    inside = (holdings.owned k g at).memory.inside;
  }

  pub release_step : (new : List ℕ) (pool' : Resources) → GivesBack pool pool' g → IsSound pool'
      → ((frame : ℕ) → 0 < holds frame (held_of g) → IsZero new frame)
      → Within (held_of g) bytes new → IsStep bytes new pool pool' k (Some g) None
  release_step new pool' back sound zeros within_held = record {
    moves = record {
      frames = λ weight. let all = back.frames weight in omega arith;
      root = ap (λ p. get_or p.roots k false) back.others
          ∙ ap (λ (j : ℕ). get_or (set pool.roots j false) k false) held_root
          ∙ get_or-set_same pool.roots k false false low;
      roots = λ j other. ap (λ p. get_or p.roots j false) back.others
          ∙ ap (λ (i : ℕ). get_or (set pool.roots i false) j false) held_root
          ∙ get_or-set_other pool.roots k j false false other;
      ranges = λ weight. let all = back.ranges weight in omega arith;
      first = ap (λ p. p.first) back.others;
      count = ap (λ p. p.count) back.others;
      area = ap (λ p. p.area) back.others;
      sound = sound;
    };
    whole = within_held.whole;
    placed = λ g' is. cc;
    others = λ frame inside none. within_held.others frame inside (omega arith);
    cleared = λ frame some none. zeros frame some;
  }
    where
      low : k < length pool.roots
      low = omega (
        arith,
        within places k g at,
        holdings.parted.sixteen,
        holdings.parted.sound.sixteen,
      )

  -- ---- a call of one guest, which keeps what it holds

  pub kept_step : (new : List ℕ) (g' : Guest) → held_of g' ≡ held_of g → g'.key ≡ g.key
      → g'.root ≡ g.root → g'.plan ≡ g.plan → Within (held_of g) bytes new
      → IsHeld new (held_of g') → IsStep bytes new pool pool k (Some g) (Some g')
  kept_step new g' same key root plan within_held held = record {
    moves = record {
      frames = λ weight. ap (λ h. sum_by weight h.frames + sum_by weight pool.free) same;
      root = holdings.parted.roots k ∙ ap is_some at;
      roots = λ j other. refl;
      ranges = λ weight.
          ap (λ h. sum_by weight (reserved_ranges h.regions) + sum_by weight pool.held) same;
      first = refl;
      count = refl;
      area = refl;
      sound = holdings.parted.sound;
    };
    whole = within_held.whole;
    placed = λ g'' is. placed g'' is;
    others = λ frame inside none. within_held.others frame inside (omega arith);
    cleared = λ frame some none.
        let here = ap (λ h. holds frame h) same in absurd (omega arith);
  }
    where
      ap_all : g'.plan ≡ g.plan → Accepted g.plan.regions → Accepted g'.plan.regions
      ap_all is accepted = rw is accepted

      placed : (g'' : Guest) → Some g' ≡ Some g'' → IsPlaced new k g''
      placed g'' is =
          let is_guest : g' ≡ g'' = cc in
          subst (λ (h : Guest). IsPlaced new k h) is_guest (record {
            key = key ∙ holdings.parted.key k g at;
            root = root ∙ root_is;
            accepted = ap_all plan (holdings.parted.accepted k g at);
            owned = held;
          })

-- ---- nothing is held

module _ where
  nothing_held : (amount : Held → ℕ) (n : ℕ) → amount_of amount (replicate n None) ≡ 0
  nothing_held amount zero = refl
  nothing_held amount (suc n) =
      let parts = sum_by-cons (amount_at amount) None (replicate n None) in
      let rest = nothing_held amount n in
      omega arith

  no_guest : (n k : ℕ) (g : Guest) → guest_at (replicate n None) k ≡ Some g → ⊥
  no_guest zero k g is = cc
  no_guest (suc n) zero g is = cc
  no_guest (suc n) (suc k) g is = no_guest n k g is

  no_root : (n k : ℕ) → get_or (replicate n false) k false ≡ is_some (guest_at (replicate n None) k)
  no_root zero k = refl
  no_root (suc n) zero = refl
  no_root (suc n) (suc k) = no_root n k

  -- a memory of zeros, of which nothing is held
  pub holdings_new : (bytes : List ℕ) (first count : ℕ) (area : Span)
      → IsLaidOut bytes (fresh first count area) → IsSound (fresh first count area)
      → ((frame : ℕ) → IsInside bytes frame → IsZero bytes frame)
      → Holdings bytes (fresh first count area) (replicate 16 None)
  holdings_new bytes first count area laid sound zeros = record {
    laid = laid;
    parted = record {
      sixteen = refl;
      key = λ k g is. absurd (no_guest 16 k g is);
      root = λ k g is. absurd (no_guest 16 k g is);
      accepted = λ k g is. absurd (no_guest 16 k g is);
      frames = λ weight.
          let none = nothing_held (λ h. sum_by weight h.frames) 16 in
          ap (λ (n : ℕ). n + sum_by weight (up_from first count)) none ∙ omega arith;
      roots = λ k. no_root 16 k;
      ranges = λ weight. nothing_held (λ h. sum_by weight (reserved_ranges h.regions)) 16;
      sound = sound;
    };
    owned = λ k g is. absurd (no_guest 16 k g is);
    clean = λ frame inside none. zeros frame inside;
  }

-- a host over a machine of zeros
pub hosted_new : (m : Machine) → IsFresh m → (pool : Resources) (guests : Places) (count : ℕ)
    (area : Span) → pool ≡ fresh 64 count area → area ≡ m.area → count ≡ area.start / 4096 - 64
    → IsSound pool → guests ≡ replicate 16 None → Holdings m.mem pool guests
hosted_new m is_fresh pool guests count area is same number sound none =
    subst (λ (p : Resources). Holdings m.mem p guests) (sym is)
    (subst (Holdings m.mem (fresh 64 count area)) (sym none)
    (holdings_new m.mem 64 count area
    (record {
      first = refl;
      next =
          let start = ap (λ a. a.start) same in
          omega (arith, is_fresh.start, is_fresh.roots);
      end = ap range_end same ∙ is_fresh.end;
    }) (subst IsSound is sound)
    (λ frame inside.
    ap (λ bytes. frame_bytes bytes frame) is_fresh.zeros
    ∙ range-replicate (length m.mem) (4096 * frame) 4096 inside)))
