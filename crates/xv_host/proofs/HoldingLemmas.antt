-- The invariant of a host: what it says of one frame, and how a call keeps it.
use Rattle.std.proofs.Common.{◌≡◌, ◌≢◌, ℕ, zero, suc, ◌+◌, ◌*◌, ◌<◌, ◌≤◌, List, [], ◌∷◌}
use Rattle.std.proofs.Common.{length, get_or, set, sym, ap, ◌∙◌, subst, arith, inl, inr}
use Rattle.std.proofs.Common.{Option, Some, None, false, is_some}
use Rattle.std.specs.List.{sum_by}
use Rattle.std.proofs.lemmas.Bool.{cases_lt, cases_eq}
use Rattle.std.proofs.lemmas.List.{length-set, get_or-set_other, get_or-set_same}
use Rattle.std.proofs.lemmas.List.Sums.{sum_by-set, get_or-le-sum_by}
use Rattle.xv_base.specs.Range.{range_end}
use Rattle.xv_pool.specs.FrameList.{up_from}
use Rattle.xv_pool.specs.Resources.{Resources}
use Rattle.xv_guest.specs.Frames.{hits}
use Rattle.xv_guest.specs.Guest.{Guest, held_of, lone_of}
use Rattle.xv_gstage.specs.Memory.{IsZero}
use Rattle.xv_guest.specs.Frames.{IsInside, reserved_ranges}
use Rattle.xv_guest.specs.Held.{Held, Same, holds}
use Rattle.xv_guest.proofs.MemoryLemmas.{memory_same}
use Rattle.xv_guest.proofs.OrderLemmas.{held_same}
use Rattle.xv_guest.proofs.FrameLemmas.{hit, hits-up_from_below, hits-up_from_above}
use Rattle.xv_host.specs.Places.{Places, guest_at, amount_at, amount_of}
use Rattle.xv_region.specs.Rules.{Accepted}
use Rattle.xv_host.specs.Holdings.{IsLaidOut, IsParted, Holdings, IsStep}
use Rattle.xv_host.specs.Holdings.{OthersStay}
use Rattle.xv_host.proofs.RangePages.{ranges_whole}
use Rattle.xv_host.proofs.SumLemmas.{amounts, in_range}
use Rattle.xv_host.proofs.SumLemmas.{root_once, root_above, range_amounts}
use Rattle.xv_host.proofs.SumLemmas.{range_in_area, two_places, hits_once, HaveRoots}

-- ---- one frame

roots_from : {pool : Resources} (places : Places) → IsParted pool places → HaveRoots 0 places
roots_from places parted j g is = parted.root j g is ∙ ap Some (omega arith)

-- each frame is held once, or free once, or neither
pub once : (bytes : List ℕ) (pool : Resources) (places : Places) → IsLaidOut bytes pool
    → IsParted pool places → (frame : ℕ)
    → amount_of (holds frame) places + hits frame pool.free ≤ 1
once bytes pool places laid parted frame =
    let parts = amounts frame places in
    let listed = parted.frames (hit frame) in
    let ranges = range_amounts frame places
    (λ j g is. ranges_whole g.plan.regions (parted.accepted j g is)) in
    let taken = parted.ranges (in_range frame) in
    let most = parted.sound.apart (4096 * frame) in
    let roots = root_once frame 0 places (roots_from places parted) in
    let pool_most = hits_once frame pool.first pool.count in
    let area = λ (some : 0 < sum_by (in_range frame) pool.held).
    range_in_area frame pool.held pool.area parted.sound.reserved some in
    elim (cases_lt frame 64) [
      | inl root ↦
          (let none = hits-up_from_below frame pool.first pool.count (omega (arith, laid.first)) in
          let no_range : sum_by (in_range frame) pool.held ≡ 0 = elim (cases_lt 0
          (sum_by (in_range frame) pool.held)) [
            | inl some ↦ absurd (let at = area some in omega (arith, at.0, laid.next))
            | inr nothing ↦ omega arith
          ] in
          omega arith)
      | inr past ↦
          (let no_root = root_above frame 0 places (roots_from places parted)
          (omega (arith, parted.sixteen)) in
          elim (cases_lt frame (64 + pool.count)) [
            | inl inside ↦
                (let no_range : sum_by (in_range frame) pool.held ≡ 0 = elim (cases_lt 0
                (sum_by (in_range frame) pool.held)) [
                  | inl some ↦ absurd (let at = area some in omega (arith, at.0, laid.next))
                  | inr nothing ↦ omega arith
                ] in
                omega arith)
            | inr above ↦
                (let none = hits-up_from_above frame pool.first pool.count
                (omega (arith, laid.first)) in
                omega arith)
          ])
    ]

-- no two guests hold one frame
pub apart : (bytes : List ℕ) (pool : Resources) (places : Places) → IsLaidOut bytes pool
    → IsParted pool places → (j k : ℕ) → j ≢ k → j < 16 → k < 16 → (frame : ℕ)
    → 0 < amount_at (holds frame) (guest_at places j)
    → amount_at (holds frame) (guest_at places k) ≡ 0
apart bytes pool places laid parted j k other low high frame some =
    let all = once bytes pool places laid parted frame in
    let two = two_places (holds frame) places j k other (omega (arith, parted.sixteen))
    (omega (arith, parted.sixteen)) in
    omega arith

-- a live guest's place is one of the sixteen
pub within : (places : Places) (j : ℕ) (g : Guest) → guest_at places j ≡ Some g
    → j < length places
within [] j g is = cc
within (place ∷ places) zero g is = omega arith
within (place ∷ places) (suc j) g is = let rest = within places j g is in omega arith

-- ---- one call

module _ (old new : List ℕ) (pool pool' : Resources) (places : Places) (k : ℕ)
    (was now : Option Guest) (low : k < 16) (at : guest_at places k ≡ was)
    (holdings : Holdings old pool places) (step : IsStep old new pool pool' k was now)
  where
    after : Places
    after = set places k now

    last : k < length places
    last = omega (arith, low, holdings.parted.sixteen)

    at_k : guest_at (set places k now) k ≡ now
    at_k = get_or-set_same places k now None last

    at_other : (j : ℕ) → j ≢ k → guest_at (set places k now) j ≡ guest_at places j
    at_other j other = get_or-set_other places k j now None other

    moved : (amount : Held → ℕ) → amount_of amount (set places k now) + amount_at amount was
        ≡ amount_of amount places + amount_at amount now
    moved amount =
        let change = sum_by-set (amount_at amount) places k now None last in
        let here = ap (amount_at amount) at in
        omega arith

    pub laid_after : IsLaidOut new pool'
    laid_after = record {
      first = step.moves.first ∙ holdings.laid.first;
      next = ap (λ area. area.start) step.moves.area ∙ (holdings.laid.next
          ∙ ap (λ n. 4096 * (64 + n)) (sym step.moves.count));
      end = ap range_end step.moves.area ∙ (holdings.laid.end ∙ sym step.whole);
    }

    -- of the guest at a place: what holds of the new one, and of every guest that was there, holds
    each : (P : ℕ → Guest → Type 0) → ((g : Guest) → now ≡ Some g → P k g)
        → ((j : ℕ) (g : Guest) → guest_at places j ≡ Some g → P j g)
        → (j : ℕ) (g : Guest) → guest_at (set places k now) j ≡ Some g → P j g
    each P here others j g is = elim (cases_eq j k) [
      | inl same ↦ subst (λ (i : ℕ). P i g) (sym same)
          (here g (sym at_k ∙ (ap (guest_at (set places k now)) (sym same) ∙ is)))
      | inr other ↦ others j g (sym (at_other j other) ∙ is)
    ]

    pub parted_after : IsParted pool' (set places k now)
    parted_after = record {
      sixteen = length-set places k now ∙ holdings.parted.sixteen;
      key = each (λ j g. g.key ≡ j) (λ g is. (step.placed g is).key) holdings.parted.key;
      root = each (λ j g. g.root ≡ Some j) (λ g is. (step.placed g is).root) holdings.parted.root;
      accepted = each (λ j g. Accepted g.plan.regions)
          (λ g is. (step.placed g is).accepted) holdings.parted.accepted;
      frames = λ weight.
          let change = moved (λ h. sum_by weight h.frames) in
          let before = holdings.parted.frames weight in
          let exchange = step.moves.frames weight in
          let first = ap (λ n. sum_by weight (up_from n pool'.count)) step.moves.first in
          let count = ap (λ n. sum_by weight (up_from pool.first n)) step.moves.count in
          omega arith;
      roots = λ j. elim (cases_eq j k) [
        | inl same ↦ ap (λ i. get_or pool'.roots i false) same ∙ (step.moves.root
            ∙ (ap is_some (sym at_k) ∙ ap (λ i. is_some (guest_at (set places k now) i))
            (sym same)))
        | inr other ↦ step.moves.roots j other ∙ (holdings.parted.roots j
            ∙ ap is_some (sym (at_other j other)))
      ];
      ranges = λ weight.
          let change = moved (λ h. sum_by weight (reserved_ranges h.regions)) in
          let before = holdings.parted.ranges weight in
          let exchange = step.moves.ranges weight in
          omega arith;
      sound = step.moves.sound;
    }

    -- every other guest's bytes are as before
    pub others_same : (j : ℕ) (g : Guest) → j ≢ k → guest_at places j ≡ Some g
        → Same old new (held_of g)
    others_same j g other is frame some =
        let low_j : j < 16 = omega (arith, within places j g is, holdings.parted.sixteen) in
        let some_before : 0 < amount_at (holds frame) (guest_at places j) = rw is some in
        let some_after : 0 < amount_at (holds frame) (guest_at (set places k now) j) =
        rw (at_other j other, is) some in
        let before = apart old pool places holdings.laid holdings.parted j k other low_j low frame
        some_before in
        let later = apart new pool' (set places k now) laid_after parted_after j k other low_j low
        frame some_after in
        let none_before : amount_at (holds frame) was ≡ 0 = rw (← at) before in
        let none_after : amount_at (holds frame) now ≡ 0 = rw (← at_k) later in
        step.others frame ((holdings.owned j g is).memory.inside frame some) (omega arith)

    pub clean_after : (frame : ℕ) → IsInside new frame
        → amount_of (holds frame) (set places k now) ≡ 0 → IsZero new frame
    clean_after frame inside none =
        let change = moved (holds frame) in
        let bound = get_or-le-sum_by (amount_at (holds frame)) (set places k now) k None
        (rw (length-set places k now) last) in
        let here = ap (amount_at (holds frame)) at_k in
        let there : IsInside old frame = omega (arith, inside, step.whole) in
        elim (cases_lt 0 (amount_at (holds frame) was)) [
          | inl some ↦ step.cleared frame some (omega arith)
          | inr nothing ↦ step.others frame there (omega arith)
              ∙ holdings.clean frame there (omega arith)
        ]

    pub holdings_step : Holdings new pool' (set places k now)
    holdings_step = record {
      laid = laid_after;
      parted = parted_after;
      owned = λ j g is. elim (cases_eq j k) [
        | inl same ↦ (step.placed g
            (sym at_k ∙ (ap (guest_at (set places k now)) (sym same) ∙ is))).owned
        | inr other ↦
            (let was_there = sym (at_other j other) ∙ is in
            held_same old new (held_of g) (others_same j g other was_there) step.whole
            (holdings.owned j g was_there))
      ];
      clean = clean_after;
    }

    -- so nothing of any other guest changes
    pub others_stay : OthersStay k old new places (set places k now)
    others_stay j g other is =
        let same = others_same j g other is in
        let held = holdings.owned j g is in
        let held_now = held_same old new (held_of g) same step.whole held in (
          at_other j other ∙ is,
          record {
            bytes = same;
            machine = ap (λ m. record (lone_of g old) { memory = m })
                (memory_same old new (held_of g) same);
            walks = λ page. held_now.order.led page ∙ sym (held.order.led page);
          },
        )
