-- What an admit needs of a host, and what it keeps.
use Rattle.std.proofs.Common.{◌≡◌, ℕ, zero, suc, ◌+◌, ◌*◌, ◌/◌, ◌<◌, ◌≤◌, List, [], ◌∷◌, ◌++◌}
use Rattle.std.proofs.Common.{length, get_or, set, take, drop, refl, sym, ap, ◌∙◌, subst, arith}
use Rattle.std.proofs.Common.{inl, inr}
use Rattle.std.proofs.Common.{Option, Some, None, Bool, true, false, is_some, cond, Ok, ltb}
use Rattle.std.specs.List.{All, Contains, count_by, list_any, sum_by}
use Rattle.std.proofs.lemmas.Bool.{cases_lt}
use Rattle.std.proofs.lemmas.List.{get_or-set_same, get_or-set_other}
use Rattle.std.proofs.lemmas.List.Sums.{sum_by-cons, sum_by-append, sum_by-take-drop}
use Rattle.std.proofs.lemmas.List.Sums.{count_by-le-length}
use Rattle.xv_base.specs.declared.keys.Span.{Span}
use Rattle.xv_base.specs.Range.{LiesIn, meets_one}
use Rattle.xv_pool.specs.Resources.{Resources, IsSound, tested}
use Rattle.xv_region.specs.declared.plan.Region.{Region}
use Rattle.xv_region.specs.Need.{need}
use Rattle.xv_region.specs.Rules.{Accepted, are_sound, first_fault}
use Rattle.xv_gstage.specs.Memory.{IsZero, IsZeroRoot, SameOutside}
use Rattle.xv_gstage.specs.Own.{pages_of, reserved_frames, table_frames}
use Rattle.xv_guest.specs.Frames.{IsInside, hits, reserved_ranges}
use Rattle.xv_guest.specs.Guest.{Guest, held_of}
use Rattle.xv_guest.specs.Held.{IsHeld, holds}
use Rattle.xv_guest.specs.Take.{MayTake, least_root, pool_after, taken_guest}
use Rattle.xv_guest.proofs.FrameLemmas.{hit, hits-up_from_below, hits-up_from_above}
use Rattle.xv_guest.proofs.FrameLemmas.{hits-take-drop}
use Rattle.xv_guest.proofs.HeldLemmas.{hits-Contains, root-hits}
use Rattle.xv_guest.proofs.TakeLemmas.{same_frame, least_is}
use Rattle.xv_host.specs.Places.{Places, guest_at, amount_at, amount_of}
use Rattle.xv_host.proofs.RangePages.{HasPages, ranges_few, ranges_inside, ranges_whole}
use Rattle.xv_host.specs.Holdings.{IsLaidOut, IsParted, Holdings, Moves, IsPlaced, IsStep}
use Rattle.xv_pool.specs.Resources.{all_out}
use Rattle.xv_pool.specs.declared.fault.PoolFault.TheVariants.{NoRoot, NoFrame, ReservedBusy}
use Rattle.std.proofs.Common.{Err, IsTrue}
use Rattle.xv_pool.proofs.SoundLemmas.{all_out-true}
use Rattle.xv_region.specs.Plan.{Plan}
use Rattle.xv_guest.specs.Guest.{new_guest}
use Rattle.xv_lone.specs.declared.vcpu.GuestState.TheVariants.{Reset}
use Rattle.xv_host.specs.Host.{Host, IsHosted, admitted}
use Rattle.xv_host.specs.Places.{IsLeast}
use Rattle.xv_host.specs.Holdings.{OthersStay}
use Rattle.xv_host.proofs.HoldingLemmas.{once, holdings_step, others_stay}
use Rattle.std.specs.Prelude.{slice_get}
use Rattle.std.proofs.lemmas.Option.{slice_get-get_or}
use Rattle.xv_host.proofs.SumLemmas.{amounts, in_range, ranges_are, range_amounts}
use Rattle.xv_host.proofs.SumLemmas.{range_in_area, root_at_none, root_above, none_has, frame_fits}

abbrev one_if : Option Guest → ℕ
one_if place = cond (is_some place) 1 0

none_counts : (place : Option Guest) → place ≡ None → one_if place ≡ 0
none_counts place is = rw is refl

ones_count : (ranges : List Span) → sum_by (λ r. 1) ranges ≡ length ranges
ones_count [] = refl
ones_count (r ∷ ranges) =
    let sum = sum_by-cons (λ (s : Span). 1) r ranges in
    let rest = ones_count ranges in
    omega arith

-- there is room for the ranges of one guest more
ranges_amount : (places : Places) → ((j : ℕ) (g : Guest) → guest_at places j ≡ Some g
    → Accepted g.plan.regions)
    → amount_of (λ h. sum_by (λ r. 1) (reserved_ranges h.regions)) places
    ≤ 32 * count_by is_some places
ranges_amount [] accepted = omega arith
ranges_amount (place ∷ places) accepted =
    let sum = sum_by-cons (amount_at (λ h. sum_by (λ r. 1) (reserved_ranges h.regions))) place
    places in
    let count = sum_by-cons one_if place places in
    let rest = ranges_amount places (λ j g is. accepted (suc j) g is) in
    let here = one_place place (λ g is. accepted 0 g is) in
    omega arith
  where
    one_place : (place : Option Guest) → ((g : Guest) → place ≡ Some g → Accepted g.plan.regions)
        → amount_at (λ h. sum_by (λ r. 1) (reserved_ranges h.regions)) place ≤ 32 * one_if place
    one_place None accepted = omega arith
    one_place (Some g) accepted =
        let few = ranges_few g.plan.regions (accepted g refl) in
        let ones = ones_count (reserved_ranges g.plan.regions) in
        omega arith

-- where one place is empty, not all are full
none_less : (places : Places) (k : ℕ) → k < length places → guest_at places k ≡ None
    → count_by is_some places + 1 ≤ length places
none_less [] k inside none = absurd (omega arith)
none_less (place ∷ places) zero inside none =
    let count = sum_by-cons one_if place places in
    let here = none_counts place none in
    let most = count_by-le-length is_some places in
    omega arith
none_less (place ∷ places) (suc k) inside none =
    let count = sum_by-cons one_if place places in
    let rest = none_less places k (omega arith) none in
    let here = at_most_one place in
    omega arith
  where
    at_most_one : (place : Option Guest) → one_if place ≤ 1
    at_most_one None = omega arith
    at_most_one (Some g) = omega arith

room_for_ranges : (pool : Resources) (places : Places) → IsParted pool places → (k : ℕ) → k < 16
    → guest_at places k ≡ None → length pool.held ≤ 480
room_for_ranges pool places parted k low none =
    let all = ranges_amount places parted.accepted in
    let held = parted.ranges (λ r. 1) in
    let ones = ones_count pool.held in
    let within_places : k < length places = omega (arith, low, parted.sixteen) in
    let most = none_less places k within_places none in
    let here = none_counts (guest_at places k) none in
    omega (arith, parted.sixteen)

module _ (bytes : List ℕ) (pool : Resources) (places : Places)
    (holdings : Holdings bytes pool places) where
  laid : IsLaidOut bytes pool
  laid = holdings.laid

  -- what nobody holds lies in the memory, where it is a root's, the pool's or the area's
  below_end : (frame : ℕ) → frame < 64 + pool.count → IsInside bytes frame
  below_end frame less = omega (arith, laid.next, laid.end)

  -- ---- free frames

  free_frame : (frame : ℕ) → 0 < hits frame pool.free
      → (64 ≤ frame) × IsZero bytes frame
  free_frame frame some =
      let all = once bytes pool places laid holdings.parted frame in
      let listed = holdings.parted.frames (hit frame) in
      elim (cases_lt frame 64) [
        | inl root ↦
            (let none = hits-up_from_below frame pool.first pool.count (omega (arith, laid.first))
            in
            absurd (omega arith))
        | inr past ↦ elim (cases_lt frame (64 + pool.count)) [
          | inl inside ↦ (past, holdings.clean frame (below_end frame inside) (omega arith))
          | inr above ↦
              (let none = hits-up_from_above frame pool.first pool.count
              (omega (arith, laid.first)) in
              absurd (omega arith))
        ]
      ]

  -- ---- a root that isn't out

  pub free_root : (k : ℕ) → k < 16 → guest_at places k ≡ None → IsZeroRoot bytes k
  free_root k low none frame is =
      let parts = amounts frame places in
      let listed = holdings.parted.frames (hit frame) in
      let no_list = hits-up_from_below frame pool.first pool.count
      (omega (arith, laid.first, low, is)) in
      let ranges = range_amounts frame places
      (λ j g at. ranges_whole g.plan.regions (holdings.parted.accepted j g at)) in
      let taken = holdings.parted.ranges (in_range frame) in
      let no_range : sum_by (in_range frame) pool.held ≡ 0 = elim (cases_lt 0
      (sum_by (in_range frame) pool.held)) [
        | inl some ↦ absurd (let at = range_in_area frame pool.held pool.area
            holdings.parted.sound.reserved some in omega (arith, at.0, laid.next, low, is))
        | inr nothing ↦ omega arith
      ] in
      let no_root = root_at_none frame 0 places (λ j g at. holdings.parted.root j g at
      ∙ ap Some (omega arith)) k (none) (omega (arith, is)) in
      holdings.clean frame (below_end frame (omega (arith, low, is))) (omega arith)

  -- ---- ranges that meet none that is out

  reserved_frame : (regions : List Region) → All HasPages (reserved_ranges regions)
      → All (λ range. LiesIn range pool.area) (reserved_ranges regions)
      → list_any (meets_one pool.held) (reserved_ranges regions) ≡ false → (frame : ℕ)
      → 0 < hits frame (reserved_frames regions)
      → (64 ≤ frame) × (hits frame pool.free ≡ 0) × IsZero bytes frame
  reserved_frame regions pages area apart frame some =
      let same = ranges_are frame regions pages in
      let at = range_in_area frame (reserved_ranges regions) pool.area area (omega arith) in
      let past : 64 + pool.count ≤ frame = omega (arith, at.0, laid.next) in
      let listed = holdings.parted.frames (hit frame) in
      let no_list = hits-up_from_above frame pool.first pool.count (omega (arith, laid.first)) in
      let no_range = none_has frame pool.held (reserved_ranges regions) apart (omega arith) in
      let parts = amounts frame places in
      let ranges = range_amounts frame places
      (λ j g is. ranges_whole g.plan.regions (holdings.parted.accepted j g is)) in
      let taken = holdings.parted.ranges (in_range frame) in
      let no_root = root_above frame 0 places (λ j g is. holdings.parted.root j g is
      ∙ ap Some (omega arith)) (omega (arith, holdings.parted.sixteen)) in
      let inside : IsInside bytes frame = omega (
        arith,
        at.1,
        laid.end,
        frame_fits frame
            (reserved_ranges regions) pool.area area pages (omega arith),
      ) in
      (omega arith, omega arith, holdings.clean frame inside (omega arith))

  -- what a guest takes can be had, and is zero
  pub may_take : (regions : List Region) → Accepted regions
      → All (λ range. LiesIn range pool.area) (reserved_ranges regions)
      → tested pool (need regions) (reserved_ranges regions) ≡ Ok tt
      → list_any (meets_one pool.held) (reserved_ranges regions) ≡ false
      → least_root pool.roots < 16 → guest_at places (least_root pool.roots) ≡ None
      → MayTake bytes pool regions
  may_take regions accepted area can apart low none = record {
    tested = can;
    room =
        let all = room_for_ranges pool places holdings.parted (least_root pool.roots) low none in
        let few = ranges_few regions accepted in
        omega arith;
    area = area;
    root = free_root (least_root pool.roots) low none;
    free = free_frame;
    reserved = reserved_frame regions (ranges_whole regions accepted) area apart;
  }

-- ---- the guest that took

module _ (old new : List ℕ) (pool : Resources) (g : Guest) (k : ℕ) (low : k < 16)
    (sixteen : length pool.roots ≡ 16) (root : least_root pool.roots ≡ k) where
  took : IsSound (pool_after g.plan.regions pool)
      → Moves pool (pool_after g.plan.regions pool) k None (Some (taken_guest pool g))
  took sound = record {
    frames = λ weight. plain (sum_by weight (take (need g.plan.regions) pool.free))
        (sum_by weight (drop (need g.plan.regions) pool.free)) (sum_by weight pool.free)
        (sum_by-take-drop weight pool.free (need g.plan.regions));
    root = ap (λ (j : ℕ). get_or (set pool.roots j true) k false) root
        ∙ get_or-set_same pool.roots k true false (omega (arith, low, sixteen));
    roots = λ j other. ap (λ (i : ℕ). get_or (set pool.roots i true) j false) root
        ∙ get_or-set_other pool.roots k j true false other;
    ranges = λ weight. ranges_moved (sum_by weight (reserved_ranges g.plan.regions))
        (sum_by weight pool.held) (sum_by weight (pool.held ++ reserved_ranges g.plan.regions))
        (sum_by-append weight pool.held (reserved_ranges g.plan.regions));
    first = refl;
    count = refl;
    area = refl;
    sound = sound;
  }
    where
      plain : (a b c : ℕ) → a + b ≡ c → a + b ≡ 0 + c
      plain a b c is = omega arith

      ranges_moved : (a b c : ℕ) → c ≡ b + a → a + b ≡ 0 + c
      ranges_moved a b c is = omega arith

  pub admit_step : IsSound (pool_after g.plan.regions pool) → g.key ≡ k
      → Accepted g.plan.regions
      → IsHeld new (held_of (taken_guest pool g))
      → SameOutside old new k (table_frames g.plan.regions (taken_guest pool g).frames)
      → IsStep old new pool (pool_after g.plan.regions pool) k None (Some (taken_guest pool g))
  admit_step sound key accepted held same = record {
    moves = took sound;
    whole = same.whole;
    placed = λ g' is. placed g' is;
    others = λ frame inside none. same_frame old new k
        (table_frames g.plan.regions (taken_guest pool g).frames) frame same inside
        (λ is. off_root frame is none) (λ among. off_list frame among none);
    cleared = λ frame some none. absurd (omega arith);
  }
    where
      placed : (g' : Guest) → Some (taken_guest pool g) ≡ Some g' → IsPlaced new k g'
      placed g' is =
          let same_guest : taken_guest pool g ≡ g' = cc in
          subst (λ (h : Guest). IsPlaced new k h) same_guest (record {
            key = key;
            root = ap Some root;
            accepted = accepted;
            owned = held;
          })

      off_root : (frame : ℕ) → frame / 4 ≡ k
          → 0 + holds frame (held_of (taken_guest pool g)) ≡ 0 → ⊥
      off_root frame is none =
          let some = root-hits frame (least_root pool.roots) (is ∙ sym root) in
          absurd (omega arith)

      off_list : (frame : ℕ) → Contains (table_frames g.plan.regions (taken_guest pool g).frames)
          frame → 0 + holds frame (held_of (taken_guest pool g)) ≡ 0 → ⊥
      off_list frame among none =
          let some = hits-Contains frame
          (table_frames g.plan.regions (taken_guest pool g).frames) among in
          let parts = hits-take-drop frame (pages_of g.plan.regions)
          (take (need g.plan.regions) pool.free) in
          absurd (omega arith)

-- ---- an admit

pub tested_parts : (pool : Resources) (n : ℕ) (ranges : List Span) → tested pool n ranges ≡ Ok
    (tt {0})
    → (all_out pool.roots ≡ false) × (list_any (meets_one pool.held) ranges ≡ false)
tested_parts pool n ranges is =
    go (all_out pool.roots) (ltb (length pool.free) n) (list_any (meets_one pool.held) ranges) is
  where
    go : (out few busy : Bool) → cond out (Err NoRoot)
        (cond few (Err (NoFrame n (length pool.free)))
        (cond busy (Err ReservedBusy) (Ok (tt {0})))) ≡ Ok (tt {0}) → (out ≡ false) × (busy ≡ false)
    go true few busy is = cc
    go false true busy is = cc
    go false false true is = cc
    go false false false is = (refl, refl)

module _ (bytes : List ℕ) (pool : Resources) (places : Places)
    (holdings : Holdings bytes pool places) where
  root_out : (k : ℕ) → k < 16 → slice_get pool.roots k ≡ Some (is_some (guest_at places k))
  root_out k low =
      slice_get-get_or pool.roots k false (omega (arith, low, holdings.parted.sound.sixteen))
      ∙ ap Some (holdings.parted.roots k)

  -- the least free key is the least root that isn't out
  pub key_is_root : (k : ℕ) → IsLeast places k → least_root pool.roots ≡ k
  key_is_root k least =
      least_is pool.roots k (root_out k least.inside ∙ ap (λ p. Some (is_some p)) least.free)
      (λ j before. root_out j (omega (arith, before, least.inside)) ∙ ap Some
      (least.least j before))

  -- where every key has a guest, no root can be had
  pub all_are_out : ((k : ℕ) → k < 16 → is_some (guest_at places k) ≡ true)
      → all_out pool.roots ≡ true
  all_are_out full =
      sym (all_out-true pool.roots (λ k less.
      holdings.parted.roots k ∙ full k (omega (arith, less, holdings.parted.sound.sixteen))))

module _ (old new : List ℕ) (pool pool' : Resources) (places places' : Places) (plan : Plan)
    (k clock : ℕ) (holdings : Holdings old pool places) (least : IsLeast places k)
    (accepted : Accepted plan.regions) (after : pool' ≡ pool_after plan.regions pool)
    (sound : IsSound pool') (held : IsHeld new (held_of (admitted pool plan k clock)))
    (same : SameOutside old new k (table_frames plan.regions (admitted pool plan k clock).frames))
    (there : places' ≡ set places k (Some (admitted pool plan k clock))) where
  admit_is : IsStep old new pool pool' k None (Some (admitted pool plan k clock))
  admit_is =
      subst (λ (p : Resources). IsStep old new pool p k None (Some (admitted pool plan k clock)))
      (sym after)
      (admit_step old new pool (record (new_guest plan k) { birth = clock }) k least.inside
      holdings.parted.sound.sixteen (key_is_root old pool places holdings k least)
      (subst IsSound after sound) refl accepted held same)

  pub admit_hosted : Holdings new pool' places'
  admit_hosted =
      subst (Holdings new pool') (sym there)
      (holdings_step old new pool pool' places k None (Some (admitted pool plan k clock))
      least.inside least.free holdings admit_is)

  pub admit_others : OthersStay k old new places places'
  admit_others =
      subst (OthersStay k old new places) (sym there)
      (others_stay old new pool pool' places k None (Some (admitted pool plan k clock))
      least.inside least.free holdings admit_is)

-- what can be had has a free key
pub some_key : (bytes : List ℕ) (h : Host) → IsHosted h bytes → (n : ℕ) (ranges : List Span)
    → tested h.pool n ranges ≡ Ok (tt {0})
    → ((k : ℕ) → k < 16 → is_some (guest_at h.guests k) ≡ true) → ⊥
some_key bytes h hosted n ranges had full =
    clash (all_out h.pool.roots) (all_are_out bytes h.pool h.guests hosted full)
    (tested_parts h.pool n ranges had).0
  where
    clash : (b : Bool) → b ≡ true → b ≡ false → ⊥
    clash true is is_not = cc
    clash false is is_not = cc

pub admit_may : (bytes : List ℕ) (h : Host) (area : Span) (regions : List Region) (key : ℕ)
    → IsHosted h bytes → area ≡ h.pool.area → IsTrue (are_sound regions)
    → first_fault area regions ≡ None
    → tested h.pool (need regions) (reserved_ranges regions) ≡ Ok (tt {0}) → IsLeast h.guests key
    → MayTake bytes h.pool regions
admit_may bytes h area regions key hosted is sound faultless had least =
    let root = key_is_root bytes h.pool h.guests hosted key least in
    may_take bytes h.pool h.guests hosted regions
    (record { area = area; sound = sound; faultless = faultless })
    (subst (λ (a : Span). All (λ range. LiesIn range a) (reserved_ranges regions)) is
    (ranges_inside area regions faultless)) had
    (tested_parts h.pool (need regions) (reserved_ranges regions) had).1
    (omega (arith, root, least.inside)) (ap (guest_at h.guests) root ∙ least.free)

-- what an admit comes to, by what it did one after another
pub admit_end : (old new : List ℕ) (h : Host) (pool' : Resources) (places' : Places) (plan : Plan)
    (k clock : ℕ) → IsHosted h old → IsLeast h.guests k → Accepted plan.regions
    → (made taken put : Guest) → made ≡ new_guest plan k
    → pool' ≡ pool_after made.plan.regions h.pool → IsSound pool' → taken ≡ taken_guest h.pool made
    → IsHeld new (held_of taken)
    → SameOutside old new (held_of taken).root (table_frames taken.plan.regions taken.frames)
    → put ≡ record taken { state = Reset; birth = clock }
    → places' ≡ set h.guests k (Some put)
    → Holdings new pool' places' × OthersStay k old new h.guests places'
admit_end old new h pool' places' plan k clock hosted least accepted made taken put made_is pool_is
    sound taken_is held same put_is there =
    let regions = ap (λ (g : Guest). g.plan.regions) made_is in
    let after = pool_is ∙ ap (λ (rs : List Region). pool_after rs h.pool) regions in
    let took : taken ≡ taken_guest h.pool (new_guest plan k) =
    taken_is ∙ ap (taken_guest h.pool) made_is in
    let holds_now : IsHeld new (held_of (admitted h.pool plan k clock)) =
    subst (λ (g : Guest). IsHeld new (held_of g)) took held in
    let outside : SameOutside old new (least_root h.pool.roots)
    (table_frames plan.regions (admitted h.pool plan k clock).frames) =
    subst (λ (g : Guest). SameOutside old new (held_of g).root
    (table_frames g.plan.regions g.frames)) took same in
    let root = key_is_root old h.pool h.guests hosted k least in
    let at_root = subst (λ (r : ℕ). SameOutside old new r
    (table_frames plan.regions (admitted h.pool plan k clock).frames)) root outside in
    let put_now : put ≡ admitted h.pool plan k clock =
    put_is ∙ ap (λ (g : Guest). record g { state = Reset; birth = clock }) took in
    let there_now = there ∙ ap (λ (g : Guest). set h.guests k (Some g)) put_now in (
      admit_hosted old new h.pool pool' h.guests places' plan k clock hosted least accepted after
          sound holds_now at_root there_now,
      admit_others old new h.pool pool' h.guests places' plan k clock hosted least accepted after
          sound holds_now at_root there_now,
    )
