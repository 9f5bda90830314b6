-- Where the guests of a host hold what it says, the walks over their tables stand.
use Rattle.std.proofs.Common.{◌≡◌, ◌≢◌, ◌↔◌, ℕ, ◌/◌, ◌<◌, ◌≤◌, suc, List, []}
use Rattle.std.proofs.Common.{◌∷◌, get_or, Bool, Option, Some, None, refl, sym, ap, ◌∙◌, subst}
use Rattle.std.proofs.Common.{arith, inl, inr}
use Rattle.std.specs.Prelude.{slice_get}
use Rattle.std.proofs.lemmas.Bool.{cases_eq, cases_lt}
use Rattle.std.proofs.lemmas.List.Sums.{sum_by-cons}
use Rattle.xv_pool.specs.Resources.{Resources}
use Rattle.xv_pte.specs.declared.g_stage.Leaf.{Leaf}
use Rattle.xv_pte.specs.GStage.{IsTableOf, walked}
use Rattle.xv_region.specs.declared.cell.Cell.TheVariants as cells
use Rattle.xv_region.specs.Cell.{cell}
use Rattle.xv_region.specs.Rules.{Accepted}
use Rattle.xv_gstage.specs.Memory.{IsZero}
use Rattle.xv_gstage.specs.Own.{table_frames}
use Rattle.xv_gstage.specs.Stands.{Filled, IsOffGround, RightCell}
use Rattle.xv_guest.specs.Frames.{IsInside, hits, root_frames}
use Rattle.xv_guest.specs.Guest.{Guest, held_of, root_or_none}
use Rattle.xv_guest.specs.Held.{Held, IsHeld, holds}
use Rattle.xv_guest.proofs.HeldLemmas.{root-hits, root-place}
use Rattle.xv_host.specs.Holdings.{Holdings}
use Rattle.xv_host.specs.Places.{Places, amount_at, amount_of, guest_at}
use Rattle.xv_host.specs.Stands.{IsUnused, Seen, Shows, Stands, seen_of}
use Rattle.xv_host.proofs.AdmitLemmas.{free_root}
use Rattle.xv_host.proofs.HoldingLemmas.{apart, within}
use Rattle.xv_host.proofs.StandsLemmasGuest.{filled, held_zero, led_apart, one_cell}
use Rattle.xv_host.proofs.StandsLemmasGuest.{right_cell, same_byte, some_same}
use Rattle.xv_host.proofs.StandsLemmasGuest.{table_held, table_hits}

-- a place whose guest has some of an amount of which there is some
some_place : (amount : Held → ℕ) (places : Places) → 0 < amount_of amount places
    → (k : ℕ) × (g : Guest) × (guest_at places k ≡ Some g) × (0 < amount (held_of g))
some_place amount [] some = absurd (omega arith)
some_place amount (None ∷ places) some =
    let parts = sum_by-cons (amount_at amount) None places in
    let found = some_place amount places (omega arith) in
    (suc found.0, found.1, found.2, found.3)
some_place amount (Some g ∷ places) some =
    let parts = sum_by-cons (amount_at amount) (Some g) places in
    elim (cases_lt 0 (amount (held_of g))) [
      | inl here ↦ (0, g, refl, here)
      | inr none ↦
          (let found = some_place amount places (omega arith) in
          (suc found.0, found.1, found.2, found.3))
    ]

-- ---- two guests that hold no frame in common

module _ (g h : Held) (bytes : List ℕ) (accepted : Accepted g.regions) (held : IsHeld bytes g)
    (other : IsHeld bytes h)
    (no_frame : (frame : ℕ) → 0 < holds frame g → holds frame h ≡ 0) where
  others_ground : Accepted h.regions → IsOffGround bytes g.root h.root
  others_ground accepted_too = record {
    root_frames = λ frame is gpa leaf e same.
        let some = root-hits frame h.root is in
        let at = led_apart g bytes accepted held gpa leaf e in
        let held_here = subst (λ (f : ℕ). 0 < holds f g) same at.is_held in
        let none = no_frame frame held_here in
        omega arith;
    table_frames = λ table is gpa leaf e same.
        let some = table_held h bytes accepted_too other table is in
        let at = led_apart g bytes accepted held gpa leaf e in
        let held_here = subst (λ (f : ℕ). 0 < holds f g) same at.is_held in
        let none = no_frame table held_here in
        omega arith;
  }

own_ground : (g : Held) (bytes : List ℕ) → Accepted g.regions → IsHeld bytes g
    → IsOffGround bytes g.root g.root
own_ground g bytes accepted held = record {
  root_frames = λ frame is gpa leaf e same.
      let some = root-hits frame g.root is in
      let at = led_apart g bytes accepted held gpa leaf e in
      let none = subst (λ (f : ℕ). hits f (root_frames g.root) ≡ 0) same at.root in
      omega arith;
  table_frames = λ table is gpa leaf e same.
      let some = table_hits g bytes accepted held table is in
      let at = led_apart g bytes accepted held gpa leaf e in
      let none = subst (λ (f : ℕ). hits f (table_frames g.regions g.frames) ≡ 0) same at.tables in
      omega arith;
}

module _ (bytes : List ℕ) (pool : Resources) (places : Places)
    (holdings : Holdings bytes pool places) (world : List Seen)
    (shows : Shows bytes places world) where
  accepted_at : (k : ℕ) (g : Guest) → guest_at places k ≡ Some g → Accepted (held_of g).regions
  accepted_at k g is = holdings.parted.accepted k g is

  root_at : (k : ℕ) (g : Guest) → guest_at places k ≡ Some g → (held_of g).root ≡ k
  root_at k g is = ap root_or_none (holdings.parted.root k g is)

  apart_at : (j k : ℕ) (g h : Guest) → j ≢ k → guest_at places j ≡ Some g
      → guest_at places k ≡ Some h → (frame : ℕ) → 0 < holds frame (held_of g)
      → holds frame (held_of h) ≡ 0
  apart_at j k g h other one two frame some =
      let low : j < 16 = omega (arith, within places j g one, holdings.parted.sixteen) in
      let high : k < 16 = omega (arith, within places k h two, holdings.parted.sixteen) in
      let here = ap (amount_at (holds frame)) one in
      let there = ap (amount_at (holds frame)) two in
      let none = apart bytes pool places holdings.laid holdings.parted j k other low high frame
      (omega arith) in
      omega arith

  -- ---- one guest of the world

  module _ (i : ℕ) (s : Seen) (live : slice_get world i ≡ Some s) where
    guest : Guest
    guest = (shows.each i s live).0

    at : guest_at places s.root ≡ Some guest
    unfolding guest
    at = (shows.each i s live).1

    seen : s ≡ seen_of bytes guest
    unfolding guest
    seen = (shows.each i s live).2

    owned : IsHeld bytes (held_of guest)
    owned = holdings.owned s.root guest at

    accepted : Accepted (held_of guest).regions
    accepted = accepted_at s.root guest at

    root_is : s.root ≡ (held_of guest).root
    root_is = ap (λ (x : Seen). x.root) seen

    walked_there : (gpa : ℕ) (leaf : Leaf) → walked bytes s.root gpa ≡ Some leaf
        → walked bytes (held_of guest).root gpa ≡ Some leaf
    walked_there gpa leaf e = ap (λ (r : ℕ). walked bytes r gpa) (sym root_is) ∙ e

    right_at : RightCell bytes s.root s.regions
    right_at =
        subst (λ (x : Seen). RightCell bytes x.root x.regions) (sym seen)
        (right_cell (held_of guest) bytes accepted owned)

    filled_at : Filled bytes s.root s.regions
    filled_at =
        subst (λ (x : Seen). Filled bytes x.root x.regions) (sym seen)
        (filled (held_of guest) bytes accepted owned)

    byte_at : (a : ℕ) (l : Leaf) → walked bytes s.root a ≡ Some l
        → (region offset : ℕ) (writable : Bool)
        → cell s.regions a 1 ≡ cells.Memory region offset writable
        → get_or (get_or s.memory region []) offset 0 ≡ get_or bytes l.host 0
    byte_at a l =
        subst (λ (x : Seen). walked bytes x.root a ≡ Some l
        → (region offset : ℕ) (writable : Bool)
        → cell x.regions a 1 ≡ cells.Memory region offset writable
        → get_or (get_or x.memory region []) offset 0 ≡ get_or bytes l.host 0) (sym seen)
        (same_byte (held_of guest) bytes accepted owned a l)

    cells_at : (a b : ℕ) (l m : Leaf) → walked bytes s.root a ≡ Some l
        → walked bytes s.root b ≡ Some m
        → (l.host ≡ m.host) ↔ (cell s.regions a 1 ≡ cell s.regions b 1)
    cells_at a b l m =
        subst (λ (x : Seen). walked bytes x.root a ≡ Some l → walked bytes x.root b ≡ Some m
        → (l.host ≡ m.host) ↔ (cell x.regions a 1 ≡ cell x.regions b 1)) (sym seen)
        (one_cell (held_of guest) bytes accepted owned a b l m)

    led_held : (a : ℕ) (l : Leaf) → walked bytes s.root a ≡ Some l
        → 0 < holds (l.host / 4096) (held_of guest)
    led_held a l e =
        (led_apart (held_of guest) bytes accepted owned a l (walked_there a l e)).is_held

    table_there : (table : ℕ) → IsTableOf bytes s.root table → 0 < holds table (held_of guest)
    table_there table is =
        table_held (held_of guest) bytes accepted owned table
        (subst (λ (r : ℕ). IsTableOf bytes r table) root_is is)

    own_ground_at : IsOffGround bytes s.root s.root
    own_ground_at =
        subst (λ (r : ℕ). IsOffGround bytes r r) (sym root_is)
        (own_ground (held_of guest) bytes accepted owned)

  -- ---- two guests of the world

  module _ (i j : ℕ) (s t : Seen) (one : slice_get world i ≡ Some s)
      (two : slice_get world j ≡ Some t) where
    seen_same : i ≡ j → s ≡ t
    seen_same same = some_same (sym one ∙ ap (λ (k : ℕ). slice_get world k) same ∙ two)

    no_frame : s.root ≢ t.root → (frame : ℕ) → 0 < holds frame (held_of (guest i s one))
        → holds frame (held_of (guest j t two)) ≡ 0
    no_frame other =
        apart_at s.root t.root (guest i s one) (guest j t two) other (at i s one) (at j t two)

    ground_at : IsOffGround bytes s.root t.root
    ground_at = elim (cases_eq s.root t.root) [
      | inl same ↦ subst (λ (r : ℕ). IsOffGround bytes s.root r) same (own_ground_at i s one)
      | inr other ↦
          subst (λ (r : ℕ). IsOffGround bytes r t.root) (sym (root_is i s one))
          (subst (λ (r : ℕ). IsOffGround bytes (held_of (guest i s one)).root r)
          (sym (root_is j t two))
          (others_ground (held_of (guest i s one)) (held_of (guest j t two)) bytes
          (accepted i s one) (owned i s one) (owned j t two) (no_frame other)
          (accepted j t two)))
    ]

    tables_at : (table : ℕ) → IsTableOf bytes s.root table → IsTableOf bytes t.root table → i ≡ j
    tables_at table is is_too = elim (cases_eq s.root t.root) [
      | inl same ↦ shows.once i j s t one two same
      | inr other ↦
          (let some = table_there i s one table is in
          let none = no_frame other table some in
          let some_too = table_there j t two table is_too in
          absurd (omega arith))
    ]

    module _ (a b : ℕ) (l m : Leaf) (led : walked bytes s.root a ≡ Some l)
        (led_too : walked bytes t.root b ≡ Some m) where
      same_guest : i ≡ j → (l.host ≡ m.host) ↔ (cell s.regions a 1 ≡ cell t.regions b 1)
      same_guest same =
          subst (λ (x : Seen). walked bytes x.root b ≡ Some m
          → (l.host ≡ m.host) ↔ (cell s.regions a 1 ≡ cell x.regions b 1)) (seen_same same)
          (λ e. cells_at i s one a b l m led e) led_too

      host_at : l.host ≡ m.host → i ≡ j
      host_at hosts = elim (cases_eq s.root t.root) [
        | inl same ↦ shows.once i j s t one two same
        | inr other ↦
            (let some = led_held i s one a l led in
            let none = no_frame other (l.host / 4096) some in
            let some_too = led_held j t two b m led_too in
            let there : 0 < holds (l.host / 4096) (held_of (guest j t two)) =
            subst (λ (host : ℕ). 0 < holds (host / 4096) (held_of (guest j t two))) (sym hosts)
            some_too in
            absurd (omega arith))
      ]

      place_at : (l.host ≡ m.host) ↔ ((i ≡ j) × (cell s.regions a 1 ≡ cell t.regions b 1))
      place_at = (
        λ hosts. (host_at hosts, (same_guest (host_at hosts)).0 hosts),
        λ same. (same_guest same.0).1 same.1,
      )

  -- ---- what no guest of the world has

  free_at : (root : ℕ)
      → ((i : ℕ) (s : Seen) → slice_get world i ≡ Some s → s.root ≢ root)
      → guest_at places root ≡ None
  free_at root none = by (guest_at places root) refl
    where
      by : (place : Option Guest) → guest_at places root ≡ place → guest_at places root ≡ None
      by None is = is
      by (Some g) is =
          let shown = shows.all root g is in
          absurd (none shown.0 (seen_of bytes g) shown.1 (root_at root g is))

  unused_zero : (frame : ℕ) → 64 ≤ frame → IsInside bytes frame → IsUnused bytes world frame
      → IsZero bytes frame
  unused_zero frame past inside unused =
      elim (cases_lt 0 (amount_of (holds frame) places)) [
        | inr nobody ↦ holdings.clean frame inside (omega arith)
        | inl some ↦
            (let found = some_place (holds frame) places some in
            let k = found.0 in
            let g = found.1 in
            let there = found.2 in
            let shown = shows.all k g there in
            held_zero (held_of g) bytes (accepted_at k g there) (holdings.owned k g there) frame
            found.3 (off_root k g there)
            (unused.no_table shown.0 (seen_of bytes g) shown.1)
            (unused.unled shown.0 (seen_of bytes g) shown.1))
      ]
    where
      off_root : (k : ℕ) (g : Guest) → guest_at places k ≡ Some g
          → hits frame (root_frames (held_of g).root) ≡ 0
      off_root k g is = elim (cases_lt 0 (hits frame (root_frames (held_of g).root))) [
        | inl some ↦
            (let place = root-place frame (held_of g).root some in
            let root = root_at k g is in
            let low = within places k g is in
            absurd (omega (arith, holdings.parted.sixteen)))
        | inr none ↦ omega arith
      ]

  pub world_stands : Stands bytes world
  world_stands = record {
    right_cell = right_at;
    one_place = λ i j a b s t l m one two.
        place_at i j s t one.live two.live a b l m one.led two.led;
    same_bytes = λ i a s l is. byte_at i s is.live a l is.led;
    own_ground = ground_at;
    own_tables = λ i j table s t one two. tables_at i j s t one two table;
    filled = filled_at;
    clean_roots = λ root low none.
        free_root bytes pool places holdings root low (free_at root none);
    clean = unused_zero;
  }
