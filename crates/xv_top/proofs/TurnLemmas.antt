-- Whose turn it is: of the one guest's VCPUs that are ready, the one that goes first.
use Rattle.std.proofs.Common.{◌≡◌, ℕ, suc, ◌+◌, ◌-◌, ◌<◌, ◌≤◌, Bool, true, false, cond, List}
use Rattle.std.proofs.Common.{[], ◌∷◌, map, set, Option, Some, None, option_map, refl}
use Rattle.std.proofs.Common.{sym, ap, ◌∙◌, append-nil, arith}
use Rattle.std.specs.List.{filter, flat_map}
use Rattle.std.specs.Str.{bytes_eq}
use Rattle.std.proofs.lemmas.Bool.{cond-true}
use Rattle.std.proofs.lemmas.Slice.Eq.{bytes_eq-Decides}
use Rattle.xv_pool.specs.FrameList.{up_from}
use Rattle.xv_guest.specs.Guest.{Guest}
use Rattle.xv_host.specs.Places.{guest_at}
use Rattle.xv_top.specs.declared.manager.Manager.{Manager}
use Rattle.xv_top.specs.declared.manager.Named.{Named}
use Rattle.xv_top.specs.Manager.{live_guest, live_at, guests_of, named, world_of}
use Rattle.xv_top.specs.World.{Candidate, LiveGuest, candidate, candidates_of, first_of}
use Rattle.xv_top.specs.World.{first_of_two, noted, pick, with_turn}

-- ---- a guest's VCPUs, one after another

module _ (ready : ℕ → Bool) (as_one : ℕ → Candidate) where
  -- from number i on, k of them
  abbrev pub from : (i k : ℕ) → List Candidate
  from i k = map as_one (filter ready (up_from i k))

  after_one : (best : Option Candidate) (i k : ℕ) (b : Bool) → ready i ≡ b
      → first_of best (from i (suc k))
      ≡ first_of (cond b (Some (first_of_two best (as_one i))) best) (from (suc i) k)
  unfolding first_of up_from
  after_one best i k true is =
      ap (λ (c : Bool). first_of best (map as_one
      (cond c (i ∷ filter ready (up_from (suc i) k)) (filter ready (up_from (suc i) k))))) is
  after_one best i k false is =
      ap (λ (c : Bool). first_of best (map as_one
      (cond c (i ∷ filter ready (up_from (suc i) k)) (filter ready (up_from (suc i) k))))) is

  -- one more of n is looked at
  pub looked_at : (best : Option Candidate) (i n : ℕ) (b : Bool) → i < n → ready i ≡ b
      → first_of best (from i (n - i))
      ≡ first_of (cond b (Some (first_of_two best (as_one i))) best) (from (i + 1) (n - (i + 1)))
  looked_at best i n b more is =
      let now : n - i ≡ suc (n - (i + 1)) = omega arith in
      let next : suc i ≡ i + 1 = omega arith in
      ap (λ (k : ℕ). first_of best (from i k)) now
      ∙ (after_one best i (n - (i + 1)) b is
      ∙ ap (λ (k : ℕ). first_of (cond b (Some (first_of_two best (as_one i))) best)
      (from k (n - (i + 1)))) next)

  -- all of them are
  pub all_looked_at : (best : Option Candidate) (i n : ℕ) → n ≤ i
      → first_of best (from i (n - i)) ≡ best
  unfolding first_of up_from
  all_looked_at best i n all =
      let none : n - i ≡ 0 = omega arith in
      ap (λ (k : ℕ). first_of best (from i k)) none

-- ---- the one guest's

module _ (m : Manager) (name : List ℕ) (key : ℕ) (there : m.guest ≡ Some (named name key))
    (g : Guest) (at : guest_at m.host.guests key ≡ Some g) (bytes : List ℕ) where
  abbrev live : LiveGuest
  live = live_guest name m.last g bytes

  only : guests_of m.guest m.last m.host.guests bytes ≡ live ∷ []
  only =
      ap (λ (o : Option Named). guests_of o m.last m.host.guests bytes) there
      ∙ ap (λ (o : Option Guest). live_at name m.last o bytes) at

  pub picks : (o : Option ℕ)
      → option_map (candidate live) o ≡ first_of None (candidates_of (world_of m bytes) live)
      → pick (world_of m bytes) ≡ option_map (candidate live) o
  picks o is =
      ap (λ (gs : List LiveGuest). first_of None
      (flat_map (candidates_of (world_of m bytes)) gs)) only
      ∙ (ap (first_of None) (append-nil (candidates_of (world_of m bytes) live)) ∙ sym is)

-- nobody has a turn where no guest lives
pub picks_none : (m : Manager) (bytes : List ℕ) → m.guest ≡ None → pick (world_of m bytes) ≡ None
unfolding first_of
picks_none m bytes none =
    ap (λ (o : Option Named). first_of None (flat_map (candidates_of (world_of m bytes))
    (guests_of o m.last m.host.guests bytes))) none

-- ---- the number of a turn

noted_at : (name last : List ℕ) (turn : ℕ) (c : Candidate) (o : Option Guest) (bytes : List ℕ)
    → c.guest.name ≡ name
    → live_at name (set last c.vcpu turn) o bytes ≡ map (noted c turn) (live_at name last o bytes)
noted_at name last turn c None bytes is = refl
noted_at name last turn c (Some g) bytes is =
    let old = live_guest name last g bytes in
    ap (λ (l : LiveGuest). l ∷ [])
    (sym (cond-true (bytes_eq name c.guest.name) (record old { last = set last c.vcpu turn }) old
    ((bytes_eq-Decides name c.guest.name).1 (sym is))))

-- it is the last one of its VCPU
pub turn_noted : (m : Manager) (name : List ℕ) (key turn : ℕ) (c : Candidate) (bytes : List ℕ)
    → m.guest ≡ Some (named name key) → c.guest.name ≡ name
    → world_of (record m { last = set m.last c.vcpu turn }) bytes
    ≡ with_turn c turn (world_of m bytes)
turn_noted m name key turn c bytes there is =
    let places = m.host.guests in
    let with_guests = λ (gs : List LiveGuest). record (world_of m bytes) { guests = gs } in
    ap (λ (o : Option Named). with_guests (guests_of o (set m.last c.vcpu turn) places bytes)) there
    ∙ (ap with_guests (noted_at name m.last turn c (guest_at places key) bytes is)
    ∙ sym (ap (λ (o : Option Named). with_guests (map (noted c turn)
    (guests_of o m.last places bytes))) there))
