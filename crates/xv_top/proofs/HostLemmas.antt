-- The host's guests, as the manager's world: the one that has a name, what a change does to it, and
-- what its tables lead to.
use Rattle.std.proofs.Common.{◌≡◌, ◌≢◌, ℕ, zero, suc, ◌<◌, ◌≤◌, true, List, [], ◌∷◌, length}
use Rattle.std.proofs.Common.{set, replicate, get_or, slice_get, map, Option, Some, None, is_some}
use Rattle.std.proofs.Common.{false, ltb, IfSome, option_map, refl, sym, ap, ◌∙◌, subst, arith}
use Rattle.std.proofs.Common.{inl, inr, ◌⊎◌}
use Rattle.std.specs.Str.{bytes_eq}
use Rattle.std.proofs.lemmas.Bool.{cond-true, cases_lt}
use Rattle.std.proofs.lemmas.List.{get_or-set_same, get_or-set_other, get_or-replicate, set-set}
use Rattle.std.proofs.lemmas.List.{length-replicate, length-set, get_or_past}
use Rattle.std.proofs.lemmas.Slice.Eq.{bytes_eq-Decides}
use Rattle.xv_hart.specs.declared.machine.Machine.{Machine}
use Rattle.xv_lone.specs.Machine as lone
use Rattle.xv_lone.specs.Journal.{Change, after_change}
use Rattle.xv_guest.specs.Guest.{Guest, held_of, lone_of, with_machine, root_or_none}
use Rattle.xv_host.specs.Change.{HasBecome, changed}
use Rattle.xv_host.specs.Host.{Host, IsHosted}
use Rattle.xv_host.specs.Places.{Places, guest_at}
use Rattle.xv_host.specs.Stands.{Seen, Shows, seen_of}
use Rattle.xv_top.specs.declared.manager.Manager.{Manager}
use Rattle.xv_top.specs.declared.manager.Named.{Named}
use Rattle.xv_top.specs.Boot.{seen_of_live}
use Rattle.xv_top.specs.Manager.{live_guest, live_at, guests_of, named, world_of, IsAlone}
use Rattle.xv_top.specs.Manager.{HasGuests}
use Rattle.xv_top.specs.Manager.{IsSound, live_of}
use Rattle.xv_top.specs.World.{LiveGuest, changed_guest, with_change, most_turns}
use Rattle.xv_top.proofs.VcpuLemmas.{change_full}

cases_eq : (j k : ℕ) → (j ≡ k) ⊎ (j ≢ k)
cases_eq j k = elim (cases_lt j k) [
  | inl less ↦ inr (λ is. omega arith)
  | inr most ↦ elim (cases_lt k j) [
    | inl less ↦ inr (λ is. omega arith)
    | inr least ↦ inl (omega arith)
  ]
]

-- the places of a host without guests
abbrev pub no_guests : Places
no_guests = replicate 16 None

sixteen : length no_guests ≡ 16
sixteen = length-replicate {A = Option Guest} 16 None

-- no place of it has a guest
pub no_guest : (k : ℕ) → guest_at no_guests k ≡ None
no_guest k = elim (cases_lt k 16) [
  | inl inside ↦ get_or-replicate 16 k None None inside
  | inr past ↦
      get_or_past no_guests k None (omega (arith, past, sixteen))
]

-- ---- the guest that lives alone

module _ (places : Places) (key : ℕ) (alone : IsAlone places key) where
  pub guest_there : guest_at places key ≡ Some alone.guest
  guest_there =
      let inside : key < length no_guests = omega (arith, alone.inside, sixteen) in
      ap (λ (p : Places). get_or p key None) alone.only
      ∙ get_or-set_same no_guests key (Some alone.guest) None inside

  none_besides : (k : ℕ) → k ≢ key → guest_at places k ≡ None
  none_besides k other =
      ap (λ (p : Places). get_or p k None) alone.only
      ∙ (get_or-set_other no_guests key k (Some alone.guest) None other
      ∙ no_guest k)

  pub alone_live : is_some (guest_at places key) ≡ true
  alone_live = ap is_some guest_there

  only_there : (k : ℕ) (g : Guest) → guest_at places k ≡ Some g → k ≡ key
  only_there k g at = elim (cases_eq k key) [
    | inl same ↦ same
    | inr other ↦ absurd (let none = none_besides k other in cc)
  ]

  -- another guest at its place
  pub alone_next : (g : Guest) → length g.vcpus ≡ length g.plan.vcpus
      → IsAlone (set places key (Some g)) key
  alone_next g views = record {
    inside = alone.inside;
    guest = g;
    only = ap (λ (p : Places). set p key (Some g)) alone.only
        ∙ set-set no_guests key (Some alone.guest) (Some g);
    views = views;
  }

pub alone_named : (o : Option Named) (places : Places) (name : List ℕ) (key : ℕ)
    → HasGuests o places → o ≡ Some (named name key) → IsAlone places key
alone_named o places name key guests there =
    subst (λ (x : Option Named). HasGuests x places) there guests

-- what is found under a name
pub live_some : (m : Manager) (name : List ℕ) (o : Option ℕ) (bytes : List ℕ)
    → HasGuests m.guest m.host.guests → IfSome o (λ key. m.guest ≡ Some (named name key))
    → is_some o ≡ true → is_some (live_of name m.last o m.host.guests bytes) ≡ true
live_some m name None bytes guests there is = cc
live_some m name (Some key) bytes guests there is =
    ap (λ (g : Option Guest). is_some (option_map (λ x. live_guest name m.last x bytes) g))
    (guest_there m.host.guests key (alone_named m.guest m.host.guests name key guests there))

pub live_none : (name last : List ℕ) (o : Option ℕ) (places : Places) (bytes : List ℕ)
    → is_some o ≡ false → is_some (live_of name last o places bytes) ≡ false
live_none name last None places bytes is = refl
live_none name last (Some key) places bytes is = cc

pub some_guests : (o : Option Named) (last : List ℕ) (places : Places) (bytes : List ℕ)
    → HasGuests o places → is_some o ≡ true
    → ltb 0 (length (guests_of o last places bytes)) ≡ true
some_guests None last places bytes guests is = cc
some_guests (Some one) last places bytes alone is =
    ap (λ (g : Option Guest). ltb 0 (length (live_at one.name last g bytes)))
    (guest_there places one.key alone)

-- ---- a change of the guest of a name

module _ (m : Manager) (host : Host) (name : List ℕ) (key : ℕ)
    (there : m.guest ≡ Some (named name key)) (alone : IsAlone m.host.guests key) (change : Change)
    (bytes now : List ℕ) (g : Guest) (at : guest_at m.host.guests key ≡ Some g)
    (become : HasBecome (changed change g bytes) key g m.host host now) where
  abbrev after : Guest
  after = with_machine g (changed change g bytes)

  abbrev after_places : Places
  after_places = set m.host.guests key (Some after)

  abbrev before_live : LiveGuest
  before_live = live_guest name m.last g bytes

  abbrev after_live : LiveGuest
  after_live = record before_live { machine = after_change g.plan change (lone_of g bytes) }

  inside : key < length m.host.guests
  inside = omega (
    arith,
    alone.inside,
    ap length alone.only,
    length-set no_guests key (Some alone.guest),
    sixteen,
  )

  listed_before : guests_of m.guest m.last m.host.guests bytes ≡ before_live ∷ []
  listed_before =
      ap (λ (o : Option Named). guests_of o m.last m.host.guests bytes) there
      ∙ ap (λ (o : Option Guest). live_at name m.last o bytes) at

  listed_after : guests_of m.guest m.last after_places now ≡ after_live ∷ []
  listed_after =
      ap (λ (o : Option Named). guests_of o m.last after_places now) there
      ∙ (ap (λ (o : Option Guest). live_at name m.last o now)
      (get_or-set_same m.host.guests key (Some after) None inside)
      ∙ ap (λ (l : lone.Machine). record before_live { machine = l } ∷ []) become.machine)

  changed_list : map (changed_guest name change) (before_live ∷ []) ≡ after_live ∷ []
  changed_list = ap (λ (l : LiveGuest). l ∷ [])
      (cond-true (bytes_eq name name) after_live before_live ((bytes_eq-Decides name name).1 refl))

  guests_change : guests_of m.guest m.last after_places now
      ≡ map (changed_guest name change) (guests_of m.guest m.last m.host.guests bytes)
  guests_change =
      listed_after
      ∙ (sym changed_list ∙ sym (ap (map (changed_guest name change)) listed_before))

  -- the world after it
  pub change_world : world_of (record m { host = host }) now
      ≡ with_change name change (world_of m bytes)
  change_world =
      ap (λ (h : Host). world_of (record m { host = h }) now) become.host
      ∙ ap (λ (gs : List LiveGuest). record (world_of m bytes) { guests = gs }) guests_change

  alone_after : IsAlone after_places key
  alone_after =
      let mine : alone.guest ≡ g = let is = guest_there m.host.guests key alone in cc in
      let full = subst (λ (x : Guest). length x.vcpus ≡ length x.plan.vcpus) mine alone.views in
      alone_next m.host.guests key alone after
      (change_full g.plan change (lone_of g bytes) full)

  -- the guest of the name lives on, and no other
  pub change_guests : HasGuests m.guest host.guests
  change_guests =
      subst (λ (o : Option Named). HasGuests o host.guests) (sym there)
      (subst (λ (p : Places). IsAlone p key) (sym (ap (λ (h : Host). h.guests) become.host))
      alone_after)

  pub change_area : host.pool.area ≡ m.host.pool.area
  change_area = ap (λ (h : Host). h.pool.area) become.host

-- what is kept of a manager by a change of its guest
pub change_sound : (m : Manager) (host : Host) (name : List ℕ) (key : ℕ) (change : Change)
    (machine next : Machine) (g : Guest) → m.guest ≡ Some (named name key)
    → guest_at m.host.guests key ≡ Some g
    → HasBecome (changed change g machine.mem) key g m.host host next.mem
    → next.area ≡ machine.area → IsHosted host next.mem → IsSound m machine
    → IsSound (record m { host = host }) next
change_sound m host name key change machine next g there at become area hosted sound =
    let alone = alone_named m.guest m.host.guests name key sound.guests there in
    record {
      hosted = hosted;
      area = area ∙ (sound.area ∙ sym (change_area m host name key there alone change machine.mem
          next.mem g at become));
      turns = sound.turns;
      guests = change_guests m host name key there alone change machine.mem next.mem g at become;
    }

-- time goes by
pub passed_sound : (m next : Manager) (machine : Machine) → next.guest ≡ m.guest
    → next.host ≡ m.host → next.turns ≤ most_turns → IsSound m machine → IsSound next machine
passed_sound m next machine guest host turns sound = record {
  hosted = subst (λ (h : Host). IsHosted h machine.mem) (sym host) sound.hosted;
  area = sound.area ∙ sym (ap (λ (h : Host). h.pool.area) host);
  turns = turns;
  guests = subst (λ (h : Host). HasGuests next.guest h.guests) (sym host)
      (subst (λ (o : Option Named). HasGuests o m.host.guests) (sym guest) sound.guests);
}

-- ---- what the tables lead to

module _ (places : Places) (bytes : List ℕ)
    (root : (k : ℕ) (g : Guest) → guest_at places k ≡ Some g → g.root ≡ Some k) where
  -- the place of a guest is the number of its root
  root_place : (k : ℕ) (g : Guest) → guest_at places k ≡ Some g → (held_of g).root ≡ k
  root_place k g at = ap root_or_none (root k g at)

  shows_one : (key : ℕ) → (alone : IsAlone places key)
      → Shows bytes places (seen_of bytes alone.guest ∷ [])
  shows_one key alone =
      let at = guest_there places key alone in
      record {
        each = λ i s live. each_one key alone.guest at i s live;
        all = λ k g there. all_one key alone.guest at k g there
            (only_there places key alone k g there);
        once = λ i j s t first second _. once_one (seen_of bytes alone.guest) i j s t first second;
      }
    where
      each_one : (key : ℕ) (g : Guest) → guest_at places key ≡ Some g → (i : ℕ) (s : Seen)
          → slice_get (seen_of bytes g ∷ []) i ≡ Some s
          → (g : Guest) × (guest_at places s.root ≡ Some g) × (s ≡ seen_of bytes g)
      each_one key g at zero s live =
          let same : s ≡ seen_of bytes g = cc in
          let place : s.root ≡ key = ap (λ (x : Seen). x.root) same ∙ root_place key g at in
          (g, ap (λ (k : ℕ). guest_at places k) place ∙ at, same)
      each_one key g at (suc i) s live = absurd cc

      all_one : (key : ℕ) (g : Guest) → guest_at places key ≡ Some g → (k : ℕ) (other : Guest)
          → guest_at places k ≡ Some other → k ≡ key
          → (i : ℕ) × (slice_get (seen_of bytes g ∷ []) i ≡ Some (seen_of bytes other))
      all_one key g at k other there same =
          let here : guest_at places key ≡ Some other =
          ap (λ (x : ℕ). guest_at places x) (sym same) ∙ there in
          let one : g ≡ other = cc in
          (0, ap (λ (x : Guest). Some (seen_of bytes x)) one)

      once_one : (x : Seen) (i j : ℕ) (s t : Seen) → slice_get (x ∷ []) i ≡ Some s
          → slice_get (x ∷ []) j ≡ Some t → i ≡ j
      once_one x zero zero s t first second = refl
      once_one x zero (suc j) s t first second = absurd cc
      once_one x (suc i) j s t first second = absurd cc

  shows_none : ((k : ℕ) → guest_at places k ≡ None) → Shows bytes places []
  shows_none none = record {
    each = λ i s live. absurd (nothing i s live);
    all = λ k g there. absurd (let no = none k in cc);
    once = λ i j s t first second _. absurd (nothing i s first);
  }
    where
      nothing : (i : ℕ) (s : Seen) → slice_get [] i ≡ Some s → ⊥
      nothing i s live = cc

  pub shows_world : (o : Option Named) (last : List ℕ) → HasGuests o places
      → Shows bytes places (map seen_of_live (guests_of o last places bytes))
  shows_world None last empty =
      shows_none (λ k. ap (λ (p : Places). guest_at p k) empty ∙ no_guest k)
  shows_world (Some one) last alone =
      subst (λ (o : Option Guest). Shows bytes places
      (map seen_of_live (live_at one.name last o bytes)))
      (sym (guest_there places one.key alone)) (shows_one one.key alone)
