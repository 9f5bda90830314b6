-- The birth of a guest where no other lives.
use Rattle.std.proofs.Common.{◌≡◌, ℕ, ◌-◌, ◌<◌, Bool, true, false, cond}
use Rattle.std.proofs.Common.{ltb, List, [], ◌∷◌, length, set, replicate, Option, Some}
use Rattle.std.proofs.Common.{None, Ok, Err, Result, refl, sym, ap, ◌∙◌, subst, arith}
use Rattle.std.proofs.lemmas.List.{get_or-set_same, length-map}
use Rattle.xv_hart.specs.declared.machine.Machine.{Machine}
use Rattle.xv_pool.specs.FrameList.{up_from}
use Rattle.xv_pool.specs.Resources.{tested}
use Rattle.xv_pool.specs.declared.fault.PoolFault.{PoolFault}
use Rattle.xv_pool.specs.declared.fault.PoolFault.TheVariants.{NoRoot, NoFrame, ReservedBusy}
use Rattle.xv_region.specs.Need.{need}
use Rattle.xv_region.specs.Plan.{Plan}
use Rattle.xv_lone.specs.Machine as lone
use Rattle.xv_guest.specs.Frames.{reserved_ranges}
use Rattle.xv_guest.specs.Guest.{Guest, held_of, lone_of, root_or_none}
use Rattle.xv_host.specs.Host as hosts
use Rattle.xv_host.specs.Host.{Host, IsHosted, IsRefusal}
use Rattle.xv_host.specs.declared.host.Admit.{Admit}
use Rattle.xv_host.specs.declared.host.Admit.TheVariants.{Pool}
use Rattle.xv_host.specs.Places.{Places, IsLeast, guest_at}
use Rattle.xv_top.specs.declared.manager.Manager.{Manager}
use Rattle.xv_top.specs.Answer.{says}
use Rattle.xv_top.specs.Births.{admitted, created}
use Rattle.xv_top.specs.declared.manager.Named.{Named}
use Rattle.xv_top.specs.Manager.{live_at, named, world_of, HasGuests, IsAlone, IsSound}
use Rattle.xv_top.specs.Texts.{frames_text}
use Rattle.xv_top.specs.World.{LiveGuest, World, least_root, no_turns}
use Rattle.xv_top.proofs.EmptyLemmas.{first_key, tested_empty}
use Rattle.xv_top.proofs.ManagerLemmas.{no_guest_of, same_none}

sub_zero : (n : ℕ) → n - 0 ≡ n
sub_zero n = omega arith

-- the answer where no other guest lives
pub admitted_alone : (m : Manager) (bytes name : List ℕ) (plan : Plan) → m.guest ≡ None
    → admitted (world_of m bytes) name plan ≡ cond (ltb m.host.pool.count (need plan.regions))
    (says (no_guest_of m) (frames_text (need plan.regions) m.host.pool.count))
    (created (no_guest_of m) name plan)
admitted_alone m bytes name plan none =
    ap (λ (w : World). admitted w name plan) (same_none m bytes none)
    ∙ ap (λ (f : ℕ). cond (ltb f (need plan.regions))
    (says (no_guest_of m) (frames_text (need plan.regions) f))
    (created (no_guest_of m) name plan)) (sub_zero m.host.pool.count)

-- what can be had, and what can't
enough_by : (few : Bool) (fault : PoolFault) → cond few (Err fault) (Ok (tt {0})) ≡ Ok (tt {0})
    → few ≡ false
enough_by true fault is = cc
enough_by false fault is = refl

few_by : (few : Bool) (one other : PoolFault) → cond few (Err one) (Ok (tt {0})) ≡ Err other
    → (few ≡ true) × (other ≡ one)
few_by true one other is = (refl, cc)
few_by false one other is = cc

abbrev is_frames : PoolFault → Bool
is_frames NoRoot = false
is_frames (NoFrame n free) = true
is_frames ReservedBusy = false

-- a refusal by the pool is the pool's
pub refused_by : (answer : Result (Unit {0}) PoolFault) (refusal : Admit) (fault : PoolFault)
    → refusal ≡ Pool fault → IsRefusal answer refusal → answer ≡ Err fault
refused_by answer refusal fault is said = subst (IsRefusal answer) is said

-- no other fault is a want of frames
pub no_frame : (n free : ℕ) (fault : PoolFault) → is_frames fault ≡ false
    → fault ≡ NoFrame n free → ⊥
no_frame n free NoRoot other is = cc
no_frame n free (NoFrame wanted had) other is = cc
no_frame n free ReservedBusy other is = cc

pub frames_same : (n free wanted had : ℕ) → NoFrame n free ≡ NoFrame wanted had
    → frames_text n free ≡ frames_text wanted had
frames_same n free wanted had is =
    let same : n ≡ wanted = cc in
    let left : free ≡ had = cc in
    ap (λ (x : ℕ). frames_text x free) same ∙ ap (frames_text wanted) left

module _ (m : Manager) (bytes : List ℕ) (plan : Plan) (hosted : IsHosted m.host bytes)
    (empty : m.host.guests ≡ replicate 16 None) where
  pub had_enough : tested m.host.pool (need plan.regions) (reserved_ranges plan.regions)
      ≡ Ok (tt {0}) → ltb m.host.pool.count (need plan.regions) ≡ false
  had_enough had =
      enough_by (ltb m.host.pool.count (need plan.regions))
      (NoFrame (need plan.regions) m.host.pool.count)
      (sym (tested_empty m.host bytes hosted empty (need plan.regions)
      (reserved_ranges plan.regions)) ∙ had)

  -- a refusal tells the frames that are wanting
  pub had_few : (fault : PoolFault)
      → tested m.host.pool (need plan.regions) (reserved_ranges plan.regions) ≡ Err fault
      → (ltb m.host.pool.count (need plan.regions) ≡ true)
      × (fault ≡ NoFrame (need plan.regions) m.host.pool.count)
  had_few fault had =
      few_by (ltb m.host.pool.count (need plan.regions))
      (NoFrame (need plan.regions) m.host.pool.count) fault
      (sym (tested_empty m.host bytes hosted empty (need plan.regions)
      (reserved_ranges plan.regions)) ∙ had)

first_root : (m : Manager) → least_root (no_guest_of m) ≡ 0
unfolding up_from
first_root m = refl

-- the manager after a birth
module _ (m : Manager) (host : Host) (name : List ℕ) (plan : Plan) (key : ℕ)
    (before after : List ℕ) (none : m.guest ≡ None) (empty : m.host.guests ≡ replicate 16 None)
    (old : IsHosted m.host before) (new : IsHosted host after) (least : IsLeast m.host.guests key)
    (area : host.pool.area ≡ m.host.pool.area)
    (guests : host.guests
    ≡ set m.host.guests key (Some (hosts.admitted m.host.pool plan key m.clock)))
    (born : lone_of (hosts.admitted m.host.pool plan key m.clock) after
    ≡ lone.new_machine plan m.clock) where
  abbrev guest : Guest
  guest = hosts.admitted m.host.pool plan key m.clock

  abbrev pub next : Manager
  next = record m { host = host; guest = Some (named name key); last = no_turns }

  there : guest_at host.guests key ≡ Some guest
  there =
      let inside : key < length m.host.guests = omega (
        arith,
        least.inside,
        old.parted.sixteen,
      ) in
      ap (λ (p : Places). guest_at p key) guests
      ∙ get_or-set_same m.host.guests key (Some guest) None inside

  root_is : (held_of guest).root ≡ 0
  root_is =
      ap root_or_none (new.parted.root key guest there)
      ∙ first_key m.host before old empty key least

  count_is : host.pool.count ≡ m.host.pool.count
  count_is = omega (
    arith,
    new.laid.next,
    old.laid.next,
    ap (λ s. s.start) area,
  )

  pub birth_world : world_of next after ≡ (created (no_guest_of m) name plan).world
  birth_world =
      let with_guest : ℕ → lone.Machine → LiveGuest =
      λ root machine. record {
        name = name;
        root = root;
        plan = plan;
        machine = machine;
        last = no_turns;
      } in
      let with_guests : List LiveGuest → World =
      λ gs. record (no_guest_of m) { guests = gs } in
      ap (λ (n : ℕ). record (world_of next after) { pool = n }) count_is
      ∙ (ap (λ a. record (world_of next after) { pool = m.host.pool.count; area = a }) area
      ∙ (ap (λ (o : Option Guest). with_guests (live_at name no_turns o after)) there
      ∙ (ap (λ (l : lone.Machine). with_guests (with_guest (held_of guest).root l ∷ [])) born
      ∙ ap (λ (r : ℕ). with_guests (with_guest r (lone.new_machine plan m.clock) ∷ []))
      (root_is ∙ sym (first_root m)))))

  pub birth_alone : IsAlone host.guests key
  birth_alone = record {
    inside = least.inside;
    guest = guest;
    only = guests ∙ ap (λ (p : Places). set p key (Some guest)) empty;
    views = length-map plan.vcpus _;
  }

  pub birth_sound : (machine old_machine : Machine) → machine.mem ≡ after
      → machine.area ≡ old_machine.area → IsSound m old_machine → IsSound next machine
  birth_sound machine old_machine same same_area sound = record {
    hosted = subst (IsHosted host) (sym same) new;
    area = same_area ∙ (sound.area ∙ sym area);
    turns = sound.turns;
    guests = birth_alone;
  }

-- no guest has a name, so none lives
pub no_named : (m : Manager) → m.guest ≡ None → HasGuests m.guest m.host.guests
    → m.host.guests ≡ replicate 16 None
no_named m none guests = subst (λ (o : Option Named). HasGuests o m.host.guests) none guests

-- a birth is entered into a journal
pub is_born : (m : Manager) (name : List ℕ) (plan : Plan)
    → (created (no_guest_of m) name plan).entries ≡ [] → ⊥
is_born m name plan none = cc
