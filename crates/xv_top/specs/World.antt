-- The world: the clock, the scheduler's counts, and the lone machines of the live guests. It has no
-- host memory and no hart.
use Rattle.std.specs.Prelude.{ℕ, zero, suc, ◌+◌, ◌-◌, ◌%◌, ◌^◌, Bool, if◌then◌else◌, List, [], ◌∷◌}
use Rattle.std.specs.Prelude.{◌++◌, ◌==◌, not, ◌&&◌, ◌||◌, nat_lt, map, find, sum_by, length}
use Rattle.std.specs.Prelude.{replicate}
use Rattle.std.specs.Prelude.{get_or, slice_get, slice_set, Option, Some, None}
use Rattle.std.specs.List.{filter, flat_map, list_any, position_or_len}
use Rattle.std.specs.Str.{bytes_eq}
use Rattle.xv_base.specs.declared.keys.Span.{Span}
use Rattle.xv_pool.specs.FrameList.{up_from}
use Rattle.xv_region.specs.declared.plan.VcpuPlan.{VcpuPlan}
use Rattle.xv_region.specs.Need.{need}
use Rattle.xv_region.specs.Plan.{Plan}
use Rattle.xv_lone.specs.Machine.{Machine, guest_time}
use Rattle.xv_lone.specs.Ready as ready
use Rattle.xv_lone.specs.Turn.{steps}
use Rattle.xv_lone.specs.Journal.{Entry, Changed, Change, Turn, after_change}
use Rattle.xv_hart.specs.Machine.{area_of}
use Rattle.xv_top.specs.Layout.{pool_frames}

pub record LiveGuest : Type 0 where
  pub name : List ℕ
  -- the number of its root table
  pub root : ℕ
  pub plan : Plan
  pub machine : Machine
  -- the number of the last turn of each VCPU, 0 before it has had one; of as many as a guest may
  -- have
  pub last : List ℕ

-- pool is the number of frames that guests may take, area what is reserved of host memory, turns
-- the number of the turns so far; guests stand in order of creation
pub record World : Type 0 where
  pub pool : ℕ
  pub area : Span
  pub clock : ℕ
  pub tick : ℕ
  pub turns : ℕ
  pub guests : List LiveGuest

-- the world before the first command, where host memory has so many MiB and none is reserved
abbrev pub first_world : ℕ → World
first_world mib = record {
  pool = pool_frames mib;
  area = area_of mib 0;
  clock = 0;
  tick = 100;
  turns = 0;
  guests = [];
}

-- the frames that no guest has
abbrev pub free : World → ℕ
free w = w.pool - sum_by (λ g. need g.plan.regions) w.guests

-- no live guest has that root table
abbrev pub is_root_free : World → ℕ → Bool
is_root_free w root = not (list_any (λ g. g.root == root) w.guests)

-- the least number of a root table, of 0 to 15, that no live guest has
abbrev pub least_root : World → ℕ
least_root w = position_or_len (is_root_free w) (up_from 0 16)

-- the live guest of that name
abbrev pub guest_named : List ℕ → World → Option LiveGuest
guest_named name w = find (λ g. bytes_eq g.name name) w.guests

-- a guest after a change that its journal gets
abbrev pub changed_guest : List ℕ → Change → LiveGuest → LiveGuest
changed_guest name change g =
    if bytes_eq g.name name then record g { machine = after_change g.plan change g.machine } else g

-- the world after a change of one guest: no other guest changes
abbrev pub with_change : List ℕ → Change → World → World
with_change name change w = record w { guests = map (changed_guest name change) w.guests }

-- a guest at its create has had no turn
abbrev pub no_turns : List ℕ
no_turns = replicate 8 0

-- ---- whose turn it is

-- whether VCPU number vcpu may have a turn in this world
abbrev pub is_ready : World → LiveGuest → (vcpu : ℕ) → Bool
is_ready w g vcpu = ready.is_ready vcpu (guest_time w.clock g.machine) g.machine

-- a VCPU that is ready
pub record Candidate : Type 0 where
  pub guest : LiveGuest
  pub vcpu : ℕ

abbrev pub candidate : LiveGuest → (vcpu : ℕ) → Candidate
candidate g vcpu = record { guest = g; vcpu = vcpu }

-- those of a guest, by their numbers
abbrev pub candidates_of : World → LiveGuest → List Candidate
candidates_of w g =
    map (candidate g) (filter (is_ready w g) (up_from 0 (length g.plan.vcpus)))

abbrev pub priority_in : Option VcpuPlan → ℕ
priority_in None = 0
priority_in (Some p) = p.priority

abbrev pub priority_of : Candidate → ℕ
priority_of c = priority_in (slice_get c.guest.plan.vcpus c.vcpu)

abbrev pub last_of : Candidate → ℕ
last_of c = get_or c.guest.last c.vcpu 0

-- one goes before another by the greater priority, and else by the earlier last turn
abbrev pub goes_before : Candidate → Candidate → Bool
goes_before c d =
    nat_lt (priority_of d) (priority_of c)
    || (priority_of c == priority_of d && nat_lt (last_of c) (last_of d))

abbrev pub first_of_two : Option Candidate → Candidate → Candidate
first_of_two None c = c
first_of_two (Some b) c = if goes_before c b then c else b

-- of these, and of one that stands before them: that before which none goes. Of several it is the
-- first
unfoldable pub first_of : Option Candidate → List Candidate → Option Candidate
first_of best [] = best
first_of best (c ∷ cs) = first_of (Some (first_of_two best c)) cs

-- the guests stand in order of creation
abbrev pub pick : World → Option Candidate
pick w = first_of None (flat_map (candidates_of w) w.guests)

-- it is the last turn of a candidate's VCPU
abbrev pub noted : Candidate → (turn : ℕ) → LiveGuest → LiveGuest
noted c turn g =
    if bytes_eq g.name c.guest.name then record g { last = slice_set g.last c.vcpu turn } else g

abbrev pub with_turn : Candidate → (turn : ℕ) → World → World
with_turn c turn w = record w { guests = map (noted c turn) w.guests }

-- ---- turns

-- a turn went by
abbrev pub passed : World → World
passed w = record w { clock = (w.clock + w.tick) % 2 ^ 64; turns = w.turns + 1 }

-- the most turns that one script may have
abbrev pub most_turns : ℕ
most_turns = 1000000

-- an entry into the journal of the guest of a name
pub record GuestEntry : Type 0 where
  pub name : List ℕ
  pub entry : Entry

abbrev pub change_entry : List ℕ → Change → GuestEntry
change_entry name change = record { name = name; entry = Changed change }

-- a run of turns so far: the world, its idle turns, the lone steps that were made, and the entries
-- that journals got
pub record RunSoFar : Type 0 where
  pub world : World
  pub idle : ℕ
  pub work : ℕ
  pub entries : List GuestEntry

-- a VCPU's turn at the world's clock
abbrev pub turn_at : World → (vcpu : ℕ) → Change
turn_at w vcpu = Turn vcpu w.clock

-- the world after a VCPU's turn, whose number is one more than that of the last turn
abbrev pub turned : Candidate → World → World
turned c w =
    passed (with_turn c (w.turns + 1) (with_change c.guest.name (turn_at w c.vcpu) w))

-- one turn of the world: the picked VCPU's, or an idle one
abbrev pub one_turn : RunSoFar → Option Candidate → RunSoFar
one_turn r None = record r { world = passed r.world; idle = r.idle + 1 }
one_turn r (Some c) =
    let g = c.guest in
    record {
      world = turned c r.world;
      idle = r.idle;
      work = r.work + steps g.plan c.vcpu (guest_time r.world.clock g.machine) g.machine;
      entries = r.entries ++ change_entry g.name (turn_at r.world c.vcpu) ∷ [];
    }

-- so many turns more
unfoldable pub run_from : ℕ → RunSoFar → RunSoFar
run_from zero r = r
run_from (suc n) r = run_from n (one_turn r (pick r.world))

-- so many turns of the world
unfoldable pub run_of : ℕ → World → RunSoFar
run_of turns w = run_from turns (record { world = w; idle = 0; work = 0; entries = [] })
