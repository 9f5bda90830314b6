-- What the manager in the program is: a world, over a host and its memory.
use Rattle.std.specs.Prelude.{ℕ, ◌≡◌, ◌+◌, ◌<◌, ◌≤◌, List, [], ◌∷◌, length, replicate, slice_set}
use Rattle.std.specs.Prelude.{Bool, if◌then◌else◌, Option, Some, None, option_map}
use Rattle.xv_hart.specs.declared.machine.Machine.{Machine}
use Rattle.xv_hart.specs.Hart.{taken_by}
use Rattle.xv_guest.specs.Guest.{Guest, held_of, lone_of}
use Rattle.xv_host.specs.Host.{IsHosted}
use Rattle.xv_host.specs.Places.{Places, guest_at}
use Rattle.xv_top.specs.declared.manager.Manager.{Manager}
use Rattle.xv_top.specs.declared.manager.Named.{Named}
use Rattle.xv_top.specs.declared.stop.LineStop.{LineStop}
use Rattle.xv_top.specs.declared.stop.LineStop.TheVariants as stops
use Rattle.xv_top.specs.World.{LiveGuest, World, GuestEntry, RunSoFar, most_turns, candidate}
use Rattle.xv_top.specs.World.{one_turn, pick}
use Rattle.xv_top.specs.Answer.{Answer}
use Rattle.xv_top.specs.Commands.{is_fetching, may_want_memory}
use Rattle.xv_script.specs.declared.command.Command.{Command}

-- a guest of the host, as the world has it under a name
abbrev pub live_guest : (name last : List ℕ) → Guest → List ℕ → LiveGuest
live_guest name last g bytes = record {
  name = name;
  root = (held_of g).root;
  plan = g.plan;
  machine = lone_of g bytes;
  last = last;
}

-- the guest that lives at a place, if one does
abbrev pub live_at : (name last : List ℕ) → Option Guest → List ℕ → List LiveGuest
live_at name last None bytes = []
live_at name last (Some g) bytes = live_guest name last g bytes ∷ []

abbrev pub guests_of : Option Named → (last : List ℕ) → Places → List ℕ → List LiveGuest
guests_of None last places bytes = []
guests_of (Some named) last places bytes =
    live_at named.name last (guest_at places named.key) bytes

-- the world that the manager keeps, over these host bytes
abbrev pub world_of : Manager → List ℕ → World
world_of m bytes = record {
  pool = m.host.pool.count;
  area = m.host.pool.area;
  clock = m.clock;
  tick = m.tick;
  turns = m.turns;
  guests = guests_of m.guest m.last m.host.guests bytes;
}

abbrev pub named : List ℕ → ℕ → Named
named name key = record { name = name; key = key }

-- the world's live guest of a name, by its key
abbrev pub live_of : (name last : List ℕ) → Option ℕ → Places → List ℕ → Option LiveGuest
live_of name last None places bytes = None
live_of name last (Some key) places bytes =
    option_map (λ g. live_guest name last g bytes) (guest_at places key)

-- ---- what stands between two lines

-- the guest of a key lives, and no other guest
pub record IsAlone (places : Places) (key : ℕ) : Type 0 where
  pub inside : key < 16
  pub guest : Guest
  pub only : places ≡ slice_set (replicate 16 None) key (Some guest)
  pub views : length guest.vcpus ≡ length guest.plan.vcpus

-- the guests of the host are the one that has a name
abbrev pub HasGuests : Option Named → Places → Type 0
HasGuests None places = places ≡ replicate 16 None
HasGuests (Some named) places = IsAlone places named.key

pub record IsSound (m : Manager) (machine : Machine) : Type 0 where
  pub hosted : IsHosted m.host machine.mem
  pub area : machine.area ≡ m.host.pool.area
  pub turns : m.turns ≤ most_turns
  pub guests : HasGuests m.guest m.host.guests

-- ---- a line

-- what the manager did is an answer: this text and this world, and its lone steps among those that
-- the hart took. Host memory and the host are as before where no journal got an entry, as none does
-- of a command that is refused
pub record Gives (a : Answer) (m_old m_new : Manager) (machine_old machine_new : Machine)
    (printed : List ℕ) : Type 0 where
  pub text : printed ≡ a.text
  pub world : world_of m_new machine_new.mem ≡ a.world
  pub work : taken_by machine_old.hart + a.work ≤ taken_by machine_new.hart
  pub memory : a.entries ≡ [] → machine_new.mem ≡ machine_old.mem
  pub host : a.entries ≡ [] → m_new.host ≡ m_old.host

-- a line that stopped did nothing, and nothing is printed
pub record HasStopped (m_old m_new : Manager) (machine_old machine_new : Machine)
    (text : List ℕ) : Type 0 where
  pub manager : m_new ≡ m_old
  pub memory : machine_new.mem ≡ machine_old.mem
  pub taken : taken_by machine_new.hart ≡ taken_by machine_old.hart
  pub printed : text ≡ []

-- where a line may stop so
abbrev pub may_stop : LineStop → World → Command → Bool
may_stop stops.FileFault = is_fetching
may_stop stops.NoMemory = may_want_memory

-- ---- a run

-- the turns that a turn adds to the idle ones
abbrev pub idle_of : Bool → ℕ
idle_of idle = if idle then 1 else 0

-- a run that has come to this world
abbrev pub going : World → ℕ → ℕ → List GuestEntry → RunSoFar
going w idle work entries = record { world = w; idle = idle; work = work; entries = entries }

-- this VCPU of the guest of this key has the next turn, whatever host memory holds
pub record IsPicked (m : Manager) (key vcpu : ℕ) : Type 0 where
  pub name : List ℕ
  pub guest : m.guest ≡ Some (named name key)
  pub picked : (bytes : List ℕ) → pick (world_of m bytes) ≡ option_map
      (λ g. candidate (live_guest name m.last g bytes) vcpu) (guest_at m.host.guests key)

-- the turn that a run makes after so many idle turns and lone steps, by what the manager says of it
pub record IsTurn (before after : World) (is_idle : Bool) (taken idled worked : ℕ)
    (earlier : List GuestEntry) : Type 0 where
  pub world : (one_turn (going before idled worked earlier) (pick before)).world ≡ after
  pub idle : (one_turn (going before idled worked earlier) (pick before)).idle
      ≡ idled + idle_of is_idle
  pub work : (one_turn (going before idled worked earlier) (pick before)).work ≤ worked + taken

-- what the manager says of a whole run: the world, its idle turns, and that the hart took at least
-- its lone steps
pub record IsRunEnd (run : RunSoFar) (after : World) (idled taken_old taken_new : ℕ) : Type 0 where
  pub world : run.world ≡ after
  pub idle : run.idle ≡ idled
  pub work : taken_old + run.work ≤ taken_new
