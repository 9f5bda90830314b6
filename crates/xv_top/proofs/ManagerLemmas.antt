-- How what the manager does is an answer, and which lines may stop.
use Rattle.std.proofs.Common.{◌≡◌, ℕ, ◌≤◌, Bool, true, false, leb, List, [], ◌∷◌}
use Rattle.std.proofs.Common.{length, Option, Some, None, refl, sym, ap, ◌∙◌, subst, arith}
use Rattle.std.proofs.Common.{Result, Ok, Err, OnErr, ◌&&◌, ◌++◌, IsTrue, IfSome}
use Rattle.std.proofs.lemmas.Bool.Decides.{nat_tests}
use Rattle.xv_base.specs.Name.{is_guest_name, is_word}
use Rattle.xv_hart.specs.declared.machine.Machine.{Machine}
use Rattle.xv_hart.specs.Hart.{taken_by}
use Rattle.xv_lone.specs.Journal.{Change}
use Rattle.xv_host.specs.Host.{Host}
use Rattle.xv_script.specs.declared.command.Command.{Command}
use Rattle.xv_script.specs.declared.command.Command.TheVariants.{Create, Flat, Load}
use Rattle.xv_top.specs.declared.stop.LineStop.{LineStop}
use Rattle.xv_top.specs.declared.stop.LineStop.TheVariants.{FileFault, NoMemory}
use Rattle.xv_top.specs.declared.manager.Manager.{Manager}
use Rattle.xv_top.specs.declared.manager.Named.{Named}
use Rattle.xv_top.specs.Answer.{Answer, says, changes}
use Rattle.xv_top.specs.Commands.{is_fetching, is_loadable, may_want_memory}
use Rattle.xv_top.specs.Manager.{world_of, guests_of, may_stop, Gives}
use Rattle.xv_top.specs.World.{Candidate, World, RunSoFar, with_change, guest_named, one_turn}

pub none_some : {A : Type 0} {x : A} (o : Option A) → o ≡ Some x → o ≡ None → ⊥
none_some None there none = cc
none_some (Some y) there none = cc

-- what a clause says of the value that is there
pub some_at : {X : Type 0} (P : X → Type 0) (o : Option X) (x : X) → o ≡ Some x → IfSome o P → P x
some_at P None x is said = cc
some_at P (Some y) x is said = let same : y ≡ x = cc in subst P same said

name_at_most : (a : Bool) (n : ℕ) → (a && leb n 31) ≡ true → n ≤ 40
name_at_most true n h = grind (arith, nat_tests)
name_at_most false n h = cc

-- a guest's name, as its printer takes it
pub name_short : (name text : List ℕ) → text ≡ name → IsTrue (is_guest_name name)
    → length text ≤ 40
unfolding is_guest_name
name_short name text same is =
    subst (λ (t : List ℕ). length t ≤ 40) (sym same) (name_at_most (is_word name) (length name) is)

-- ---- answers

module _ (a : Answer) {m next : Manager} {old new : Machine} {printed : List ℕ} where
  pub gives_by : (b : Answer) → a ≡ b → Gives b m next old new printed
      → Gives a m next old new printed
  gives_by b e h = record {
    text = h.text ∙ ap (λ (x : Answer). x.text) (sym e);
    world = h.world ∙ ap (λ (x : Answer). x.world) (sym e);
    work = omega (arith, h.work, ap (λ (x : Answer). x.work) e);
    memory = λ none. h.memory (sym (ap (λ (x : Answer). x.entries) e) ∙ none);
    host = λ none. h.host (sym (ap (λ (x : Answer). x.entries) e) ∙ none);
  }

  -- the text of an answer was printed
  pub gives_printed : (text : List ℕ) → printed ≡ text → Gives a m next old new text
      → Gives a m next old new printed
  gives_printed text prints h = record {
    text = prints ∙ h.text;
    world = h.world;
    work = h.work;
    memory = h.memory;
    host = h.host;
  }

-- a text is printed, and no guest changes
pub gives_says : (m next : Manager) (machine : Machine) (w : World) (printed text : List ℕ)
    → printed ≡ text → world_of next machine.mem ≡ w → next.host ≡ m.host
    → Gives (says w text) m next machine machine printed
gives_says m next machine w printed text prints world host = record {
  text = prints;
  world = world;
  work = let n = taken_by machine.hart in omega arith;
  memory = λ none. refl;
  host = λ none. host;
}

-- a text is printed, and nothing else happens
pub gives_text : (a : Answer) (m : Manager) (machine : Machine) (printed text : List ℕ)
    → a ≡ says (world_of m machine.mem) text → printed ≡ text → Gives a m m machine machine printed
gives_text a m machine printed text is prints =
    gives_by a (says (world_of m machine.mem) text) is
    (gives_says m m machine (world_of m machine.mem) printed text prints refl refl)

-- a call of the host changed nothing
pub gives_same : (a : Answer) (m : Manager) (host : Host) (machine next : Machine)
    (printed : List ℕ) → host ≡ m.host → next ≡ machine → Gives a m m machine machine printed
    → Gives a m (record m { host = host }) machine next printed
gives_same a m host machine next printed same still gives =
    subst (λ (x : Machine). Gives a m (record m { host = host }) machine x printed) (sym still)
    (subst (λ (h : Host). Gives a m (record m { host = h }) machine machine printed) (sym same)
    gives)

-- a change is entered into a journal
changes_all : (w : World) (name : List ℕ) (change : Change) (text : List ℕ)
    → (changes w name change text).entries ≡ [] → ⊥
changes_all w name change text none = cc

-- a guest changes
pub gives_change : (m next : Manager) (old new : Machine) (name : List ℕ) (change : Change)
    (printed text : List ℕ) → printed ≡ text
    → world_of next new.mem ≡ with_change name change (world_of m old.mem)
    → taken_by new.hart ≡ taken_by old.hart
    → Gives (changes (world_of m old.mem) name change text) m next old new printed
gives_change m next old new name change printed text prints world taken = record {
  text = prints;
  world = world;
  work = omega (arith, taken);
  memory = λ none. absurd (changes_all (world_of m old.mem) name change text none);
  host = λ none. absurd (changes_all (world_of m old.mem) name change text none);
}

-- ---- a world with no guest

abbrev pub no_guest_of : Manager → World
no_guest_of m = record {
  pool = m.host.pool.count;
  area = m.host.pool.area;
  clock = m.clock;
  tick = m.tick;
  turns = m.turns;
  guests = [];
}

pub same_none : (m : Manager) (bytes : List ℕ) → m.guest ≡ None
    → world_of m bytes ≡ no_guest_of m
same_none m bytes none =
    ap (λ (o : Option Named). record (no_guest_of m) {
      guests = guests_of o m.last m.host.guests
          bytes;
    })
    none

-- ---- lines that may stop

pub alone_fetches : (m : Manager) (bytes name file : List ℕ) → m.guest ≡ None
    → is_fetching (world_of m bytes) (Create name file) ≡ true
unfolding is_fetching
alone_fetches m bytes name file none =
    ap (λ (w : World). is_fetching w (Create name file)) (same_none m bytes none)

pub alone_wants : (m : Manager) (bytes name : List ℕ) (pages : ℕ) → m.guest ≡ None
    → may_want_memory (world_of m bytes) (Flat name pages) ≡ true
unfolding may_want_memory
alone_wants m bytes name pages none =
    ap (λ (w : World). may_want_memory w (Flat name pages)) (same_none m bytes none)

pub load_fetches : (w : World) (name : List ℕ) (gpa : ℕ) (file : List ℕ)
    → is_loadable (guest_named name w) ≡ true → is_fetching w (Load name gpa file) ≡ true
unfolding is_fetching
load_fetches w name gpa file loadable = loadable

-- what is said of an error that is there
said_at : {T E P : Type 0} (r : Result T E) (e : E) → r ≡ Err e → OnErr r P → P
said_at (Ok x) e is said = cc
said_at (Err f) e is said = said

-- a line with a file stops in one way or the other only where it fetches
create_either : (w : World) (name file : List ℕ) (stop : LineStop)
    → is_fetching w (Create name file) ≡ true → may_stop stop w (Create name file) ≡ true
unfolding may_want_memory
create_either w name file FileFault fetching = fetching
create_either w name file NoMemory fetching = fetching

load_either : (w : World) (name : List ℕ) (gpa : ℕ) (file : List ℕ) (stop : LineStop)
    → is_fetching w (Load name gpa file) ≡ true → may_stop stop w (Load name gpa file) ≡ true
unfolding may_want_memory
load_either w name gpa file FileFault fetching = fetching
load_either w name gpa file NoMemory fetching = fetching

module _ (w : World) (c : Command) where
  pub create_stops : (name file : List ℕ) → c ≡ Create name file
      → (r : Result (Unit {0}) LineStop) (stop : LineStop) → r ≡ Err stop
      → OnErr r (is_fetching w (Create name file) ≡ true) → may_stop stop w c ≡ true
  create_stops name file is r stop stops said =
      ap (may_stop stop w) is ∙ create_either w name file stop (said_at r stop stops said)

  pub load_stops : (name : List ℕ) (gpa : ℕ) (file : List ℕ) → c ≡ Load name gpa file
      → (r : Result (Unit {0}) LineStop) (stop : LineStop) → r ≡ Err stop
      → OnErr r (is_fetching w (Load name gpa file) ≡ true) → may_stop stop w c ≡ true
  load_stops name gpa file is r stop stops said =
      ap (may_stop stop w) is ∙ load_either w name gpa file stop (said_at r stop stops said)

  pub flat_stops : (name : List ℕ) (pages : ℕ) → c ≡ Flat name pages
      → (r : Result (Unit {0}) LineStop) (stop : LineStop) → r ≡ Err stop
      → (r ≡ Err FileFault → ⊥) → OnErr r (may_want_memory w (Flat name pages) ≡ true)
      → may_stop stop w c ≡ true
  flat_stops name pages is r FileFault stops no_file said = absurd (no_file stops)
  flat_stops name pages is r NoMemory stops no_file said =
      ap (may_want_memory w) is ∙ said_at r NoMemory stops said

-- ---- turns

nonempty : {X : Type 0} (xs : List X) (x : X) → (xs ++ x ∷ []) ≡ [] → ⊥
nonempty [] x h = cc
nonempty (y ∷ ys) x h = cc

-- a turn of a guest enters something into a journal
pub busy_kept : (r : RunSoFar) (o : Option Candidate) (c : Candidate) (same : Type 0)
    → o ≡ Some c → (one_turn r o).entries ≡ [] → (r.entries ≡ []) × same
busy_kept r None c same some h = cc
busy_kept r (Some other) c same some h = absurd (nonempty r.entries _ h)
