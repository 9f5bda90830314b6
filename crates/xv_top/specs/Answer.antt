-- What a command answers, and the world that it leaves. A refused command leaves the world.
use Rattle.std.specs.Prelude.{ℕ, nat_lt, if◌then◌else◌, List, [], ◌∷◌, length, Option, Some, None}
use Rattle.std.specs.Prelude.{codes}
use Rattle.xv_lone.specs.Journal.{Change}
use Rattle.xv_lone.specs.Ready.{is_reset}
use Rattle.xv_top.specs.Texts.{refused_text}
use Rattle.xv_top.specs.World.{LiveGuest, World, GuestEntry, with_change, change_entry}

-- the text, the world after it, the entries that the journals of guests get, and the lone steps
-- that it makes
pub record Answer : Type 0 where
  pub text : List ℕ
  pub world : World
  pub entries : List GuestEntry
  pub work : ℕ

-- a text and a world alone
abbrev pub says : World → List ℕ → Answer
says w text = record { text = text; world = w; entries = []; work = 0 }

abbrev pub refused : World → List ℕ → Answer
refused w word = says w (refused_text word)

-- one guest changes
abbrev pub changes : World → List ℕ → Change → (text : List ℕ) → Answer
changes w name change text = record {
  text = text;
  world = with_change name change w;
  entries = change_entry name change ∷ [];
  work = 0;
}

-- what follows where the guest is there
abbrev pub where_there : World → (LiveGuest → Answer) → Option LiveGuest → Answer
where_there w next None = refused w (codes "guest")
where_there w next (Some g) = next g

-- what follows where the guest is there and in its reset state
abbrev pub if_reset : World → (LiveGuest → Answer) → LiveGuest → Answer
if_reset w next g = if is_reset g.machine.state then next g else refused w (codes "state")

abbrev pub where_reset : World → (LiveGuest → Answer) → Option LiveGuest → Answer
where_reset w next o = where_there w (if_reset w next) o

-- what follows on the bytes of a file, which must be there and within the limit
abbrev pub with_file : World → (limit : ℕ) → (List ℕ → Answer) → Option (List ℕ) → Answer
with_file w limit next None = refused w (codes "missing")
with_file w limit next (Some bytes) =
    if nat_lt limit (length bytes) then refused w (codes "big") else next bytes
