-- The journal of each guest: what happened to it since its last create, and nothing of any other
-- guest.
use Rattle.std.specs.Prelude.{◌≡◌, if◌then◌else◌, List, [], ◌∷◌, ◌++◌, ℕ, Some}
use Rattle.std.specs.Str.{bytes_eq}
use Rattle.xv_lone.specs.Journal.{Entry, extended, replay}
use Rattle.xv_outside.specs.Fetch.{FileMap}
use Rattle.xv_script.specs.declared.command.Line.{Line}
use Rattle.xv_top.specs.World.{GuestEntry, LiveGuest, World}
use Rattle.xv_top.specs.Commands.{answer}

-- a guest's journal goes on with the entries of its name
abbrev pub journal_from : List ℕ → List Entry → List GuestEntry → List Entry
journal_from name journal [] = journal
journal_from name journal (e ∷ es) =
    journal_from name (if bytes_eq name e.name then extended journal e.entry else journal) es

-- the journal of the guest of that name, among the entries of all guests
unfoldable pub journal_of : List ℕ → List GuestEntry → List Entry
journal_of name es = journal_from name [] es

-- the entries that lines make, from a world on
unfoldable pub entries_by : FileMap → World → List Line → List GuestEntry
entries_by files w [] = []
entries_by files w (l ∷ ls) =
    (answer files w l.command).entries ++ entries_by files (answer files w l.command).world ls

-- each guest's machine is the replay of its own journal
abbrev pub AreReplayed : List GuestEntry → List LiveGuest → Type 0
AreReplayed es [] = Unit {0}
AreReplayed es (g ∷ gs) = (replay g.plan (journal_of g.name es) ≡ Some g.machine)
    × AreReplayed es gs
