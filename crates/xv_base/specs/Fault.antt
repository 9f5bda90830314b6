-- Counts of faults, kept by an object of the outside in a u64 that stands still at its greatest
-- value.
use Rattle.std.specs.Prelude.{ℕ, ◌+◌, ◌-◌, ◌^◌, ◌≤◌, min}

-- a count that rose from old to new; at its greatest value it stands, and a rise can't be told from
-- none
abbrev pub Rose : ℕ → ℕ → Type 0
Rose old new = min (old + 1) (2 ^ 64 - 1) ≤ new
