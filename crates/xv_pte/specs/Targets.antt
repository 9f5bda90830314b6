-- A memory that a test builds entry by entry.
use Rattle.std.specs.Prelude.{◌≡◌, ℕ, ◌+◌, ◌*◌, ◌≤◌, List, length}
use Rattle.xv_pte.specs.declared.g_entry.GEntry.TheVariants.{Pointer}
use Rattle.xv_pte.specs.GStage.{entry_in}

-- each pointer, wherever it stands, names a frame of the memory. So the tables of every root that
-- lies in the memory lie there too
pub record HasTargets (bytes : List ℕ) : Type 0 where
  pub target : (slot table : ℕ) → entry_in bytes slot ≡ Pointer table
      → 4096 * table + 4096 ≤ length bytes
