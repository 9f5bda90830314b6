-- A memory that a test builds word by word.
use Rattle.std.specs.Prelude.{ℕ, ◌≡◌, ◌+◌, ◌*◌, ◌^◌, ◌≤◌, List, length}
use Rattle.xv_pte.specs.declared.g_entry.GEntry.{GEntry}
use Rattle.xv_pte.specs.declared.g_entry.GEntry.TheVariants.{Pointer, Page, Nothing}
use Rattle.xv_pte.specs.declared.g_entry.Mapping.{Mapping}
use Rattle.xv_pte.specs.GStage.{entry_in}
use Rattle.xv_pte.specs.Targets.{HasTargets}

-- an entry that names frames of a memory of so many bytes, or none: a leaf 512 of them
abbrev pub NamesInside : ℕ → GEntry → Type 0
NamesInside size (Pointer table) = 4096 * table + 4096 ≤ size
NamesInside size (Page mapping) = 4096 * mapping.frame + 2 ^ 21 ≤ size
NamesInside size Nothing = Unit {0}

-- each pointer and each leaf, wherever it stands, names frames of the memory, a leaf 512 of them.
-- So every root that lies in the memory has all that it leads to there
pub record IsClosed (bytes : List ℕ) : Type 0 where
  pub targets : HasTargets bytes
  pub pages : (slot : ℕ) (mapping : Mapping) → entry_in bytes slot ≡ Page mapping
      → 4096 * mapping.frame + 2 ^ 21 ≤ length bytes
