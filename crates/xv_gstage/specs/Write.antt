-- One entry written into host memory, and one table looked for.
use Rattle.std.specs.Prelude.{◌≡◌, ◌≢◌, ℕ, ◌+◌, ◌/◌, List, length, get_or}
use Rattle.xv_pte.specs.declared.g_entry.GEntry.TheVariants.{Pointer}
use Rattle.xv_pte.specs.GStage.{entry_in, led, pointer_word, word_in}
use Rattle.xv_region.specs.declared.plan.Region.{Region}
use Rattle.xv_gstage.specs.declared.tables.Found.{Found}
use Rattle.xv_gstage.specs.Blocks.{entry_for}
use Rattle.xv_gstage.specs.Memory.{SameOutside}
use Rattle.xv_gstage.specs.Own.{table_frames}
use Rattle.xv_gstage.specs.Tidy.{Tidy}

-- the word in a slot is this one now, every other slot is as before, and so is every byte of
-- another frame
pub record Wrote (old new : List ℕ) (slot value : ℕ) : Type 0 where
  pub whole : length new ≡ length old
  pub here : word_in new slot ≡ value
  pub words : (other : ℕ) → other ≢ slot → word_in new other ≡ word_in old other
  pub bytes : (i : ℕ) → i / 4096 ≢ slot / 512 → get_or new i 0 ≡ get_or old i 0

abbrev pub IsNoPointer : List ℕ → ℕ → Type 0
IsNoPointer bytes slot = (table : ℕ) → entry_in bytes slot ≢ Pointer table

-- a pointer stands in the slot, or one to the next table of the list is written there
pub data IsFound (old new : List ℕ) (slot : ℕ) (tables : List ℕ) (used : ℕ) (found : Found)
    : Type 0 where
  Stood : entry_in old slot ≡ Pointer found.table → new ≡ old → found.used ≡ used
      → IsFound old new slot tables used found
  Hung : IsNoPointer old slot → found.table ≡ get_or tables used 0 → found.used ≡ used + 1
      → Wrote old new slot (pointer_word found.table) → IsFound old new slot tables used found

-- the block has this table, and nothing is led elsewhere than before
pub record IsHung (old new : List ℕ) (root : ℕ) (regions : List Region) (frames : List ℕ)
    (depth index : ℕ) (found : Found) : Type 0 where
  pub tidy : Tidy new root regions frames found.used
  pub pointer : entry_for new root depth index ≡ Pointer found.table
  pub walks : (page : ℕ) → led new root page ≡ led old root page
  pub outside : SameOutside old new root (table_frames regions frames)
