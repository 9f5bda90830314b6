-- The blocks of guest physical addresses that an entry stands for, by their depth: 2,048 of 1 GiB,
-- each of which is 512 of 2 MiB, each of which is 512 pages (Privileged Architecture 20211203,
-- 8.5.1: Sv39x4).
use Rattle.std.specs.Prelude.{◌≡◌, ℕ, zero, suc, ◌+◌, ◌-◌, ◌*◌, ◌/◌, ◌%◌, ◌^◌, ◌<◌, true, List}
use Rattle.std.specs.List.{list_any}
use Rattle.xv_pte.specs.declared.g_entry.GEntry.{GEntry}
use Rattle.xv_pte.specs.declared.g_entry.GEntry.TheVariants.{Pointer, Page, Nothing}
use Rattle.xv_pte.specs.GStage.{entry_in}
use Rattle.xv_region.specs.declared.plan.Region.{Region}
use Rattle.xv_region.specs.Need.{touches}

unfoldable pub block_count : ℕ → ℕ
block_count zero = 2048
block_count (suc depth) = 512 * block_count depth

-- in bytes: 2^30, 2^21 and 2^12
abbrev pub block_size : ℕ → ℕ
block_size depth = 2 ^ (30 - 9 * depth)

-- entry i of the table that an entry names
abbrev pub entry_below : List ℕ → GEntry → ℕ → GEntry
entry_below bytes (Pointer table) i = entry_in bytes (512 * table + i)
entry_below bytes (Page mapping) i = Nothing
entry_below bytes Nothing i = Nothing

-- the entry for a block: in the root, or in the table of the block that it is a 512th of
unfoldable pub entry_for : List ℕ → (root depth index : ℕ) → GEntry
entry_for bytes root zero index = entry_in bytes (2048 * root + index)
entry_for bytes root (suc depth) index =
    entry_below bytes (entry_for bytes root depth (index / 512)) (index % 512)

-- a block that has a table where it has memory: of 1 GiB or of 2 MiB
pub record IsBlock (depth index : ℕ) : Type 0 where
  pub above : depth < 2
  pub below : index < block_count depth

-- a real, a reserved or an alias region has memory in the block
abbrev pub IsTouched : List Region → (depth index : ℕ) → Type 0
IsTouched regions depth index = list_any (touches (block_size depth) index) regions ≡ true

-- a pointer to the table stands at the block
pub record HangsAt (bytes : List ℕ) (root table depth index : ℕ) : Type 0 where
  pub block : IsBlock depth index
  pub pointer : entry_for bytes root depth index ≡ Pointer table
