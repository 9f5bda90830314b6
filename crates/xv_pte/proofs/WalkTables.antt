-- The tables that the walk of a page reads are tables of its root.
use Rattle.std.proofs.Common.{◌≡◌, ℕ, ◌+◌, ◌*◌, ◌/◌, ◌%◌, ◌^◌, ◌<◌, ◌≤◌, List, length, arith}
use Rattle.xv_pte.specs.declared.g_entry.GEntry.TheVariants.{Pointer}
use Rattle.xv_pte.specs.GStage.{entry_in, root_slot, middle_slot, IsTableOf, Middle, Last}
use Rattle.xv_pte.specs.GStage.{HasTables}

module _ (bytes : List ℕ) (root page : ℕ) (low : page < 2 ^ 29) where
  pub middle_is_table : (table : ℕ) → entry_in bytes (root_slot root page) ≡ Pointer table
      → IsTableOf bytes root table
  middle_is_table table e = Middle (page / 2 ^ 18) table (omega arith) e

  pub last_is_table : (middle table : ℕ) → entry_in bytes (root_slot root page) ≡ Pointer middle
      → entry_in bytes (middle_slot middle page) ≡ Pointer table → IsTableOf bytes root table
  last_is_table middle table e f =
      Last (page / 2 ^ 18) middle (page / 2 ^ 9 % 512) table (omega arith) e (omega arith) f

  pub middle_inside : HasTables bytes root → (table : ℕ)
      → entry_in bytes (root_slot root page) ≡ Pointer table → 4096 * table + 4096 ≤ length bytes
  middle_inside has table e = has.tables_inside table (middle_is_table table e)

  pub last_inside : HasTables bytes root → (middle : ℕ)
      → entry_in bytes (root_slot root page) ≡ Pointer middle → (table : ℕ)
      → entry_in bytes (middle_slot middle page) ≡ Pointer table
      → 4096 * table + 4096 ≤ length bytes
  last_inside has middle e table f = has.tables_inside table (last_is_table middle table e f)

pub ruleset inside = (middle_inside, last_inside)
