-- The memory of a guest, as a device reaches it.
use Rattle.std.specs.Prelude.{ℕ, ◌+◌, Bool, Option, Some, None, if◌then◌else◌, List, [], ◌++◌}
use Rattle.std.specs.Prelude.{length, take, drop, option_and_then, slice_get, slice_set, unwrap_or}
use Rattle.std.specs.Option.{option_map}

-- where the bytes of a range lie: a memory region by its number, and their offset in it
pub record Place : Type 0 where
  pub region : ℕ
  pub offset : ℕ
  pub writable : Bool

-- `find gpa len` is where the len bytes from gpa on lie, if they lie in one memory region; `cells`
-- has the bytes of each region by its number
pub record Flat : Type 0 where
  pub find : ℕ → ℕ → Option Place
  pub cells : List (List ℕ)

abbrev pub with_cells : Flat → List (List ℕ) → Flat
with_cells flat cells = record flat { cells = cells }

-- the bytes of a region, none where there is no such region
abbrev pub region_bytes : Flat → ℕ → List ℕ
region_bytes flat region = unwrap_or (slice_get flat.cells region) []

-- the bytes with a piece put over those from the offset on
abbrev pub overwritten : List ℕ → ℕ → List ℕ → List ℕ
overwritten bytes offset piece = take offset bytes ++ piece ++ drop (offset + length piece) bytes

-- what a load of a range gives, none where it is answered false
unfoldable pub bytes_at : Flat → ℕ → ℕ → Option (List ℕ)
bytes_at flat gpa len =
    option_map (λ place. take len (drop place.offset (region_bytes flat place.region)))
    (flat.find gpa len)

-- the bytes of the regions after a piece is put at a place, unless it may not be written
abbrev pub stored_at : Flat → List ℕ → Place → Option (List (List ℕ))
stored_at flat piece place =
    if place.writable
    then Some (slice_set flat.cells place.region
    (overwritten (region_bytes flat place.region) place.offset piece))
    else None

-- the bytes of the regions after a store, none where it is answered false
unfoldable pub stored : Flat → ℕ → List ℕ → Option (List (List ℕ))
stored flat gpa piece = option_and_then (stored_at flat piece) (flat.find gpa (length piece))

-- the memory after a store, or as it was where the store is answered false
abbrev pub after_store : Flat → ℕ → List ℕ → Flat
after_store flat gpa piece = with_cells flat (unwrap_or (stored flat gpa piece) flat.cells)
