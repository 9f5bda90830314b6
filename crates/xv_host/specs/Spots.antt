-- The place in a guest's memory of a byte of the host.
use Rattle.std.specs.Prelude.{ℕ, suc, ◌+◌, ◌*◌, ◌/◌, ◌%◌, ◌==◌, if◌then◌else◌, List, [], ◌∷◌}
use Rattle.std.specs.Prelude.{Option, Some, None, option_map}
use Rattle.xv_gstage.specs.Own.{region_frames}
use Rattle.xv_guest.specs.Held.{Held}
use Rattle.xv_lone.specs.Memory.{Place}

-- the first place of a frame in a list
unfoldable pub index_of : ℕ → List ℕ → Option ℕ
index_of frame [] = None
index_of frame (x ∷ xs) = if x == frame then Some 0 else option_map suc (index_of frame xs)

-- in the region, where its list has the frame, or where it is later
abbrev pub placed : (region host : ℕ) → Option ℕ → Place → Place
placed region host (Some index) later =
    record { region = region; offset = 4096 * index + host % 4096 }
placed region host None later = later

-- by the lists of frames of regions, the first of which has this number
unfoldable pub place_in : (region : ℕ) → List (List ℕ) → (host : ℕ) → Place
place_in region [] host = record { region = region; offset = 0 }
place_in region (frames ∷ lists) host =
    placed region host (index_of (host / 4096) frames) (place_in (suc region) lists host)

abbrev pub place_of : Held → ℕ → Place
place_of g host = place_in 0 (region_frames g.regions g.frames) host
