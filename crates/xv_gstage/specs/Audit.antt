-- How many pages of a guest are led to their own frame with the right permission.
use Rattle.std.specs.Prelude.{ℕ, ◌+◌, ◌/◌, Bool, true, false, ◌&&◌, ◌==◌, if◌then◌else◌, List}
use Rattle.std.specs.Prelude.{sum_by, Option, Some, None}
use Rattle.xv_pte.specs.declared.g_entry.Mapping.{Mapping}
use Rattle.xv_pte.specs.GStage.{led}
use Rattle.xv_region.specs.declared.plan.Region.{Region}
use Rattle.xv_region.specs.Need.{count_below, is_mapped}
use Rattle.xv_region.specs.Rules.{page_size}
use Rattle.xv_gstage.specs.Own.{own, pages}

-- two permissions are one
abbrev pub same_permission : Bool → Bool → Bool
same_permission true true = true
same_permission true false = false
same_permission false true = false
same_permission false false = true

-- led somewhere, and there
abbrev pub is_led_to : Option Mapping → Option Mapping → Bool
is_led_to (Some own) (Some led) =
    own.frame == led.frame && same_permission own.writable led.writable
is_led_to (Some own) None = false
is_led_to None led = false

unfoldable pub is_right : List ℕ → ℕ → List Region → List ℕ → ℕ → Bool
is_right bytes root regions frames page =
    is_led_to (own regions frames page) (led bytes root page)

-- the pages of a real, a reserved or an alias region
abbrev pub mapped_pages : Region → ℕ
mapped_pages r = if is_mapped r.kind then pages r else 0

-- how many of n pages from the first on are led right
unfoldable pub right_from : List ℕ → ℕ → List Region → List ℕ → (first n : ℕ) → ℕ
right_from bytes root regions frames first n =
    count_below (λ i. is_right bytes root regions frames (first + i)) n

abbrev pub right_pages : List ℕ → ℕ → List Region → List ℕ → Region → ℕ
right_pages bytes root regions frames r =
    right_from bytes root regions frames (r.base / page_size) (mapped_pages r)

unfoldable pub audited : List ℕ → ℕ → List Region → List ℕ → ℕ
audited bytes root regions frames = sum_by (right_pages bytes root regions frames) regions
