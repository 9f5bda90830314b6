-- The own frame of each page of a guest: the frame of host memory that the page is led to. A guest
-- has a list of frames: first one for each page of its alloced regions, in the regions' order, and
-- then those of its tables. A page is 4,096 bytes of guest physical addresses, and goes by its
-- number.
use Rattle.std.specs.Prelude.{◌≡◌, ℕ, ◌+◌, ◌*◌, ◌/◌, ◌%◌, ◌^◌, ◌≤◌, Bool, true, ◌&&◌, List, [], ◌∷◌}
use Rattle.std.specs.Prelude.{◌++◌}
use Rattle.std.specs.Prelude.{take, drop, sum_by, slice_get, Option, Some, None}
use Rattle.std.specs.List.{list_any}
use Rattle.xv_pool.specs.FrameList.{up_from}
use Rattle.xv_pte.specs.declared.g_entry.Mapping.{Mapping}
use Rattle.xv_region.specs.declared.cell.Cell.{Cell}
use Rattle.xv_region.specs.declared.cell.Cell.TheVariants as cells
use Rattle.xv_region.specs.declared.plan.Kind.{Kind}
use Rattle.xv_region.specs.declared.plan.Kind.TheVariants.{Ram, Rom, Reserved, Alias, Device}
use Rattle.xv_region.specs.declared.plan.Region.{Region}
use Rattle.xv_region.specs.Cell.{bytes_at, cell, holds}
use Rattle.xv_region.specs.Need.{is_mapped, own_pages}
use Rattle.xv_region.specs.Rules.{page_size}

-- ---- pages

-- the bounds of memory are bounds of pages below 2^41
pub record IsWhole (r : Region) : Type 0 where
  pub start : is_mapped r.kind ≡ true → r.base % page_size ≡ 0
  pub len : is_mapped r.kind ≡ true → r.size % page_size ≡ 0
  pub end : r.base + r.size ≤ 2 ^ 41

abbrev pub pages : Region → ℕ
pages r = r.size / page_size

-- the page lies in the region, which is a real, a reserved or an alias one
abbrev pub maps_page : ℕ → Region → Bool
maps_page page r = is_mapped r.kind && holds (bytes_at (page_size * page) 1) r

unfoldable pub is_memory_page : List Region → ℕ → Bool
is_memory_page regions page = list_any (maps_page page) regions

-- ---- frames

-- how many frames of the list are those of pages
abbrev pub pages_of : List Region → ℕ
pages_of regions = sum_by own_pages regions

abbrev pub page_frames : List Region → List ℕ → List ℕ
page_frames regions frames = take (pages_of regions) frames

abbrev pub table_frames : List Region → List ℕ → List ℕ
table_frames regions frames = drop (pages_of regions) frames

-- the frames of the host that a reserved region names
abbrev pub kind_reserved : Kind → ℕ → List ℕ
kind_reserved Ram n = []
kind_reserved Rom n = []
kind_reserved (Reserved host) n = up_from (host / page_size) n
kind_reserved (Alias target) n = []
kind_reserved (Device kind) n = []

unfoldable pub reserved_frames : List Region → List ℕ
reserved_frames [] = []
reserved_frames (r ∷ rs) = kind_reserved r.kind (pages r) ++ reserved_frames rs

-- the frames under the n pages of a region, of which an alloced one takes the first of the list
abbrev pub kind_frames : Kind → (n : ℕ) → List ℕ → List ℕ
kind_frames Ram n frames = take n frames
kind_frames Rom n frames = take n frames
kind_frames (Reserved host) n frames = up_from (host / page_size) n
kind_frames (Alias target) n frames = []
kind_frames (Device kind) n frames = []

-- the frames under each region, in the order of its pages
unfoldable pub region_frames : List Region → List ℕ → List (List ℕ)
region_frames [] frames = []
region_frames (r ∷ rs) frames =
    kind_frames r.kind (pages r) frames ∷ region_frames rs (drop (own_pages r) frames)

abbrev pub frame_at : Option (List ℕ) → ℕ → Option ℕ
frame_at None index = None
frame_at (Some frames) index = slice_get frames index

-- the frame under a page of region `region`, which is page `index` of it
unfoldable pub frame_of : List Region → List ℕ → (region index : ℕ) → Option ℕ
frame_of regions frames region index =
    frame_at (slice_get (region_frames regions frames) region) index

-- ---- the own frame of a page

abbrev pub mapping_of : Bool → Option ℕ → Option Mapping
mapping_of writable None = None
mapping_of writable (Some frame) = Some (record { frame = frame; writable = writable })

-- that of the memory cell which the page's first byte is; an alias is its target's
abbrev pub own_of : List Region → List ℕ → Cell → Option Mapping
own_of regions frames (cells.Memory region offset writable) =
    mapping_of writable (frame_of regions frames region (offset / page_size))
own_of regions frames (cells.Device region offset) = None
own_of regions frames cells.Nothing = None

unfoldable pub own : List Region → List ℕ → ℕ → Option Mapping
own regions frames page = own_of regions frames (cell regions (page_size * page) 1)
