-- Which regions may stand together in a guest. What a region by itself must keep comes first; then
-- the regions are judged one after another, each against the earlier ones and by its own kind.
use Rattle.std.specs.Prelude.{◌≡◌, ℕ, ◌≤◌, suc, ◌+◌, ◌%◌, ◌^◌, ◌==◌, Bool, true, false, ◌&&◌, not}
use Rattle.std.specs.Prelude.{nat_le, nat_lt}
use Rattle.std.specs.Prelude.{List, [], ◌∷◌, length, take, Option, Some, None, IsTrue}
use Rattle.std.specs.List.{list_all, list_any, position}
use Rattle.xv_base.specs.declared.keys.Span.{Span}
use Rattle.xv_base.specs.Range.{lies_in, meets}
use Rattle.xv_region.specs.declared.fault.RegionFault.{RegionFault}
use Rattle.xv_region.specs.declared.fault.RegionFault.TheVariants.{Overlap, BadAlias, BadHost}
use Rattle.xv_region.specs.declared.fault.RegionFault.TheVariants.{NoMemory}
use Rattle.xv_region.specs.declared.plan.DeviceKind.{DeviceKind}
use Rattle.xv_region.specs.declared.plan.DeviceKind.TheVariants.{Uart, Plic, Finisher}
use Rattle.xv_region.specs.declared.plan.Kind.{Kind}
use Rattle.xv_region.specs.declared.plan.Kind.TheVariants.{Ram, Rom, Reserved, Alias, Device}
use Rattle.xv_region.specs.declared.plan.Region.{Region}
use Rattle.xv_region.specs.Cell.{bytes_at, span_of, holds}

-- ---- one region by itself

-- the size of a page, in bytes
abbrev pub page_size : ℕ
page_size = 4096

-- guest physical addresses have 41 bits (Privileged Architecture 20211203, 8.5.1: Sv39x4)
abbrev pub address_end : ℕ
address_end = 2 ^ 41

-- what bounds of a region are multiples of
abbrev pub unit_of : Kind → ℕ
unit_of Ram = page_size
unit_of Rom = page_size
unit_of (Reserved host) = page_size
unit_of (Alias target) = page_size
unit_of (Device kind) = 8

-- a shift of at most 2, and a source of the PLIC or none
abbrev pub is_sound_device : DeviceKind → Bool
is_sound_device (Uart shift irq) = nat_le shift 2 && nat_le irq 63
is_sound_device Plic = true
is_sound_device Finisher = true

abbrev pub is_sound_kind : Kind → Bool
is_sound_kind Ram = true
is_sound_kind Rom = true
is_sound_kind (Reserved host) = true
is_sound_kind (Alias target) = true
is_sound_kind (Device kind) = is_sound_device kind

-- some aligned bytes, below the end of all addresses
abbrev pub is_sound : Region → Bool
is_sound r =
    (r.base % unit_of r.kind == 0 && r.size % unit_of r.kind == 0)
    && (nat_lt 0 r.size && nat_le (r.base + r.size) address_end)
    && is_sound_kind r.kind

-- the most regions of a guest
abbrev pub most_regions : ℕ
most_regions = 32

unfoldable pub are_sound : List Region → Bool
are_sound regions = nat_le (length regions) most_regions && list_all is_sound regions

-- ---- regions together

-- memory that isn't another region's
abbrev pub is_real : Kind → Bool
is_real Ram = true
is_real Rom = true
is_real (Reserved host) = true
is_real (Alias target) = false
is_real (Device kind) = false

-- two regions share a byte
abbrev pub shares : Region → Region → Bool
shares r other = meets (span_of r) (span_of other)

-- the bytes lie wholly in this region, and it is memory of its own
abbrev pub holds_own : Span → Region → Bool
holds_own bytes r = is_real r.kind && holds bytes r

-- an alias names whole pages of one such region, an earlier or a later one
abbrev pub is_good_alias : List Region → (target size : ℕ) → Bool
is_good_alias regions target size =
    target % page_size == 0 && list_any (holds_own (bytes_at target size)) regions

-- the host's bytes are among those of a reserved region
abbrev pub meets_host_of : Span → ℕ → Kind → Bool
meets_host_of bytes size Ram = false
meets_host_of bytes size Rom = false
meets_host_of bytes size (Reserved host) = meets bytes (bytes_at host size)
meets_host_of bytes size (Alias target) = false
meets_host_of bytes size (Device kind) = false

abbrev pub meets_host : Span → Region → Bool
meets_host bytes r = meets_host_of bytes r.size r.kind

-- a reserved region names whole pages of the area that no earlier one names
abbrev pub is_good_host : Span → List Region → (host size : ℕ) → Bool
is_good_host area earlier host size =
    host % page_size == 0
    && (lies_in (bytes_at host size) area
    && not (list_any (meets_host (bytes_at host size)) earlier))

-- the fault, unless the rule is kept
abbrev pub unless : Bool → RegionFault → Option RegionFault
unless true fault = None
unless false fault = Some fault

-- the rule of region j's own kind
abbrev pub kind_fault : Span → (regions earlier : List Region) → (j size : ℕ) → Kind
    → Option RegionFault
kind_fault area regions earlier j size Ram = None
kind_fault area regions earlier j size Rom = None
kind_fault area regions earlier j size (Reserved host) =
    unless (is_good_host area earlier host size) (BadHost j)
kind_fault area regions earlier j size (Alias target) =
    unless (is_good_alias regions target size) (BadAlias j)
kind_fault area regions earlier j size (Device kind) = None

-- a region that shares a byte, if there is one, and else what comes later
abbrev pub overlap_or : ℕ → Option ℕ → Option RegionFault → Option RegionFault
overlap_or j (Some i) later = Some (Overlap i j)
overlap_or j None later = later

-- what is wrong with region j: the first earlier one that shares a byte with it, then its own
-- kind's rule
abbrev pub fault_of : Span → (regions earlier : List Region) → ℕ → Region → Option RegionFault
fault_of area regions earlier j r =
    overlap_or j (position (shares r) earlier) (kind_fault area regions earlier j r.size r.kind)

abbrev pub or_later : Option RegionFault → Option RegionFault → Option RegionFault
or_later (Some fault) later = Some fault
or_later None later = later

-- the first fault of these regions, which are those of the guest from number j on
unfoldable pub fault_from : Span → (regions : List Region) → ℕ → List Region → Option RegionFault
fault_from area regions j [] = None
fault_from area regions j (r ∷ rs) =
    or_later (fault_of area regions (take j regions) j r) (fault_from area regions (suc j) rs)

-- the first fault of regions that are sound by themselves, over the reserved area of the host
unfoldable pub first_fault : Span → List Region → Option RegionFault
first_fault area regions = fault_from area regions 0 regions

-- the program answers this fault, unless it wants memory
abbrev pub IsFault : Option RegionFault → RegionFault → Type 0
IsFault found NoMemory = Unit {0}
IsFault found (Overlap i j) = found ≡ Some (Overlap i j)
IsFault found (BadAlias j) = found ≡ Some (BadAlias j)
IsFault found (BadHost j) = found ≡ Some (BadHost j)

-- regions that may stand together in a guest, over some area
pub record Accepted (regions : List Region) : Type 0 where
  pub area : Span
  pub sound : IsTrue (are_sound regions)
  pub faultless : first_fault area regions ≡ None

-- how far an alias leads: to no address past the end of all
abbrev pub IsReached : ℕ → Kind → Type 0
IsReached offset Ram = Unit {0}
IsReached offset Rom = Unit {0}
IsReached offset (Reserved host) = Unit {0}
IsReached offset (Alias target) = target + offset ≤ address_end
IsReached offset (Device kind) = Unit {0}
