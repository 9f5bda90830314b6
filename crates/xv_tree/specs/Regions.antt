-- The regions of a guest, by the children of the node `aspace`: what each must keep by itself.
use Rattle.std.specs.Prelude.{ℕ, ◌+◌, ◌%◌, ◌==◌, Bool, true, false, ◌&&◌, not, nat_le, nat_lt}
use Rattle.std.specs.Prelude.{if◌then◌else◌, List, [], ◌∷◌, ◌++◌, length, take, codes}
use Rattle.std.specs.Prelude.{Option, Some, None, option_and_then, Result, Ok, Err}
use Rattle.std.specs.Str.{bytes_eq}
use Rattle.std.specs.Int.{w32, from_be_bytes}
use Rattle.std.specs.List.{list_any}
use Rattle.xv_region.specs.declared.plan.DeviceKind.{DeviceKind}
use Rattle.xv_region.specs.declared.plan.DeviceKind.TheVariants as devices
use Rattle.xv_region.specs.declared.plan.Kind.{Kind}
use Rattle.xv_region.specs.declared.plan.Kind.TheVariants as kinds
use Rattle.xv_region.specs.declared.plan.Region.{Region}
use Rattle.xv_region.specs.Rules.{address_end, most_regions, page_size}
use Rattle.xv_fdt.specs.Fault.{◌>>=◌}
use Rattle.xv_fdt.specs.Tree.{Entry, Property}
use Rattle.xv_tree.specs.declared.fault.PlanKind.{PlanKind}
use Rattle.xv_tree.specs.declared.fault.PlanKind.TheVariants.{TooManyRegions, BadManifest, BadKind}
use Rattle.xv_tree.specs.declared.fault.PlanKind.TheVariants.{BadAddress, BadSize, BadIrq}
use Rattle.xv_tree.specs.declared.fault.PlanFault.{PlanFault}
use Rattle.xv_tree.specs.declared.sort.Manifest.{Manifest}
use Rattle.xv_tree.specs.declared.sort.Manifest.TheVariants.{Real, Virtual}
use Rattle.xv_tree.specs.declared.sort.Manifest.TheVariants as manifests
use Rattle.xv_tree.specs.declared.sort.Sort.{Sort}
use Rattle.xv_tree.specs.declared.sort.Sort.TheVariants.{Ram, Rom, Reserved, Alias, Uart, Plic}
use Rattle.xv_tree.specs.declared.sort.Sort.TheVariants.{Finisher}
use Rattle.xv_tree.specs.Children.{Numbered}
use Rattle.xv_tree.specs.Fault.{fault_at, given, needed}
use Rattle.xv_tree.specs.Values.{number_of, text, texts, value_of, word}

-- ---- which sort of region a node describes

-- the memory that a `device_type` names
abbrev pub memory_sort : List ℕ → Option Sort
memory_sort name =
    if bytes_eq name (codes "alloced_ram") then Some Ram
    else if bytes_eq name (codes "alloced_rom") then Some Rom
    else if bytes_eq name (codes "reserved_ram") then Some Reserved
    else None

-- the device that a word of `compatible` names
abbrev pub device_sort : List ℕ → Option Sort
device_sort name =
    if bytes_eq name (codes "ns16550a") then Some Uart
    else if bytes_eq name (codes "ns16550") then Some Uart
    else if bytes_eq name (codes "sifive,plic-1.0.0") then Some Plic
    else if bytes_eq name (codes "riscv,plic0") then Some Plic
    else if bytes_eq name (codes "sifive,test0") then Some Finisher
    else if bytes_eq name (codes "sifive,test1") then Some Finisher
    else None

abbrev pub or_later : Option Sort → Option Sort → Option Sort
or_later (Some sort) later = Some sort
or_later None later = later

-- the first known word of a list
abbrev pub first_known : List (List ℕ) → Option Sort
first_known [] = None
first_known (name ∷ names) = or_later (device_sort name) (first_known names)

abbrev pub real_sort : List Property → Option Sort
real_sort props =
    option_and_then (λ value. memory_sort (text value)) (value_of (codes "device_type") props)

-- with no known word it is of none
abbrev pub virtual_sort : List Property → Option Sort
virtual_sort props =
    option_and_then (λ value. first_known (texts value)) (value_of (codes "compatible") props)

abbrev pub some_needed : PlanKind → Option Sort → Result (Option Sort) PlanKind
some_needed kind None = Err kind
some_needed kind (Some sort) = Ok (Some sort)

-- what a `manifest_type` says
abbrev pub manifest_of : List ℕ → Option Manifest
manifest_of name =
    if bytes_eq name (codes "real") then Some Real
    else if bytes_eq name (codes "virtual") then Some Virtual
    else if bytes_eq name (codes "alias") then Some manifests.Alias
    else None

abbrev pub sort_by : List Property → Option Manifest → Result (Option Sort) PlanKind
sort_by props None = Err BadManifest
sort_by props (Some Real) = some_needed BadKind (real_sort props)
sort_by props (Some Virtual) = Ok (virtual_sort props)
sort_by props (Some manifests.Alias) = Ok (Some Alias)

abbrev pub sort_in : List Property → Option (List ℕ) → Result (Option Sort) PlanKind
sort_in props None = Ok None
sort_in props (Some value) = sort_by props (manifest_of (text value))

-- a node of no sort is skipped
unfoldable pub sort_of : List Property → Result (Option Sort) PlanKind
sort_of props = sort_in props (value_of (codes "manifest_type") props)

-- ---- its addresses

-- what its bounds are multiples of
abbrev pub unit_of : Sort → ℕ
unit_of Ram = page_size
unit_of Rom = page_size
unit_of Reserved = page_size
unit_of Alias = page_size
unit_of Uart = 8
unit_of Plic = 8
unit_of Finisher = 8

abbrev pub base_in : (unit : ℕ) → Option ℕ → Option ℕ
base_in unit None = None
base_in unit (Some base) =
    if base % unit == 0 && nat_lt base address_end then Some base else None

abbrev pub size_in : (unit base : ℕ) → Option ℕ → Option ℕ
size_in unit base None = None
size_in unit base (Some size) =
    if size % unit == 0 && (nat_lt 0 size && nat_le (base + size) address_end) then Some size
    else None

-- ---- what stands behind them

-- an address that is missing or ill-formed becomes one that is no multiple of a page, which no
-- later rule accepts
abbrev pub address_or_bad : Option ℕ → ℕ
address_or_bad None = 1
address_or_bad (Some address) = address

abbrev pub shift_at : Option ℕ → Option ℕ
shift_at None = None
shift_at (Some shift) = if nat_le shift 2 then Some shift else None

abbrev pub shift_in : Option (List ℕ) → Option ℕ
shift_in None = Some 0
shift_in (Some value) = shift_at (word value)

abbrev pub device_has_irq : ℕ → DeviceKind → Bool
device_has_irq irq (devices.Uart shift other) = other == irq
device_has_irq irq devices.Plic = false
device_has_irq irq devices.Finisher = false

abbrev pub kind_has_irq : ℕ → Kind → Bool
kind_has_irq irq kinds.Ram = false
kind_has_irq irq kinds.Rom = false
kind_has_irq irq (kinds.Reserved host) = false
kind_has_irq irq (kinds.Alias target) = false
kind_has_irq irq (kinds.Device device) = device_has_irq irq device

abbrev pub has_irq : ℕ → Region → Bool
has_irq irq r = kind_has_irq irq r.kind

-- a source of the PLIC that no earlier region has
abbrev pub irq_at : List Region → ℕ → Option ℕ
irq_at earlier irq =
    if (nat_le 1 irq && nat_le irq 63) && not (list_any (has_irq irq) earlier) then Some irq
    else None

-- the first of one or more words; none, where the property is absent
abbrev pub irq_in : List Region → Option (List ℕ) → Option ℕ
irq_in earlier None = Some 0
irq_in earlier (Some value) =
    if nat_le 4 (length value) && length value % 4 == 0
    then irq_at earlier (from_be_bytes w32 (take 4 value))
    else None

abbrev pub uart_of : List Region → List Property → Result Kind PlanKind
uart_of earlier props = do
  shift ← needed BadKind (shift_in (value_of (codes "reg-shift") props))
  irq ← needed BadIrq (irq_in earlier (value_of (codes "interrupts") props))
  Ok (kinds.Device (devices.Uart shift irq))

abbrev pub kind_of : List Region → List Property → Sort → Result Kind PlanKind
kind_of earlier props Ram = Ok kinds.Ram
kind_of earlier props Rom = Ok kinds.Rom
kind_of earlier props Reserved =
    Ok (kinds.Reserved (address_or_bad (number_of (codes "host_physical_addr") props)))
kind_of earlier props Alias =
    Ok (kinds.Alias (address_or_bad (number_of (codes "alias_physical_addr") props)))
kind_of earlier props Uart = uart_of earlier props
kind_of earlier props Plic = Ok (kinds.Device devices.Plic)
kind_of earlier props Finisher = Ok (kinds.Device devices.Finisher)

-- ---- the region

abbrev pub device_is_plic : DeviceKind → Bool
device_is_plic (devices.Uart shift irq) = false
device_is_plic devices.Plic = true
device_is_plic devices.Finisher = false

abbrev pub kind_is_plic : Kind → Bool
kind_is_plic kinds.Ram = false
kind_is_plic kinds.Rom = false
kind_is_plic (kinds.Reserved host) = false
kind_is_plic (kinds.Alias target) = false
kind_is_plic (kinds.Device device) = device_is_plic device

abbrev pub is_plic : Region → Bool
is_plic r = kind_is_plic r.kind

-- a PLIC after another one
abbrev pub is_second : List Region → Sort → Bool
is_second earlier Ram = false
is_second earlier Rom = false
is_second earlier Reserved = false
is_second earlier Alias = false
is_second earlier Uart = false
is_second earlier Plic = list_any is_plic earlier
is_second earlier Finisher = false

-- the region that begins there
abbrev pub region_from : List Region → Entry → Sort → (base : ℕ) → Result Region PlanKind
region_from earlier e sort base = do
  size ← needed BadSize (size_in (unit_of sort) base (number_of (codes "physical_size") e.props))
  kind ← kind_of earlier e.props sort
  Ok (record { name = e.name; base = base; size = size; kind = kind })

abbrev pub region_at : List Region → Entry → Sort → Result Region PlanKind
region_at earlier e sort =
    needed BadAddress (base_in (unit_of sort) (number_of (codes "guest_physical_addr") e.props))
    >>= region_from earlier e sort

-- the region of such a node, after the earlier ones
unfoldable pub region_of : List Region → Entry → Sort → Result Region PlanKind
region_of earlier e sort =
    given (not (is_second earlier sort)) BadKind (
    given (nat_lt (length earlier) most_regions) TooManyRegions (region_at earlier e sort)
    )

-- ---- one after another

-- the regions that are kept, and the number of the node of each
pub record Kept : Type 0 where
  pub regions : List Region
  pub nodes : List ℕ

abbrev pub nothing_kept : Kept
nothing_kept = record { regions = []; nodes = [] }

abbrev pub also_kept : Kept → ℕ → Region → Kept
also_kept kept number r = record {
  regions = kept.regions ++ r ∷ [];
  nodes = kept.nodes ++ number ∷ [];
}

abbrev pub kept_if : Kept → Numbered → Option Sort → Result Kept PlanFault
kept_if kept n None = Ok kept
kept_if kept n (Some sort) =
    fault_at n.0 (region_of kept.regions n.1 sort) >>= λ r. Ok (also_kept kept n.0 r)

-- one node more
abbrev pub with_node : Kept → Numbered → Result Kept PlanFault
with_node kept n = fault_at n.0 (sort_of n.1.props) >>= kept_if kept n
