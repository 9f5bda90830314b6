-- Worked rows of the definitions, computed by the checker.
use Rattle.std.proofs.Common.{◌≡◌, ℕ, ◌+◌, ◌*◌, ◌-◌, ◌^◌, Bool, true, false, List, [], ◌∷◌, ◌++◌}
use Rattle.std.proofs.Common.{map}
use Rattle.std.proofs.Common.{Option, Some, None, refl, sum_by, ◌∙◌}
use Rattle.xv_base.specs.declared.keys.Span.{Span}
use Rattle.xv_region.specs.declared.cell.Cell.{Cell}
use Rattle.xv_region.specs.declared.cell.Cell.TheVariants.{Memory, Nothing}
use Rattle.xv_region.specs.declared.cell.Cell.TheVariants as cells
use Rattle.xv_region.specs.declared.fault.RegionFault.{RegionFault}
use Rattle.xv_region.specs.declared.fault.RegionFault.TheVariants.{Overlap, BadAlias, BadHost}
use Rattle.xv_region.specs.declared.plan.DeviceKind.TheVariants.{Uart, Plic, Finisher}
use Rattle.xv_region.specs.declared.plan.Kind.{Kind}
use Rattle.xv_region.specs.declared.plan.Kind.TheVariants.{Ram, Rom, Reserved, Alias, Device}
use Rattle.xv_region.specs.declared.plan.Region.{Region}
use Rattle.xv_region.specs.Cell.{cell}
use Rattle.xv_region.specs.Need.{blocks_touched, count_below, need, own_pages}
use Rattle.xv_region.specs.Plan.{flat}
use Rattle.xv_region.specs.Rules.{are_sound, fault_from, first_fault}
use Rattle.xv_region.proofs.NeedLemmas.{blocks-past, ends_by, ends-later}

region : ℕ → ℕ → Kind → Region
region base size kind = record { name = []; base = base; size = size; kind = kind }

-- the regions of examples/trees/payload.dts, with its memory and its UART elsewhere
payload_at : (memory uart rom : ℕ) → List Region
payload_at memory uart rom =
    region memory 0x800000 Ram
    ∷ region rom 0x10000 Rom
    ∷ region 0xC000000 0x400000 (Device Plic)
    ∷ region uart 0x100 (Device (Uart 0 10))
    ∷ region 0x100000 0x1000 (Device Finisher)
    ∷ []

payload : List Region
payload = payload_at 0x80000000 0x10000000 0

alias_to : ℕ → Region
alias_to target = region 0x90000000 0x2000 (Alias target)

-- ---- cells

-- with an alias of two pages of memory, one of the last page of the ROM, and a reserved page behind
-- the memory
seen : List Region
seen =
    payload
    ++ alias_to 0x80001000
    ∷ region 0xA0000000 0x1000 (Alias 0xF000)
    ∷ region 0x80800000 0x1000 (Reserved 0x3C00000)
    ∷ region (2 ^ 41 - 0x1000) 0x1000 Ram
    ∷ []

-- the address, the length, and what they name
rows : List (ℕ × ℕ × Cell)
rows =
    -- both bounds of the memory
    (0x7FFFFFFF, 1, Nothing)
    ∷ (0x7FFFFFFF, 2, Nothing)
    ∷ (0x80000000, 1, Memory 0 0 true)
    ∷ (0x807FFFF8, 8, Memory 0 0x7FFFF8 true)
    -- from the memory into the reserved page behind it, and in that
    ∷ (0x807FFFFC, 8, Nothing)
    ∷ (0x807FFFFF, 2, Nothing)
    ∷ (0x80800000, 4, Memory 7 0 true)
    ∷ (0x80800FFF, 1, Memory 7 0xFFF true)
    ∷ (0x80801000, 1, Nothing)
    -- the ROM
    ∷ (0, 1, Memory 1 0 false)
    ∷ (0xFFFF, 1, Memory 1 0xFFFF false)
    ∷ (0xFFFF, 2, Nothing)
    ∷ (0x10000, 1, Nothing)
    -- devices
    ∷ (0xBFFFFFF, 1, Nothing)
    ∷ (0xC000000, 4, cells.Device 2 0)
    ∷ (0xC3FFFFC, 4, cells.Device 2 0x3FFFFC)
    ∷ (0xC3FFFFC, 8, Nothing)
    ∷ (0x100000FF, 1, cells.Device 3 0xFF)
    ∷ (0x10000100, 1, Nothing)
    ∷ (0x100FFC, 4, cells.Device 4 0xFFC)
    ∷ (0x101000, 4, Nothing)
    -- the alias of the memory, whole and past its end, and that of the ROM
    ∷ (0x8FFFFFFF, 1, Nothing)
    ∷ (0x90000000, 0x2000, Memory 0 0x1000 true)
    ∷ (0x90001FFF, 1, Memory 0 0x2FFF true)
    ∷ (0x90001FFF, 2, Nothing)
    ∷ (0xA0000FFC, 4, Memory 1 0xFFFC false)
    -- the last addresses, what is past them, and lengths whose end is past 2^64
    ∷ (2 ^ 41 - 1, 1, Memory 8 0xFFF true)
    ∷ (2 ^ 41 - 1, 2, Nothing)
    ∷ (2 ^ 41, 1, Nothing)
    ∷ (2 ^ 41 + 0x80000000, 1, Nothing)
    ∷ (2 ^ 64 - 1, 1, Nothing)
    ∷ (2 ^ 64 - 1, 2, Nothing)
    ∷ (0x80000000, 2 ^ 64 - 0x80000000, Nothing)
    ∷ (0x80000001, 2 ^ 64 - 1, Nothing)
    ∷ (0x80000000, 0x800001, Nothing)
    ∷ []

cells_of : List (ℕ × ℕ × Cell) → List Cell
cells_of rows = map (λ row. cell seen row.0 row.1) rows

wanted : List (ℕ × ℕ × Cell) → List Cell
wanted rows = map (λ row. row.2) rows

the_cells : cells_of rows ≡ wanted rows
unfolding cells_of wanted rows seen payload payload_at alias_to region cell
the_cells = refl

-- an alias that leads to an alias, which no lawful guest has, names nothing
second_hop : cell (alias_to 0xA0000000 ∷ region 0xA0000000 0x2000 (Alias 0x80000000)
    ∷ region 0x80000000 0x2000 Ram ∷ []) 0x90000000 1 ≡ Nothing
unfolding alias_to region cell
second_hop = refl

-- ---- faults, over a reserved area of 4 MiB

area : Span
area = record { start = 0x3C00000; len = 0x400000 }

held : ℕ → ℕ → ℕ → Region
held base size host = region base size (Reserved host)

judged : List (List Region × Option RegionFault)
judged =
    ([], None)
    ∷ (payload, None)
    ∷ (seen, None)
    -- two regions share their last and first page, and one lies in the other; a third stands before
    -- the later pair
    ∷ (payload_at 0x80000000 0x10000000 0x807FF000, Some (Overlap 0 1))
    ∷ (payload_at 0x80000000 0x80000000 0, Some (Overlap 0 3))
    ∷ (payload_at 0x80000000 0x10000000 0xFFFF0 ++ payload, Some (Overlap 1 4))
    ∷ (payload ++ region 0xF000 0x100000 Ram ∷ [], Some (Overlap 1 5))
    ∷ (payload ++ region 0xFFFF8 8 (Device Finisher) ∷ [], None)
    ∷ (payload ++ region 0xFFFF8 16 (Device Finisher) ∷ [], Some (Overlap 4 5))
    -- aliases: of memory, past its end, of a device, of no whole page, of two regions, of an alias
    ∷ (payload ++ alias_to 0x80001000 ∷ [], None)
    ∷ (payload ++ alias_to 0x807FE000 ∷ [], None)
    ∷ (payload ++ alias_to 0x807FF000 ∷ [], Some (BadAlias 5))
    ∷ (payload ++ alias_to 0x10000000 ∷ [], Some (BadAlias 5))
    ∷ (payload ++ alias_to 0x80000800 ∷ [], Some (BadAlias 5))
    ∷ (payload ++ alias_to 1 ∷ [], Some (BadAlias 5))
    ∷ (payload ++ alias_to 0x807FF000 ∷ held 0x80800000 0x1000 0x3C00000 ∷ [], Some (BadAlias 5))
    ∷ (
      payload ++ alias_to 0x80000000 ∷ region 0xA0000000 0x2000 (Alias 0x90000000)
          ∷ [],
      Some (BadAlias 6),
    )
    -- of a later region, which may be a reserved one
    ∷ (alias_to 0x80000000 ∷ payload, None)
    ∷ (alias_to 0xB0000000 ∷ held 0xB0000000 0x2000 0x3C00000 ∷ [], None)
    -- reserved ranges: both ends of the area, past them, of no whole page, and two of them
    ∷ (held 0 0x400000 0x3C00000 ∷ [], None)
    ∷ (held 0 0x401000 0x3C00000 ∷ [], Some (BadHost 0))
    ∷ (held 0 0x1000 0x3BFF000 ∷ [], Some (BadHost 0))
    ∷ (held 0 0x1000 0x3C00800 ∷ [], Some (BadHost 0))
    ∷ (held 0 0x2000 0x3C00000 ∷ held 0x2000 0x1000 0x3C02000 ∷ [], None)
    ∷ (held 0 0x2000 0x3C00000 ∷ held 0x2000 0x1000 0x3C01000 ∷ [], Some (BadHost 1))
    -- an overlap stands before the kind's rule, and an earlier region's fault before a later one's
    ∷ (held 0 0x1000 0x3C00000 ∷ held 0 0x1000 0x3C00000 ∷ [], Some (Overlap 0 1))
    ∷ (alias_to 0x10000000 ∷ payload_at 0x80000000 0x10000000 0x807FF000, Some (BadAlias 0))
    ∷ []

faults_of : List (List Region × Option RegionFault) → List (Option RegionFault)
faults_of rows = map (λ row. first_fault area row.0) rows

faults_wanted : List (List Region × Option RegionFault) → List (Option RegionFault)
faults_wanted rows = map (λ row. row.1) rows

the_faults : faults_of judged ≡ faults_wanted judged
unfolding faults_of faults_wanted judged area held seen payload payload_at alias_to region
    first_fault fault_from
the_faults = refl

-- ---- one region by itself

sound_rows : List (Region × Bool)
sound_rows =
    (region 0 0x1000 Ram, true)
    ∷ (region 0 0 Ram, false)
    ∷ (region 0x800 0x1000 Ram, false)
    ∷ (region 0x1000 0x800 Rom, false)
    ∷ (region 0x800 0x1000 (Reserved 0), false)
    ∷ (region 0x1000 0x800 (Alias 0), false)
    ∷ (region 8 8 (Device Finisher), true)
    ∷ (region 4 8 (Device Finisher), false)
    ∷ (region 8 12 (Device Finisher), false)
    ∷ (region (2 ^ 41 - 0x1000) 0x1000 Ram, true)
    ∷ (region (2 ^ 41 - 0x1000) 0x2000 Ram, false)
    ∷ (region (2 ^ 41) 0x1000 Ram, false)
    ∷ (region 0x1000 (2 ^ 64 - 0x1000) Ram, false)
    ∷ (region 0 0x100 (Device (Uart 2 63)), true)
    ∷ (region 0 0x100 (Device (Uart 3 0)), false)
    ∷ (region 0 0x100 (Device (Uart 0 64)), false)
    ∷ []

are_sound_alone : List (Region × Bool) → List Bool
are_sound_alone rows = map (λ row. are_sound (row.0 ∷ [])) rows

sound_wanted : List (Region × Bool) → List Bool
sound_wanted rows = map (λ row. row.1) rows

the_sound : are_sound_alone sound_rows ≡ sound_wanted sound_rows
unfolding are_sound_alone sound_wanted sound_rows region are_sound
the_sound = refl

-- ---- frames: nothing touches a block behind the regions' ends, so the first blocks are enough

first_blocks : List Region → ℕ
first_blocks regions =
    sum_by own_pages regions
    + blocks_touched (2 ^ 30) 3 regions
    + blocks_touched (2 ^ 21) 1280 regions

needed : (regions : List Region) → ends_by 0xA0000000 regions ≡ true
    → need regions ≡ first_blocks regions
unfolding need first_blocks
needed regions end =
    let upper : ends_by (3 * 2 ^ 30) regions ≡ true =
    ends-later 0xA0000000 0xC0000000 regions refl end in
    rw (
      blocks-past (2 ^ 30) 3 (2 ^ 11) regions refl upper,
      blocks-past (2 ^ 21) 1280 (2 ^ 20) regions refl end,
    ) refl

-- 2,048 and 16 pages, 2 blocks of 1 GiB, 4 and 1 blocks of 2 MiB; the devices have none
payload_need : need payload ≡ 2071
unfolding first_blocks payload payload_at region blocks_touched count_below
payload_need = needed payload refl ∙ refl

-- an alias takes no page, but here a block of 2 MiB more
alias_need : need (payload ++ alias_to 0x80001000 ∷ []) ≡ 2072
unfolding first_blocks payload payload_at alias_to region blocks_touched count_below
alias_need = needed (payload ++ alias_to 0x80001000 ∷ []) refl ∙ refl

-- flat guests: the least, the most that has room in a host of 64 MiB, and the greatest
flat_needs : (need (flat 1).regions ≡ 3) × (need (flat 16287).regions ≡ 16320)
    × (need (flat 16288).regions ≡ 16321) × (need (flat 131072).regions ≡ 131329)
unfolding first_blocks blocks_touched count_below
flat_needs = (
  needed (flat 1).regions refl ∙ refl,
  needed (flat 16287).regions refl ∙ refl,
  needed (flat 16288).regions refl ∙ refl,
  needed (flat 131072).regions refl ∙ refl,
)
