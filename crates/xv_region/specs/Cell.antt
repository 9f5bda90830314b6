-- What an address of a guest names: memory, a place in a device's registers, or nothing.
use Rattle.std.specs.Prelude.{ℕ, suc, ◌+◌, ◌-◌, Bool, true, false, if◌then◌else◌, List, [], ◌∷◌}
use Rattle.xv_base.specs.declared.keys.Span.{Span}
use Rattle.xv_base.specs.Range.{lies_in}
use Rattle.xv_region.specs.declared.cell.Cell.{Cell}
use Rattle.xv_region.specs.declared.cell.Cell.TheVariants as cells
use Rattle.xv_region.specs.declared.plan.Kind.{Kind}
use Rattle.xv_region.specs.declared.plan.Kind.TheVariants.{Ram, Rom, Reserved, Alias, Device}
use Rattle.xv_region.specs.declared.plan.Region.{Region}

-- n bytes from address a on
abbrev pub bytes_at : (a n : ℕ) → Span
bytes_at a n = record { start = a; len = n }

-- the addresses of a region
abbrev pub span_of : Region → Span
span_of r = bytes_at r.base r.size

-- the bytes lie wholly in the region
abbrev pub holds : Span → Region → Bool
holds bytes r = lies_in bytes (span_of r)

-- what an offset in region i names, by the region's kind; where an alias leads, `hop` says
abbrev pub cell_within : (ℕ → Cell) → (i offset : ℕ) → Kind → Cell
cell_within hop i offset Ram = cells.Memory i offset true
cell_within hop i offset Rom = cells.Memory i offset false
cell_within hop i offset (Reserved host) = cells.Memory i offset true
cell_within hop i offset (Alias target) = hop (target + offset)
cell_within hop i offset (Device kind) = cells.Device i offset

-- every region is looked at, the first of which has number i
abbrev pub cell_from : (ℕ → Cell) → (i : ℕ) → List Region → (a n : ℕ) → Cell
cell_from hop i [] a n = cells.Nothing
cell_from hop i (r ∷ rs) a n =
    if holds (bytes_at a n) r then cell_within hop i (a - r.base) r.kind
    else cell_from hop (suc i) rs a n

-- a second hop leads nowhere
abbrev pub nowhere : ℕ → Cell
nowhere a = cells.Nothing

-- where an alias leads: no further than to a region that is no alias
abbrev pub one_hop : List Region → (n a : ℕ) → Cell
one_hop regions n a = cell_from nowhere 0 regions a n

-- the cell of the n bytes from guest physical address a on; nothing, where they don't lie wholly in
-- one region
unfoldable pub cell : List Region → (a n : ℕ) → Cell
cell regions a n = cell_from (one_hop regions n) 0 regions a n
