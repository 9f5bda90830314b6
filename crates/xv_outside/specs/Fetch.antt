-- What a fetch answers of a finite map from names to bytes.
use Rattle.std.specs.Prelude.{◌≡◌, ◌<◌, ◌≤◌, ℕ, List, length, Option, Some, None}
use Rattle.std.specs.Ordering.{nat_cmp}
use Rattle.std.specs.FinMap as map
use Rattle.std.specs.Cmp.Lexicographic.{slice_cmp}
use Rattle.xv_outside.specs.declared.outside.Fetched.{Fetched}
use Rattle.xv_outside.specs.declared.outside.Fetched.TheVariants.{Bytes, Missing, TooBig}

-- a finite map from names to bytes
abbrev pub FileMap : Type 0
FileMap = map.FinMap (slice_cmp nat_cmp) (List ℕ)

-- of what stands under a name: those bytes where they are within the limit, that nothing does, or
-- that they are longer
abbrev pub Tells : Option (List ℕ) → ℕ → Fetched → Type 0
Tells entry limit (Bytes bytes) = (entry ≡ Some bytes.items) × (length bytes.items ≤ limit)
Tells entry limit Missing = entry ≡ None
Tells entry limit TooBig = (bytes : List ℕ) × (entry ≡ Some bytes) × (limit < length bytes)

-- a fetch under this name answers by the map, where that is told
abbrev pub TellsOf : Option FileMap → List ℕ → ℕ → Fetched → Type 0
TellsOf None name limit fetched = Unit {0}
TellsOf (Some files) name limit fetched = Tells (map.get files name) limit fetched

-- bytes stand under a name, within the limit
abbrev pub IsWithin : Option (List ℕ) → ℕ → Type 0
IsWithin entry limit = (bytes : List ℕ) × (entry ≡ Some bytes) × (length bytes ≤ limit)
