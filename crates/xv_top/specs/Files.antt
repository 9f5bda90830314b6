-- The files that a script's lines name.
use Rattle.std.specs.Prelude.{◌≡◌, ◌⊎◌, ℕ, Bool, false, List, Option, Some}
use Rattle.std.specs.FinMap as map
use Rattle.xv_outside.specs.Fetch.{FileMap}

-- what stands under a name, if something does
abbrev pub file_of : FileMap → List ℕ → Option (List ℕ)
file_of files name = map.get files name

-- a map may stand for the files that were handed in: they tell it, or no fetch is made, and then
-- any map does
abbrev pub StandsFor : Option FileMap → FileMap → (fetching : Bool) → Type 0
StandsFor given files fetching = (given ≡ Some files) ⊎ (fetching ≡ false)

-- the most bytes of a tree, and of an image
abbrev pub most_tree : ℕ
most_tree = 1048576

abbrev pub most_image : ℕ
most_image = 67108864
