-- How a table keeps its values.
use Rattle.std.specs.Prelude.{◌≡◌, ℕ, ◌≤◌, List, map, Option, Some, None, is_some, count_by}
use Rattle.std.specs.Prelude.{get_or, length}
use Rattle.slab.specs.Slab.{Slab, ContainsKey, get, slab_len}

module _ {T : Type 0} where
  -- the value that a place names in the slab
  abbrev pub value_at : Slab T → Option ℕ → Option T
  value_at values None = None
  value_at values (Some at) = get values at

  abbrev pub values_at : Slab T → List (Option ℕ) → List (Option T)
  values_at values places = map (value_at values) places

  -- each place names a value, no two the same, and the slab has no others and room for sixteen
  pub record IsTable (values : Slab T) (places : List (Option ℕ)) : Type 0 where
    pub sixteen : length places ≡ 16
    pub found : (i at : ℕ) → get_or places i None ≡ Some at → ContainsKey values at
    pub once : (i j at : ℕ) → get_or places i None ≡ Some at → get_or places j None ≡ Some at
        → i ≡ j
    pub counted : slab_len values ≡ count_by is_some places
    pub room : 16 ≤ values.capacity
