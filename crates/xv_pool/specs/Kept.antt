-- A pool's fields, as what it hands out.
use Rattle.std.specs.Prelude.{◌≤◌, vec_capacity}
use Rattle.xv_pool.specs.declared.Pool.TheInside.{Inside}
use Rattle.xv_pool.specs.Resources.{Resources, IsSound}

abbrev pub resources_of : Inside → Resources
resources_of pool = record {
  first = pool.frames.first;
  count = pool.frames.count;
  area = pool.area;
  free = pool.frames.free;
  roots = pool.roots;
  held = pool.held.items;
}

pub record IsKept (pool : Inside) : Type 0 where
  pub sound : IsSound (resources_of pool)
  -- so that no range that is taken takes memory
  pub room : 512 ≤ vec_capacity pool.held
