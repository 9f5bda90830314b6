-- What a host hands out to its guests: frames, root tables, and ranges of its reserved area.
use Rattle.std.specs.Prelude.{◌≡◌, ℕ, ◌+◌, ◌<◌, ◌≤◌, Bool, false, List, [], length, replicate}
use Rattle.std.specs.Prelude.{count_by, nat_lt, if◌then◌else◌, Result, Ok, Err}
use Rattle.std.specs.List.{All, list_all, list_any}
use Rattle.std.specs.List.Sorted.{IsStrictlyIncreasing}
use Rattle.xv_base.specs.declared.keys.Span.{Span}
use Rattle.xv_pool.specs.declared.fault.PoolFault.{PoolFault}
use Rattle.xv_pool.specs.declared.fault.PoolFault.TheVariants.{NoRoot, NoFrame, ReservedBusy}
use Rattle.xv_pool.specs.FrameList.{up_from}
use Rattle.xv_base.specs.Range.{has_address, meets_one, LiesIn}

pub record Resources : Type 0 where
  -- the frames of the pool are count ones from the first on
  pub first : ℕ
  pub count : ℕ
  -- the reserved area, in bytes
  pub area : Span
  -- the frames that nobody has, by rising number
  pub free : List ℕ
  -- for each number of a root table, whether somebody has it
  pub roots : List Bool
  -- the ranges of the area that somebody has
  pub held : List Span

-- what stands whatever was taken and given
pub record IsSound (pool : Resources) : Type 0 where
  -- each free frame is one of the pool, and none is listed twice
  pub inside : All (λ frame. (pool.first ≤ frame) × (frame < pool.first + pool.count)) pool.free
  pub rising : IsStrictlyIncreasing pool.free
  pub sixteen : length pool.roots ≡ 16
  -- each held range lies in the area, and no address in two of them
  pub reserved : All (λ range. LiesIn range pool.area) pool.held
  pub apart : (address : ℕ) → count_by (has_address address) pool.held ≤ 1

-- nobody has anything
abbrev pub fresh : ℕ → ℕ → Span → Resources
fresh first count area = record {
  first = first;
  count = count;
  area = area;
  free = up_from first count;
  roots = replicate 16 false;
  held = [];
}

-- every root is out
abbrev pub all_out : List Bool → Bool
all_out roots = list_all (λ is_out. is_out) roots

-- whether a root, so many frames and these ranges can be had, or else what can't: the root first,
-- then the frames, then the ranges
abbrev pub tested : Resources → ℕ → List Span → Result (Unit {0}) PoolFault
tested pool need ranges =
    if all_out pool.roots then Err NoRoot
    else if nat_lt (length pool.free) need then Err (NoFrame need (length pool.free))
    else if list_any (meets_one pool.held) ranges then Err ReservedBusy
    else Ok tt
