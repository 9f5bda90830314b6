-- How many frames of 4 KiB a guest takes: one for each page of its own memory, and one for each
-- table of its G stage below the root (Privileged Architecture 20211203, 8.5.1: Sv39x4), which is
-- one for each block of 1 GiB and one for each block of 2 MiB in which it has memory.
use Rattle.std.specs.Prelude.{ℕ, zero, suc, ◌+◌, ◌*◌, ◌/◌, ◌^◌, Bool, true, false, ◌&&◌, not}
use Rattle.std.specs.Prelude.{if◌then◌else◌, List, sum_by}
use Rattle.std.specs.List.{list_any}
use Rattle.xv_base.specs.Range.{meets}
use Rattle.xv_region.specs.declared.plan.Kind.{Kind}
use Rattle.xv_region.specs.declared.plan.Kind.TheVariants.{Ram, Rom, Reserved, Alias, Device}
use Rattle.xv_region.specs.declared.plan.Region.{Region}
use Rattle.xv_region.specs.Cell.{bytes_at, span_of}
use Rattle.xv_region.specs.Rules.{page_size}

-- the bytes for which the host gives frames
abbrev pub own_size : ℕ → Kind → ℕ
own_size size Ram = size
own_size size Rom = size
own_size size (Reserved host) = 0
own_size size (Alias target) = 0
own_size size (Device kind) = 0

abbrev pub own_pages : Region → ℕ
own_pages r = own_size r.size r.kind / page_size

-- its addresses lead to memory, so tables lead to them
abbrev pub is_mapped : Kind → Bool
is_mapped Ram = true
is_mapped Rom = true
is_mapped (Reserved host) = true
is_mapped (Alias target) = true
is_mapped (Device kind) = false

-- the region has memory in block k of `size` bytes
abbrev pub touches : (size k : ℕ) → Region → Bool
touches size k r = is_mapped r.kind && meets (bytes_at (k * size) size) (span_of r)

-- how many of the numbers below n pass the test
unfoldable pub count_below : (ℕ → Bool) → ℕ → ℕ
count_below test zero = 0
count_below test (suc n) = if test n then count_below test n + 1 else count_below test n

-- how many of the first n blocks of `size` bytes the regions touch
unfoldable pub blocks_touched : (size n : ℕ) → List Region → ℕ
blocks_touched size n regions = count_below (λ k. list_any (touches size k) regions) n

-- a block that the region touches, and none of the earlier ones
abbrev pub is_new : (size : ℕ) → List Region → Region → ℕ → Bool
is_new size earlier r k = touches size k r && not (list_any (touches size k) earlier)

-- 1 for a block that none of the regions touches
abbrev pub one_if_new : (size : ℕ) → List Region → ℕ → ℕ
one_if_new size earlier k = if list_any (touches size k) earlier then 0 else 1

-- all addresses are 2^11 blocks of 1 GiB, and 2^20 blocks of 2 MiB
unfoldable pub need : List Region → ℕ
need regions =
    sum_by own_pages regions
    + blocks_touched (2 ^ 30) (2 ^ 11) regions
    + blocks_touched (2 ^ 21) (2 ^ 20) regions
