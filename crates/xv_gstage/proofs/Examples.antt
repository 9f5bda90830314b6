-- Worked rows of the definitions, computed by the checker.
use Rattle.std.proofs.Common.{◌≡◌, ℕ, ◌-◌, ◌^◌, Bool, true, false, List, [], ◌∷◌, map}
use Rattle.std.proofs.Common.{Option, Some, None, refl}
use Rattle.xv_pool.specs.FrameList.{up_from}
use Rattle.xv_pte.specs.declared.g_entry.Mapping.{Mapping}
use Rattle.xv_region.specs.declared.plan.DeviceKind.TheVariants.{Uart}
use Rattle.xv_region.specs.declared.plan.Kind.{Kind}
use Rattle.xv_region.specs.declared.plan.Kind.TheVariants.{Ram, Rom, Reserved, Alias, Device}
use Rattle.xv_region.specs.declared.plan.Region.{Region}
use Rattle.xv_region.specs.Cell.{cell}
use Rattle.xv_gstage.specs.Own.{own, is_memory_page, frame_of, region_frames, reserved_frames}
use Rattle.xv_gstage.specs.Own.{page_frames, table_frames}

region : ℕ → ℕ → Kind → Region
region base size kind = record { name = []; base = base; size = size; kind = kind }

-- three pages of RAM, a UART, two of ROM, two reserved ones, both pages of the ROM under other
-- addresses, and so the last two of the RAM and one of the reserved; and the last page of all
regions : List Region
regions =
    region 0x80000000 0x3000 Ram
    ∷ region 0x10000000 0x1000 (Device (Uart 0 10))
    ∷ region 0 0x2000 Rom
    ∷ region 0xA0000000 0x2000 (Reserved 0x3C00000)
    ∷ region 0x90000000 0x2000 (Alias 0)
    ∷ region 0x90002000 0x2000 (Alias 0x80001000)
    ∷ region 0x90008000 0x1000 (Alias 0xA0001000)
    ∷ region (2 ^ 41 - 0x1000) 0x1000 Ram
    ∷ []

-- six pages, and tables
frames : List ℕ
frames = 70 ∷ 72 ∷ 65 ∷ 99 ∷ 66 ∷ 71 ∷ 80 ∷ 81 ∷ []

-- a page, and its own frame
record Row : Type 0 where
  page : ℕ
  to : Option Mapping

to : ℕ → ℕ → Bool → Row
to page frame writable = record {
  page = page;
  to = Some (record { frame = frame; writable = writable });
}

nowhere : ℕ → Row
nowhere page = record { page = page; to = None }

rows : List Row
rows =
    to 0x80000 70 true
    ∷ to 0x80001 72 true
    ∷ to 0x80002 65 true
    ∷ nowhere 0x80003
    ∷ nowhere 0x7FFFF
    -- the UART, the ROM, and what is behind it
    ∷ nowhere 0x10000
    ∷ to 0 99 false
    ∷ to 1 66 false
    ∷ nowhere 2
    -- reserved pages are the host's
    ∷ to 0xA0000 0x3C00 true
    ∷ to 0xA0001 0x3C01 true
    ∷ nowhere 0xA0002
    -- aliases
    ∷ to 0x90000 99 false
    ∷ to 0x90001 66 false
    ∷ to 0x90002 72 true
    ∷ to 0x90003 65 true
    ∷ nowhere 0x90004
    ∷ to 0x90008 0x3C01 true
    -- the last page of all
    ∷ to 0x1FFFFFFF 71 true
    ∷ nowhere 0x20000000
    ∷ []

owns : List Row → List (Option Mapping)
owns [] = []
owns (r ∷ rs) = own regions frames r.page ∷ owns rs

given : List Row → List (Option Mapping)
given [] = []
given (r ∷ rs) = r.to ∷ given rs

own_of_rows : owns rows ≡ given rows
unfolding owns given rows to nowhere own frame_of region_frames up_from cell regions region frames
own_of_rows = refl

memory_pages : map (is_memory_page regions)
    (0 ∷ 2 ∷ 0x10000 ∷ 0x80002 ∷ 0x80003 ∷ 0x90003 ∷ 0x90004 ∷ 0xA0001 ∷ 0x1FFFFFFF ∷ [])
    ≡ (true ∷ false ∷ false ∷ true ∷ false ∷ true ∷ false ∷ true ∷ true ∷ [])
unfolding is_memory_page regions region
memory_pages = refl

page_parts : page_frames regions frames ≡ (70 ∷ 72 ∷ 65 ∷ 99 ∷ 66 ∷ 71 ∷ [])
unfolding regions region frames
page_parts = refl

table_parts : table_frames regions frames ≡ (80 ∷ 81 ∷ [])
unfolding regions region frames
table_parts = refl

reserved_parts : reserved_frames regions ≡ (0x3C00 ∷ 0x3C01 ∷ [])
unfolding reserved_frames up_from regions region
reserved_parts = refl
