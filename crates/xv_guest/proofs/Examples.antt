-- Worked rows: what a small guest holds. It has two pages of RAM, an alias of the second, a page of
-- the host's at frame 80, and a UART.
use Rattle.std.proofs.Common.{◌≡◌, ℕ, true, false, List, [], ◌∷◌, refl, codes}
use Rattle.xv_pool.specs.FrameList.{up_from}
use Rattle.xv_region.specs.declared.plan.DeviceKind.TheVariants.{Uart}
use Rattle.xv_region.specs.declared.plan.Kind.{Kind}
use Rattle.xv_region.specs.declared.plan.Kind.TheVariants.{Ram, Reserved, Alias, Device}
use Rattle.xv_region.specs.declared.plan.Region.{Region}
use Rattle.xv_gstage.specs.Own.{region_frames, reserved_frames}
use Rattle.xv_guest.specs.Frames.{reserved_ranges}
use Rattle.xv_guest.specs.Held.{Held, holds}
use Rattle.xv_guest.specs.Take.{least_root}

region : (base size : ℕ) → Kind → Region
region base size kind = record { name = codes "r"; base = base; size = size; kind = kind }

regions : List Region
regions =
    region 0x8000_0000 0x2000 Ram
    ∷ region 0x9000_0000 0x1000 (Alias 0x8000_1000)
    ∷ region 0xA000_0000 0x1000 (Reserved 0x5_0000)
    ∷ region 0x1000_0000 0x100 (Device (Uart 0 1))
    ∷ []

-- five frames: two pages and three tables, of which none stands under a region
held : Held
held = record { root = 3; regions = regions; frames = 70 ∷ 72 ∷ 73 ∷ 74 ∷ 75 ∷ [] }

frames_under_regions : region_frames held.regions held.frames
    ≡ (70 ∷ 72 ∷ []) ∷ [] ∷ (80 ∷ []) ∷ [] ∷ []
unfolding held regions region region_frames up_from
frames_under_regions = refl

ranges_of_regions : reserved_ranges held.regions ≡ record { start = 0x5_0000; len = 0x1000 } ∷ []
unfolding held regions region reserved_ranges
ranges_of_regions = refl

-- its root is frames 12 to 15
counts : List ℕ → List ℕ
counts [] = []
counts (frame ∷ frames) = holds frame held ∷ counts frames

how_often_held : counts (11 ∷ 12 ∷ 15 ∷ 16 ∷ 70 ∷ 71 ∷ 75 ∷ 80 ∷ 81 ∷ [])
    ≡ 0 ∷ 1 ∷ 1 ∷ 0 ∷ 1 ∷ 0 ∷ 1 ∷ 1 ∷ 0 ∷ []
unfolding counts held regions region reserved_frames up_from
how_often_held = refl

roots_in_order : least_root (true ∷ true ∷ false ∷ true ∷ false ∷ []) ≡ 2
roots_in_order = refl

no_root_left : least_root (true ∷ true ∷ []) ≡ 2
no_root_left = refl
