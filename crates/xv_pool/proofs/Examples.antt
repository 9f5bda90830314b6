-- Worked rows of the definitions, computed by the checker.
use Rattle.std.proofs.Common.{◌≡◌, ℕ, ◌-◌, ◌^◌, Bool, true, false, List, [], ◌∷◌, replicate, Ok}
use Rattle.std.proofs.Common.{Err, refl}
use Rattle.xv_base.specs.declared.keys.Span.{Span}
use Rattle.xv_pool.specs.declared.fault.PoolFault.TheVariants.{NoRoot, NoFrame, ReservedBusy}
use Rattle.xv_pool.specs.FrameList.{up_from}
use Rattle.xv_pool.specs.Marks.{marked_from}
use Rattle.xv_base.specs.Range.{meets}
use Rattle.xv_pool.specs.Resources.{Resources, fresh, tested}

span : ℕ → ℕ → Span
span start len = record { start = start; len = len }

frames_in_order : up_from 64 4 ≡ (64 ∷ 65 ∷ 66 ∷ 67 ∷ [])
unfolding up_from
frames_in_order = refl

frames_by_marks : marked_from 64 (false ∷ true ∷ true ∷ false ∷ true ∷ []) ≡ (65 ∷ 66 ∷ 68 ∷ [])
unfolding marked_from
frames_by_marks = refl

-- ranges that touch, that share one byte, one in the other, empty ones, and one that ends at 2^64
pairs : List Bool
pairs =
    meets (span 0x1000 0x1000) (span 0x2000 0x1000)
    ∷ meets (span 0x1000 0x1001) (span 0x2000 0x1000)
    ∷ meets (span 0x1800 0x10) (span 0x1000 0x1000)
    ∷ meets (span 0x1800 0) (span 0x1000 0x1000)
    ∷ meets (span 0x1000 0) (span 0x1000 0)
    ∷ meets (span (2 ^ 64 - 1) 1) (span 0 (2 ^ 64))
    ∷ []

the_pairs : pairs ≡ (false ∷ true ∷ true ∷ false ∷ false ∷ true ∷ [])
unfolding pairs span
the_pairs = refl

-- two of five frames are free and one range is held
used : Resources
used = record (fresh 64 5 (span 0x10000 0x10000)) {
  free = 66 ∷ 68 ∷ [];
  held = span 0x11000 0x1000 ∷ [];
}

-- the same with every root out
rootless : Resources
rootless = record used { roots = replicate 16 true }

had : tested used 2 (span 0x10000 0x1000 ∷ span 0x12000 0x1000 ∷ []) ≡ Ok tt
unfolding used span
had = refl

root_first : tested rootless 3 (span 0x11000 1 ∷ []) ≡ Err NoRoot
unfolding rootless used span
root_first = refl

then_frames : tested used 3 (span 0x11000 1 ∷ []) ≡ Err (NoFrame 3 2)
unfolding used span
then_frames = refl

then_ranges : tested used 2 (span 0x10000 0x1000 ∷ span 0x11FFF 1 ∷ []) ≡ Err ReservedBusy
unfolding used span
then_ranges = refl
