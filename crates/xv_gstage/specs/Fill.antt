-- What one fill does.
use Rattle.std.specs.Prelude.{◌≡◌, ◌≢◌, ℕ, List}
use Rattle.xv_pte.specs.GStage.{led}
use Rattle.xv_region.specs.declared.plan.Region.{Region}
use Rattle.xv_gstage.specs.Memory.{SameOutside}
use Rattle.xv_gstage.specs.Own.{own, table_frames}

pub record IsFill (old new : List ℕ) (root : ℕ) (regions : List Region) (frames : List ℕ)
    (page : ℕ) : Type 0 where
  -- the page is led to its own frame
  pub filled : led new root page ≡ own regions frames page
  -- every other one is led as before
  pub others : (other : ℕ) → other ≢ page → led new root other ≡ led old root other
  -- no byte outside of the root and of the table frames changes
  pub outside : SameOutside old new root (table_frames regions frames)
