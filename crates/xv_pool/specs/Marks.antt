-- A pool's frames as they are kept: a mark for each, the first mark being that of the first frame.
use Rattle.std.specs.Prelude.{◌≡◌, ℕ, suc, ◌+◌, ◌^◌, ◌<◌, ◌≤◌, Bool, true, false, List, [], ◌∷◌}
use Rattle.std.specs.Prelude.{length, slice_index_or}
use Rattle.xv_pool.specs.declared.frames.Frames.TheInside.{Inside}
use Rattle.xv_pool.specs.FrameList.{FrameList}

-- the frames whose marks are set
unfoldable pub marked_from : ℕ → List Bool → List ℕ
marked_from first [] = []
marked_from first (true ∷ marks) = first ∷ marked_from (suc first) marks
marked_from first (false ∷ marks) = marked_from (suc first) marks

abbrev pub frame_list : Inside → FrameList
frame_list frames = record {
  first = frames.first;
  count = length frames.marks.items;
  free = marked_from frames.first frames.marks.items;
}

pub record IsMarked (frames : Inside) : Type 0 where
  pub small : frames.first + length frames.marks.items ≤ 2 ^ 32
  pub counted : frames.free ≡ length (marked_from frames.first frames.marks.items)
  pub next : (place : ℕ) → place < frames.next
      → slice_index_or frames.marks.items place false ≡ false
