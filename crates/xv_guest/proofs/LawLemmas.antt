-- What a store into a guest's memory changes, and what it leaves.
use Rattle.std.proofs.Common.{◌≡◌, ℕ, zero, suc, ◌+◌, ◌*◌, ◌<◌, ◌≤◌, List, [], ◌∷◌}
use Rattle.std.proofs.Common.{length, get_or}
use Rattle.std.proofs.Common.{sym, subst, arith, Some}
use Rattle.std.specs.List.{sum_by, slice_get}
use Rattle.std.proofs.lemmas.List.Sums.{get_or-le-sum_by}
use Rattle.std.proofs.lemmas.Option.{get_or_from_slice_get, slice_get_within}
use Rattle.xv_mem.specs.Bytes.{put}
use Rattle.xv_mem.proofs.Puts.{length-put}
use Rattle.xv_lone.specs.Memory.{store_place}
use Rattle.xv_gstage.specs.Own.{frame_at, frame_of, region_frames}
use Rattle.xv_guest.specs.Frames.{hits}
use Rattle.xv_guest.specs.Held.{Held, holds, memory_of, HasMemory, HasOrder, IsHeld, Within}
use Rattle.xv_guest.specs.Held.{WithinMemory}
use Rattle.xv_guest.proofs.FrameLemmas.{hits-get_or}
use Rattle.xv_guest.proofs.MemoryLemmas.{under-held, frame-put_other, lists-put}
use Rattle.xv_guest.proofs.WithinLemmas.{memory_held, memory_within}

-- a frame that stands at a place of lists
record IsAt (lists : List (List ℕ)) (i k frame : ℕ) : Type 0 where
  list : i < length lists
  place : k < length (get_or lists i [])
  here : get_or (get_or lists i []) k 0 ≡ frame

at_place : (lists : List (List ℕ)) (i k frame : ℕ) → frame_at (slice_get lists i) k ≡ Some frame
    → IsAt lists i k frame
at_place [] i k frame is = absurd cc
at_place (xs ∷ lists) zero k frame is = record {
  list = omega arith;
  place = slice_get_within xs k frame is;
  here = get_or_from_slice_get xs k frame 0 is;
}
at_place (xs ∷ lists) (suc i) k frame is =
    let later = at_place lists i k frame is in
    record {
      list = let within = later.list in omega arith;
      place = later.place;
      here = later.here;
    }

module _ (g : Held) (region index frame : ℕ)
    (is : frame_of g.regions g.frames region index ≡ Some frame) where
  at : IsAt (region_frames g.regions g.frames) region index frame
  unfolding frame_of
  at = at_place (region_frames g.regions g.frames) region index frame is

  frame_among : 0 < sum_by (hits frame) (region_frames g.regions g.frames)
  frame_among =
      let lists = region_frames g.regions g.frames in
      let xs = get_or lists region [] in
      let some = hits-get_or xs index 0 at.place in
      let P : ℕ → Type 0 = λ f. 0 < hits f xs in
      let here = subst P at.here some in
      let among = get_or-le-sum_by (hits frame) lists region [] at.list in
      omega arith

  frame_held : 0 < holds frame g
  frame_held = let some = frame_among in let held = under-held frame g in omega arith

  module _ (bytes : List ℕ) (memory : HasMemory bytes g) (offset : ℕ) (piece : List ℕ)
      (fits : offset + length piece ≤ 4096) where
    pub put_there : memory_of (put bytes (4096 * frame + offset) piece) g
        ≡ store_place (memory_of bytes g)
        (record { region = region; offset = 4096 * index + offset }) piece
    unfolding memory_of
    put_there =
        let lists = region_frames g.regions g.frames in
        let inside = memory.inside frame frame_held in
        let held = under-held frame g in
        let once = memory.once frame in
        lists-put bytes frame offset piece inside fits lists region index
        (λ other some. let all = under-held other g in memory.inside other (omega arith))
        (omega arith) at.list at.place at.here

    pub put_under : WithinMemory g bytes (put bytes (4096 * frame + offset) piece)
    put_under =
        let inside = memory.inside frame frame_held in
        record {
          whole = length-put bytes (4096 * frame + offset) piece (omega arith);
          others = λ other within none.
              frame-put_other bytes frame offset piece inside fits other within (λ same.
              let P : ℕ → Type 0 =
              λ f. 0 < sum_by (hits f) (region_frames g.regions g.frames) in
              let some = subst P (sym same) frame_among in
              omega arith);
        }

    pub put_within : Within g bytes (put bytes (4096 * frame + offset) piece)
    put_within = memory_within g bytes (put bytes (4096 * frame + offset) piece) put_under

    pub put_held : HasOrder bytes g → IsHeld (put bytes (4096 * frame + offset) piece) g
    put_held order =
        memory_held g bytes (put bytes (4096 * frame + offset) piece) put_under
        (record { memory = memory; order = order })
