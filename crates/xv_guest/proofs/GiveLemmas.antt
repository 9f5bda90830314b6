-- What a guest gives back is zero, and nothing else changes.
use Rattle.std.proofs.Common.{◌≡◌, ℕ, ◌+◌, ◌*◌, ◌<◌, ◌≤◌, List, length, get_or, take}
use Rattle.std.proofs.Common.{sym, ap, ◌∙◌, arith, inl, inr, Some}
use Rattle.std.specs.List.{Contains, sum_by}
use Rattle.std.proofs.lemmas.Bool.{cases_eq}
use Rattle.std.proofs.lemmas.List.Sums.{sum_by_more_le}
use Rattle.xv_pool.proofs.SumLemmas.{absent-sum_by}
use Rattle.xv_region.specs.declared.plan.Region.{Region}
use Rattle.xv_gstage.specs.Memory.{IsZero, IsZeroRoot, AreZero, AreInside, SameOutside}
use Rattle.xv_gstage.specs.Own.{reserved_frames}
use Rattle.xv_guest.specs.Frames.{hits, IsInside, AreCleared}
use Rattle.xv_guest.specs.Guest.{Guest, held_of, root_or_none}
use Rattle.xv_guest.specs.Held.{Held, holds, Within}
use Rattle.xv_guest.proofs.FrameLemmas.{hit, hit_same, hits-up_from_inside}
use Rattle.xv_guest.proofs.HeldLemmas.{hits-Contains, Contains-hits, root-hits, root-place}
use Rattle.xv_guest.proofs.ClearLemmas.{zero_inside}
use Rattle.xv_guest.proofs.TakeLemmas.{same_frame}

-- a guest's holdings, by the numbers that were read of it
held_by : ℕ → List Region → List ℕ → Held
held_by root regions frames = record { root = root; regions = regions; frames = frames }

pub held_is : (g : Guest) (root : ℕ) (regions : List Region) (frames : List ℕ)
    → g.root ≡ Some root → regions ≡ g.plan.regions → frames ≡ g.frames
    → record { root = root; regions = regions; frames = frames } ≡ held_of g
unfolding held_by
held_is g root regions frames is_root is_map is_list =
    let number : root ≡ root_or_none g.root = sym (ap root_or_none is_root) in
    ap (λ (r : ℕ). held_by r regions frames) number
    ∙ ap (λ (rs : List Region). held_by (root_or_none g.root) rs frames) is_map
    ∙ ap (λ (fs : List ℕ). held_by (root_or_none g.root) g.plan.regions fs) is_list

module _ (old : List ℕ) (g : Held)
    (inside : (frame : ℕ) → 0 < holds frame g → IsInside old frame) where
  pub all_inside : AreInside (length old) g.root g.frames
  all_inside = record {
    root_inside =
        let some =
        hits-up_from_inside (4 * g.root + 3) (4 * g.root) 4 (omega arith) (omega arith) in
        let last = inside (4 * g.root + 3) (omega arith) in
        omega arith;
    inside = λ frame found.
        let some = hits-Contains frame g.frames found in inside frame (omega arith);
  }

  module _ (middle : List ℕ) (outside : SameOutside old middle g.root g.frames) where
    pub reserved_inside : (frame : ℕ) → 0 < hits frame (reserved_frames g.regions)
        → IsInside middle frame
    reserved_inside frame some =
        let was = inside frame (omega arith) in
        let whole = outside.whole in
        omega arith

    module _ (new : List ℕ) (of_root : IsZeroRoot middle g.root) (of_list : AreZero middle g.frames)
        (cleared : AreCleared middle new (reserved_frames g.regions)) where
      pub all_zero : (frame : ℕ) → 0 < holds frame g → IsZero new frame
      all_zero frame some =
          elim (cases_eq (hits frame (reserved_frames g.regions)) 0) [
            | inr there ↦ cleared.zero frame (omega arith)
            | inl none ↦
                (let was : IsZero middle frame =
                elim (cases_eq (hits frame g.frames) 0) [
                  | inr listed ↦ of_list frame (Contains-hits frame g.frames (omega arith))
                  | inl unlisted ↦ of_root frame (root-place frame g.root (omega arith))
                ] in
                cleared.others frame (zero_inside middle frame was) none ∙ was)
          ]

      pub all_within : Within g old new
      all_within = record {
        whole = cleared.whole ∙ outside.whole;
        others = λ frame within none.
            let whole = outside.whole in
            cleared.others frame (omega arith) (omega arith)
            ∙ same_frame old middle g.root g.frames frame outside within
            (λ same. (let some = root-hits frame g.root same in omega arith))
            (λ found. (let some = hits-Contains frame g.frames found in omega arith));
      }

-- ---- frames that are given to a pool one after another

pub next_hits : (frames : List ℕ) (i : ℕ) → i < length frames
    → hits (get_or frames i 0) (take i frames) + 1 ≤ hits (get_or frames i 0) frames
next_hits frames i within =
    let frame = get_or frames i 0 in
    let here = hit_same frame in
    let more = sum_by_more_le (hit frame) frames i 0 within in
    omega arith

pub next_out : (frames free now : List ℕ) (i : ℕ) → i < length frames
    → ((frame : ℕ) → hits frame frames + hits frame free ≤ 1)
    → ((weight : ℕ → ℕ) → sum_by weight now ≡ sum_by weight (take i frames) + sum_by weight free)
    → ¬ Contains now (get_or frames i 0)
next_out frames free now i within out sums =
    let frame = get_or frames i 0 in
    let one = out frame in
    let next = next_hits frames i within in
    let all = sums (hit frame) in
    absent-sum_by frame now (omega arith)
