-- A run of turns, turn by turn: what is made so far, continued by the rest, is the whole.
use Rattle.std.proofs.Common.{◌≡◌, ℕ, suc, ◌+◌, ◌-◌, ◌<◌, ◌≤◌, Bool, true, false, List, [], ◌∷◌}
use Rattle.std.proofs.Common.{length, refl, sym, ap, ◌∙◌, arith}
use Rattle.std.proofs.lemmas.List.{length-append}
use Rattle.xv_region.specs.Plan.{Plan}
use Rattle.xv_lone.specs.Machine.{Machine}
use Rattle.xv_lone.specs.Trail.{IsTrail, NoPiece, OneMore}
use Rattle.xv_lone.specs.Turn.{Core, steps, visited}
use Rattle.xv_host.specs.Host.{Host}
use Rattle.xv_top.specs.World.{World, GuestEntry, RunSoFar, one_turn, pick, run_from, run_of}
use Rattle.xv_top.specs.Manager.{going, IsTurn, IsRunEnd, idle_of}

-- a run of so many turns from first has come to now, with so many made
pub record IsGoing (turns made : ℕ) (first now : World)
    (idle taken_first taken_now : ℕ) : Type 0 where
  pub work : ℕ
  pub entries : List GuestEntry
  pub whole : run_from (turns - made) (going now idle work entries) ≡ run_of turns first
  pub counted : taken_first + work ≤ taken_now

-- and as long as it entered nothing into a journal, host memory and the host are as at first
pub record IsKept (turns made : ℕ) (first now : World) (idle taken_first taken_now : ℕ)
    (bytes_first bytes_now : List ℕ) (host_first host_now : Host) : Type 0 where
  pub so_far : IsGoing turns made first now idle taken_first taken_now
  pub all : so_far.entries ≡ [] → (bytes_now ≡ bytes_first) × (host_now ≡ host_first)

pub turns_start : (turns : ℕ) (first : World) (taken : ℕ)
    → IsGoing turns 0 first first 0 taken taken
unfolding run_of
turns_start turns first taken = record {
  work = 0;
  entries = [];
  whole = ap (λ n. run_from n (going first 0 0 [])) (let e : turns - 0 ≡ turns = omega arith in e);
  counted = omega arith;
}

run_more : (n m : ℕ) (r : RunSoFar) → m ≡ suc n
    → run_from m r ≡ run_from n (one_turn r (pick r.world))
unfolding run_from
run_more n m r e = ap (λ k. run_from k r) e

run_done : (r : RunSoFar) → run_from 0 r ≡ r
unfolding run_from
run_done r = refl

pub turns_go_on : (turns made : ℕ) (first now after : World)
    (idle taken_first taken_now taken_after : ℕ)
    → made < turns → (so_far : IsGoing turns made first now idle taken_first taken_now)
    → (turned : Bool)
    → IsTurn now after turned (taken_after - taken_now) idle so_far.work so_far.entries
    → taken_now ≤ taken_after
    → IsGoing turns (made + 1) first after (idle + idle_of turned) taken_first taken_after
turns_go_on turns made first now after idle taken_first taken_now taken_after more so_far
    turned turn later =
    let before = going now idle so_far.work so_far.entries in
    let r = one_turn before (pick now) in
    let e : r ≡ going after (idle + idle_of turned) r.work r.entries =
    ap (λ w. record r { world = w }) turn.world
    ∙ ap (λ i. record { world = after; idle = i; work = r.work; entries = r.entries }) turn.idle in
    record {
      work = r.work;
      entries = r.entries;
      whole = ap (run_from (turns - (made + 1))) (sym e)
          ∙ (sym (run_more (turns - (made + 1)) (turns - made) before (omega arith))
          ∙ so_far.whole);
      counted = omega (arith, turn.work, so_far.counted, later);
    }

pub kept_goes_on : (turns made : ℕ) (first now after : World)
    (idle taken_first taken_now taken_after : ℕ) (bytes_first bytes_now bytes_after : List ℕ)
    (host_first host_now host_after : Host) → made < turns
    → (kept : IsKept turns made first now idle taken_first taken_now bytes_first bytes_now
    host_first host_now)
    → (turned : Bool)
    → IsTurn now after turned (taken_after - taken_now) idle kept.so_far.work kept.so_far.entries
    → taken_now ≤ taken_after
    → ((earlier : RunSoFar) → (one_turn earlier (pick now)).entries ≡ [] → (earlier.entries ≡ [])
    × ((bytes_after ≡ bytes_now) × (host_after ≡ host_now)))
    → IsKept turns (made + 1) first after (idle + idle_of turned) taken_first taken_after
    bytes_first bytes_after host_first host_after
unfolding turns_go_on
kept_goes_on turns made first now after idle taken_first taken_now taken_after bytes_first bytes_now
    bytes_after host_first host_now host_after more kept turned turn later stays = record {
      so_far = turns_go_on turns made first now after idle taken_first taken_now taken_after more
          kept.so_far turned turn later;
      all = λ none. let same = stays (going now idle kept.so_far.work kept.so_far.entries) none in
          let earlier = kept.all same.0 in
          (same.1.0 ∙ earlier.0, same.1.1 ∙ earlier.1);
    }

-- no turn is left
pub turns_end : (turns made : ℕ) (first now : World) (idle taken_first taken_now : ℕ) → turns ≤ made
    → IsGoing turns made first now idle taken_first taken_now
    → IsRunEnd (run_of turns first) now idle taken_first taken_now
turns_end turns made first now idle taken_first taken_now all so_far =
    let last : run_of turns first ≡ going now idle so_far.work so_far.entries =
    sym so_far.whole
    ∙ (ap (λ n. run_from n (going now idle so_far.work so_far.entries))
    (let e : turns - made ≡ 0 = omega arith in e)
    ∙ run_done (going now idle so_far.work so_far.entries)) in
    record {
      world = ap (λ r. r.world) last;
      idle = ap (λ r. r.idle) last;
      work = omega (arith, ap (λ r. r.work) last, so_far.counted);
    }

-- and the entries are those of the whole run
pub entries_end : (turns made : ℕ) (first now : World) (idle taken_first taken_now : ℕ)
    → turns ≤ made → (so_far : IsGoing turns made first now idle taken_first taken_now)
    → (run_of turns first).entries ≡ so_far.entries
entries_end turns made first now idle taken_first taken_now all so_far =
    sym (ap (λ r. r.entries) so_far.whole)
    ∙ (ap (λ n. (run_from n (going now idle so_far.work so_far.entries)).entries)
    (let e : turns - made ≡ 0 = omega arith in e)
    ∙ ap (λ r. r.entries) (run_done (going now idle so_far.work so_far.entries)))

-- a turn is idle once
pub idle_few : (idle : Bool) → idle_of idle ≤ 1
idle_few true = omega arith
idle_few false = omega arith

-- ---- the lone steps of a turn

-- each has a piece of the trail
trail_counts : {E : Type 0} (shown : E → Core) (cores : List Core) (trail : List E)
    → IsTrail shown cores trail → length cores ≤ length trail
trail_counts shown _ _ NoPiece = omega arith
trail_counts shown _ _ (OneMore cores trail core piece earlier all) =
    omega (
      arith,
      length-append cores (core ∷ []),
      length-append trail piece,
      all.some,
      trail_counts shown cores trail earlier,
    )

pub steps_few : {E : Type 0} (shown : E → Core) (plan : Plan) (h t : ℕ) (m : Machine)
    (trail : List E) → IsTrail shown (visited plan h t m) trail → steps plan h t m ≤ length trail
unfolding steps
steps_few shown plan h t m trail pieces = trail_counts shown (visited plan h t m) trail pieces
