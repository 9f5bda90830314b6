-- A change of one guest's lone machine, which keeps what it holds.
use Rattle.std.proofs.Common.{◌≡◌, ℕ, zero, suc, ◌<◌, List, [], ◌∷◌, length, set, refl, sym}
use Rattle.std.proofs.Common.{Option, ap, ◌∙◌, arith}
use Rattle.std.proofs.Common.{Some, None, is_some, subst}
use Rattle.std.proofs.lemmas.List.{get_or-set_other}
use Rattle.xv_step.specs.Bus.{Spot}
use Rattle.xv_lone.specs.Journal.{Change, after_load, stored_at}
use Rattle.xv_lone.specs.Memory.{Place, spot_at}
use Rattle.xv_lone.specs.Machine.{Machine}
use Rattle.xv_guest.specs.Guest.{Guest, held_of, lone_of, with_machine}
use Rattle.xv_host.specs.Change.{HasBecome, IsChange, changed}
use Rattle.xv_host.specs.Holdings.{IsPlaced, IsStep, OthersStay}
use Rattle.xv_host.specs.Host.{Host, IsHosted}
use Rattle.xv_host.specs.Join.{IsGoodFor}
use Rattle.xv_host.specs.Places.{Places, guest_at}
use Rattle.xv_host.proofs.HoldingLemmas.{holdings_step, others_stay, within}

module _ (old new : List ℕ) (host : Host) (k : ℕ) (g : Guest) (m : Machine)
    (at : guest_at host.guests k ≡ Some g) (hosted : IsHosted host old)
    (good : IsGoodFor (held_of g) old new) where
  low : k < 16
  low =
      let inside = within host.guests k g at in
      omega (arith, hosted.parted.sixteen)

  placed : (g' : Guest) → Some (with_machine g m) ≡ Some g' → IsPlaced new k g'
  placed g' is =
      let same : with_machine g m ≡ g' = cc in
      subst (λ (h : Guest). IsPlaced new k h) same (record {
        key = hosted.parted.key k g at;
        root = hosted.parted.root k g at;
        accepted = hosted.parted.accepted k g at;
        owned = good.held;
      })

  step : IsStep old new host.pool host.pool k (Some g) (Some (with_machine g m))
  step = record {
    moves = record {
      frames = λ weight. refl;
      root = hosted.parted.roots k ∙ ap is_some at;
      roots = λ j other. refl;
      ranges = λ weight. refl;
      first = refl;
      count = refl;
      area = refl;
      sound = hosted.parted.sound;
    };
    whole = good.within.whole;
    placed = placed;
    others = λ frame inside none. good.within.others frame inside (omega arith);
    cleared = λ frame some none. absurd (omega arith);
  }

  pub hosted_after : IsHosted (record host { guests = set host.guests k (Some (with_machine g m)) })
      new
  hosted_after = holdings_step old new host.pool host.pool host.guests k (Some g)
      (Some (with_machine g m)) low at hosted step

  pub others_after : OthersStay k old new host.guests
      (set host.guests k (Some (with_machine g m)))
  others_after = others_stay old new host.pool host.pool host.guests k (Some g)
      (Some (with_machine g m)) low at hosted step

-- the entry that came
pub is_change : (change : Change) (k : ℕ) (g : Guest) (host new : Host) (before after : List ℕ)
    → guest_at host.guests k ≡ Some g
    → new ≡ record host {
      guests = set host.guests k (Some (with_machine g (changed change g before)));
    }
    → lone_of (with_machine g (changed change g before)) after ≡ changed change g before
    → OthersStay k before after host.guests new.guests
    → IsChange change k host new before after
is_change change k g host new before after at host_is machine others = record {
  guest = λ g' is.
      let P : Guest → Type 0 = λ h. HasBecome (changed change h before) k h host new after in
      let same : g ≡ g' = cc in
      subst P same (record { host = host_is; machine = machine });
  others = others;
}

-- a guest that a change made, in its place
module _ (change : Change) (k : ℕ) (old new : List ℕ) (host : Host) (g g' : Guest)
    (at : guest_at host.guests k ≡ Some g) (is : g' ≡ with_machine g (changed change g old))
    (machine : lone_of g' new ≡ changed change g old) where
  abbrev after : Guest → Host
  after h = record host { guests = set host.guests k (Some h) }

  pub entry_made : OthersStay k old new host.guests (set host.guests k (Some g'))
      → IsChange change k host (after g') old new
  entry_made others =
      is_change change k g host (after g') old new at (ap after is)
      (ap (λ (h : Guest). lone_of h new) (sym is) ∙ machine) others

  pub entry_stays : IsHosted host old → IsGoodFor (held_of g) old new
      → IsChange change k host (after g') old new
  entry_stays hosted good =
      entry_made (subst (λ (h : Guest). OthersStay k old new host.guests
      (set host.guests k (Some h))) (sym is)
      (others_after old new host k g (changed change g old) at hosted good))

  pub entry_hosted : IsHosted host old → IsGoodFor (held_of g) old new → IsHosted (after g') new
  entry_hosted hosted good =
      subst (λ (h : Guest). IsHosted (after h) new) (sym is)
      (hosted_after old new host k g (changed change g old) at hosted good)

-- a change that leaves the host's bytes
pub bytes_stay : (k : ℕ) (bytes : List ℕ) (places : Places) (g' : Guest)
    → OthersStay k bytes bytes places (set places k (Some g'))
bytes_stay k bytes places g' j g other is = (
  get_or-set_other places k j (Some g') None other ∙ is,
  record { bytes = λ frame some. refl; machine = refl; walks = λ page. refl },
)

-- ---- bytes that are put into its memory

-- a load changes nothing of the guest but its memory
pub load_keeps : (g : Guest) (gpa : ℕ) (piece bytes : List ℕ)
    → with_machine g (after_load g.plan gpa piece (lone_of g bytes)) ≡ g
load_keeps g gpa piece bytes = go (spot_at g.plan (length piece) gpa)
  where
    go : (o : Option (Spot Place)) → with_machine g (stored_at piece (lone_of g bytes) o) ≡ g
    go None = refl
    go (Some spot) = refl

pub same_place : (places : Places) (k : ℕ) (g : Guest) → guest_at places k ≡ Some g
    → set places k (Some g) ≡ places
same_place [] k g is = refl
same_place (p ∷ places) zero g is = ap (λ (q : Option Guest). q ∷ places) (sym is)
same_place (p ∷ places) (suc k) g is =
    ap (λ (qs : Places). p ∷ qs) (same_place places k g is)
