-- A host without guests: what can be had of it, and the guest that is born then.
use Rattle.std.proofs.Common.{◌≡◌, ℕ, Bool, true, false, cond, ltb, List, [], ◌∷◌, length}
use Rattle.std.proofs.Common.{replicate, get_or, Option, Some, None, is_some, Result, Ok, Err, refl}
use Rattle.std.proofs.Common.{ap, ◌∙◌, arith, sum_by, inl, inr}
use Rattle.std.specs.List.{list_any}
use Rattle.std.proofs.lemmas.Bool.{cond-false, cases_lt}
use Rattle.std.proofs.lemmas.List.Folds.{sum_by-replicate}
use Rattle.std.proofs.lemmas.List.Sums.{sum_by-cons}
use Rattle.xv_base.specs.declared.keys.Span.{Span}
use Rattle.xv_base.specs.Range.{meets_one}
use Rattle.xv_pool.specs.FrameList.{up_from}
use Rattle.xv_pool.specs.Resources.{all_out, tested}
use Rattle.xv_pool.specs.declared.fault.PoolFault.{PoolFault}
use Rattle.xv_pool.specs.declared.fault.PoolFault.TheVariants.{NoFrame, ReservedBusy}
use Rattle.xv_gstage.proofs.OwnLemmas.{length-up}
use Rattle.xv_guest.specs.Guest.{Guest}
use Rattle.xv_guest.specs.Held.{Held}
use Rattle.xv_guest.specs.Frames.{reserved_ranges}
use Rattle.xv_host.specs.Host.{Host, IsHosted}
use Rattle.xv_host.specs.Places.{Places, IsLeast, amount_at, amount_of, guest_at}
use Rattle.xv_top.proofs.HostLemmas.{no_guest}

count_ones : {X : Type 0} (xs : List X) → sum_by (λ x. 1) xs ≡ length xs
count_ones [] = refl
count_ones {X} (x ∷ xs) =
    let sum = sum_by-cons (λ (y : X). 1) x xs in
    let rest = count_ones xs in
    omega arith

no_amount : (amount : Held → ℕ) → amount_of amount (replicate 16 None) ≡ 0
no_amount amount = sum_by-replicate (amount_at amount) 16 None

no_element : {X : Type 0} (xs : List X) → length xs ≡ 0 → xs ≡ []
no_element [] none = refl
no_element (x ∷ xs) none = absurd (omega arith)

first_root : (roots : List Bool) → length roots ≡ 16 → get_or roots 0 false ≡ false
    → all_out roots ≡ false
first_root [] sixteen free = absurd (omega arith)
first_root (true ∷ roots) sixteen free = cc
first_root (false ∷ roots) sixteen free = refl

no_range : (ranges : List Span) → list_any (meets_one []) ranges ≡ false
no_range [] = refl
no_range (range ∷ ranges) = no_range ranges

taken_none : (o : Option Guest) → is_some o ≡ true → o ≡ None → ⊥
taken_none None some none = cc
taken_none (Some g) some none = cc

module _ (host : Host) (bytes : List ℕ) (hosted : IsHosted host bytes)
    (empty : host.guests ≡ replicate 16 None) where
  nothing_of : (amount : Held → ℕ) → amount_of amount host.guests ≡ 0
  nothing_of amount = ap (amount_of amount) empty ∙ no_amount amount

  -- every frame is free
  pub all_free : length host.pool.free ≡ host.pool.count
  all_free =
      let frames = hosted.parted.frames (λ frame. 1) in
      let none = nothing_of (λ h. sum_by (λ frame. 1) h.frames) in
      let free = count_ones host.pool.free in
      let pool = count_ones (up_from host.pool.first host.pool.count) in
      let count = length-up host.pool.first host.pool.count in
      omega arith

  no_held : host.pool.held ≡ []
  no_held =
      let ranges = hosted.parted.ranges (λ range. 1) in
      let none = nothing_of (λ h. sum_by (λ range. 1) (reserved_ranges h.regions)) in
      let held = count_ones host.pool.held in
      no_element host.pool.held (omega arith)

  a_root : all_out host.pool.roots ≡ false
  a_root =
      first_root host.pool.roots hosted.parted.sound.sixteen
      (hosted.parted.roots 0 ∙ ap is_some (ap (λ (p : Places). guest_at p 0) empty ∙ no_guest 0))

  -- only frames can be wanting
  pub tested_empty : (n : ℕ) (ranges : List Span) → tested host.pool n ranges
      ≡ cond (ltb host.pool.count n) (Err (NoFrame n host.pool.count)) (Ok tt)
  tested_empty n ranges =
      let few : ℕ → Result (Unit {0}) PoolFault =
      λ free. cond (ltb free n) (Err (NoFrame n free)) (Ok tt) in
      cond-false (all_out host.pool.roots) _ _ a_root
      ∙ (ap (λ (held : List Span). cond (ltb (length host.pool.free) n)
      (Err (NoFrame n (length host.pool.free)))
      (cond (list_any (meets_one held) ranges) (Err ReservedBusy) (Ok tt))) no_held
      ∙ (ap (λ (busy : Bool). cond (ltb (length host.pool.free) n)
      (Err (NoFrame n (length host.pool.free))) (cond busy (Err ReservedBusy) (Ok tt)))
      (no_range ranges)
      ∙ ap few all_free))

  -- the least key is the first
  pub first_key : (key : ℕ) → IsLeast host.guests key → key ≡ 0
  first_key key least = elim (cases_lt 0 key) [
    | inl more ↦ absurd (taken_none (guest_at host.guests 0) (least.least 0 more)
        (ap (λ (p : Places). guest_at p 0) empty ∙ no_guest 0))
    | inr first ↦ omega arith
  ]
