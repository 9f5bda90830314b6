-- Reserved frames lie in the area over which the regions were judged.
use Rattle.std.proofs.Common.{◌≡◌, ℕ, suc, ◌+◌, ◌*◌, ◌/◌, ◌%◌, ◌<◌, ◌≤◌, ◌==◌, leb}
use Rattle.std.proofs.Common.{List}
use Rattle.std.proofs.Common.{[], ◌∷◌, length, get_or, take, None, refl, sym, ap}
use Rattle.std.proofs.Common.{subst, arith, inl, inr}
use Rattle.std.specs.Prelude.{IsTrue}
use Rattle.std.specs.List.{Contains}
use Rattle.std.proofs.lemmas.Bool.Decides.{nat_tests}
use Rattle.std.proofs.lemmas.List.Elements.{Contains-append_cases}
use Rattle.xv_base.specs.declared.keys.Span.{Span}
use Rattle.xv_base.specs.Range.{lies_in}
use Rattle.xv_pool.specs.FrameList.{up_from}
use Rattle.xv_region.specs.declared.plan.Kind.{Kind}
use Rattle.xv_region.specs.declared.plan.Kind.TheVariants.{Ram, Rom, Reserved, Alias, Device}
use Rattle.xv_region.specs.declared.plan.Region.{Region}
use Rattle.xv_region.specs.Cell.{bytes_at}
use Rattle.xv_region.specs.Need.{is_mapped}
use Rattle.xv_region.specs.Rules.{Accepted, are_sound, first_fault, is_good_host, kind_fault}
use Rattle.xv_region.proofs.RuleLemmas.{both, kind-kept}
use Rattle.xv_gstage.specs.Own.{kind_reserved, pages, reserved_frames}
use Rattle.xv_gstage.proofs.CellsOf.{whole-at}
use Rattle.xv_gstage.proofs.Lists.{at-place}
use Rattle.xv_gstage.proofs.OwnLemmas.{length-up, up-get}
use Rattle.xv_gstage.proofs.OwnPages.{unless-kept, zero_of}
use Rattle.std.proofs.lemmas.Option.{get_or_from_slice_get}

-- a number of a row
in-up : (first n f : ℕ) → Contains (up_from first n) f → (first ≤ f) × (f < first + n)
in-up first n f has =
    let at = at-place (up_from first n) f has in
    let long = length-up first n in
    let within = at.1.within in
    let low : at.0 < n = omega arith in
    let value = get_or_from_slice_get (up_from first n) at.0 (first + at.0) 0
    (up-get first n at.0 low) in
    let is = at.1.is in
    (omega arith, omega arith)

-- the region of a reserved frame
from-region : (rs : List Region) (f : ℕ) → Contains (reserved_frames rs) f
    → (k : ℕ) × (r : Region) × (k < length rs) × (r ≡ get_or rs k r)
    × Contains (kind_reserved r.kind (pages r)) f
unfolding reserved_frames
from-region [] f (k, lt, e) = absurd (omega arith)
from-region (r ∷ rs) f has =
    elim (Contains-append_cases (kind_reserved r.kind (pages r)) (reserved_frames rs) f has) [
      | inl at ↦ (0, r, omega arith, refl, at)
      | inr at ↦
          let found = from-region rs f at in
          (suc found.0, found.1, omega (arith, found.2), found.3, found.4)
    ]

module _ (area : Span) (regions : List Region) (sound : IsTrue (are_sound regions))
    (faultless : first_fault area regions ≡ None) where
  accepted : Accepted regions
  accepted = record { area = area; sound = sound; faultless = faultless }

  pub reserved-in : (f : ℕ) → Contains (reserved_frames regions) f
      → (area.start ≤ 4096 * f) × (4096 * f + 4096 ≤ area.start + area.len)
  reserved-in f has =
      let found = from-region regions f has in
      by found.0 found.1 found.2 found.3 found.1.kind refl found.4
    where
      by : (k : ℕ) (r : Region) → k < length regions → r ≡ get_or regions k r → (kind : Kind)
          → r.kind ≡ kind → Contains (kind_reserved kind (pages r)) f
          → (area.start ≤ 4096 * f) × (4096 * f + 4096 ≤ area.start + area.len)
      by k r lt read Ram is (i, less, e) = absurd (omega arith)
      by k r lt read Rom is (i, less, e) = absurd (omega arith)
      by k r lt read (Alias target) is (i, less, e) = absurd (omega arith)
      by k r lt read (Device kind) is (i, less, e) = absurd (omega arith)
      by k r lt read (Reserved host) is at =
          let P : Region → Type 0 =
          λ x. kind_fault area regions (take k regions) k x.size x.kind ≡ None in
          let Q : Kind → Type 0 =
          λ x. kind_fault area regions (take k regions) k r.size x ≡ None in
          let rule = subst Q is (subst P (sym read) (kind-kept area regions faultless k r lt)) in
          let good = unless-kept (is_good_host area (take k regions) host r.size) _ rule in
          let parts = both (host % 4096 == 0) _ good in
          let inside = both (lies_in (bytes_at host r.size) area) _ parts.1 in
          let ends = both (leb area.start host) (leb (host + r.size) (area.start + area.len))
          inside.0 in
          let low = ends.0 in
          let high = ends.1 in
          let even : host % 4096 ≡ 0 = zero_of (host % 4096) parts.0 in
          let len = (whole-at regions accepted k r lt read).len (ap is_mapped is) in
          let bounds = in-up (host / 4096) (r.size / 4096) f at in
          let first = bounds.0 in
          let last = bounds.1 in
          let start : area.start ≤ host = grind (arith, nat_tests) in
          let end : host + r.size ≤ area.start + area.len = grind (arith, nat_tests) in
          (omega arith, omega arith)
