-- Bounds of regions are multiples of 8, so that an aligned access lies in one exactly where its
-- first byte does.
use Rattle.std.proofs.Common.{◌≡◌, ℕ, suc, ◌+◌, ◌-◌, ◌%◌, ◌<◌, ◌≤◌, ◌&&◌, Bool, true, false}
use Rattle.std.proofs.Common.{leb, cond, List, [], ◌∷◌, length, get_or, refl, sym, ap, ◌∙◌, arith}
use Rattle.std.proofs.Common.{inl, inr, None, ◌⊎◌, ◌==◌, ltb, take}
use Rattle.std.specs.List.{list_any}
use Rattle.xv_base.specs.declared.keys.Span.{Span}
use Rattle.xv_region.specs.declared.fault.RegionFault.{RegionFault}
use Rattle.xv_region.specs.declared.fault.RegionFault.TheVariants.{BadAlias}
use Rattle.std.proofs.lemmas.Bool.{cases_lt, le-leb, lt-leb}
use Rattle.std.proofs.lemmas.Bool.Decides.{nat_tests}
use Rattle.xv_step.proofs.WidthLemmas.{IsWidth, One, Two, Four, Eight, IsAccess}
use Rattle.xv_region.specs.declared.cell.Cell.{Cell}
use Rattle.xv_region.specs.declared.plan.Kind.{Kind}
use Rattle.xv_region.specs.declared.plan.Kind.TheVariants.{Ram, Rom, Reserved, Alias, Device}
use Rattle.xv_region.specs.declared.plan.Region.{Region}
use Rattle.xv_region.specs.Cell.{bytes_at, cell, cell_from, cell_within, holds, nowhere, one_hop}
use Rattle.xv_region.specs.Rules.{Accepted, is_sound, unit_of, kind_fault, holds_own, is_good_alias}
use Rattle.xv_region.specs.Rules.{unless, address_end, is_sound_kind}
use Rattle.xv_region.proofs.RuleLemmas.{all-at, both, kind-kept, sound-each}

-- bounds that are multiples of 8
abbrev pub TargetIsWhole : Kind → Type 0
TargetIsWhole Ram = Unit {0}
TargetIsWhole Rom = Unit {0}
TargetIsWhole (Reserved host) = Unit {0}
TargetIsWhole (Alias target) = target % 8 ≡ 0
TargetIsWhole (Device kind) = Unit {0}

pub record HasBounds (r : Region) : Type 0 where
  pub base : r.base % 8 ≡ 0
  pub size : r.size % 8 ≡ 0
  pub target : TargetIsWhole r.kind

-- ---- one region

last_same : (width a end : ℕ) → IsWidth width → a % width ≡ 0 → end % 8 ≡ 0
    → leb (a + width) end ≡ leb (a + 1) end
last_same _ a end One aligned whole = refl
last_same _ a end Two aligned whole = elim (cases_lt a end) [
  | inl inside ↦ le-leb (a + 2) end (omega arith) ∙ sym (le-leb (a + 1) end (omega arith))
  | inr past ↦ lt-leb (a + 2) end (omega arith) ∙ sym (lt-leb (a + 1) end (omega arith))
]
last_same _ a end Four aligned whole = elim (cases_lt a end) [
  | inl inside ↦ le-leb (a + 4) end (omega arith) ∙ sym (le-leb (a + 1) end (omega arith))
  | inr past ↦ lt-leb (a + 4) end (omega arith) ∙ sym (lt-leb (a + 1) end (omega arith))
]
last_same _ a end Eight aligned whole = elim (cases_lt a end) [
  | inl inside ↦ le-leb (a + 8) end (omega arith) ∙ sym (le-leb (a + 1) end (omega arith))
  | inr past ↦ lt-leb (a + 8) end (omega arith) ∙ sym (lt-leb (a + 1) end (omega arith))
]

holds_same : (width a : ℕ) (r : Region) → IsAccess width a → HasBounds r
    → holds (bytes_at a width) r ≡ holds (bytes_at a 1) r
holds_same width a r access bounds =
    ap (λ (b : Bool). leb r.base a && b)
    (last_same width a (r.base + r.size) access.bytes access.aligned
    (omega (arith, bounds.base, bounds.size)))

aligned_sum : (width base target a : ℕ) → IsWidth width → a % width ≡ 0 → base % 8 ≡ 0
    → target % 8 ≡ 0 → base ≤ a → (target + (a - base)) % width ≡ 0
aligned_sum _ base target a One aligned from to le = omega arith
aligned_sum _ base target a Two aligned from to le = omega arith
aligned_sum _ base target a Four aligned from to le = omega arith
aligned_sum _ base target a Eight aligned from to le = omega arith

-- ---- all regions

module _ (hop hop' : ℕ → Cell) (width : ℕ) (agree : (b : ℕ) → IsAccess width b → hop b ≡ hop' b)
  where
    within_same : (i a base : ℕ) (kind : Kind) → IsAccess width a → base % 8 ≡ 0 → base ≤ a
        → TargetIsWhole kind
        → cell_within hop i (a - base) kind ≡ cell_within hop' i (a - base) kind
    within_same i a base Ram access from le whole = refl
    within_same i a base Rom access from le whole = refl
    within_same i a base (Reserved host) access from le whole = refl
    within_same i a base (Alias target) access from le whole =
        agree (target + (a - base)) (record {
          bytes = access.bytes;
          aligned = aligned_sum width base target a access.bytes access.aligned from whole le;
        })
    within_same i a base (Device kind) access from le whole = refl

    first_or : (b : Bool) (r : Region) (a : ℕ) → holds (bytes_at a 1) r ≡ b → {one two : Cell}
        → one ≡ two → (i : ℕ) → IsAccess width a → HasBounds r
        → cond b (cell_within hop i (a - r.base) r.kind) one
        ≡ cond b (cell_within hop' i (a - r.base) r.kind) two
    first_or true r a is same i access bounds =
        let parts = both (leb r.base a) (leb (a + 1) (r.base + r.size)) is in
        let low = parts.0 in
        let le : r.base ≤ a = grind (arith, nat_tests) in
        within_same i a r.base r.kind access bounds.base le bounds.target
    first_or false r a is same i access bounds = same

    pub cells_same : (i a : ℕ) (rs : List Region) → IsAccess width a
        → ((k : ℕ) (d : Region) → k < length rs → HasBounds (get_or rs k d))
        → cell_from hop i rs a width ≡ cell_from hop' i rs a 1
    cells_same i a [] access bounds = refl
    cells_same i a (r ∷ rs) access bounds =
        let here = bounds 0 r (omega arith) in
        let rest = cells_same (suc i) a rs access (λ k d inside. bounds (suc k) d (omega arith)) in
        ap (λ (b : Bool). cond b (cell_within hop i (a - r.base) r.kind)
        (cell_from hop (suc i) rs a width)) (holds_same width a r access here)
        ∙ first_or (holds (bytes_at a 1) r) r a refl rest i access here

pub cell_first : (regions : List Region) (width a : ℕ)
    → ((k : ℕ) (d : Region) → k < length regions → HasBounds (get_or regions k d))
    → IsAccess width a → cell regions a width ≡ cell regions a 1
unfolding cell
cell_first regions width a bounds access =
    cells_same (one_hop regions width) (one_hop regions 1) width
    (λ b at. cells_same nowhere nowhere width (λ c on. refl) 0 b regions at bounds)
    0 a regions access bounds

-- ---- what regions are that may stand together

by_unit : (unit n : ℕ) → (n % unit == 0) ≡ true → (unit ≡ 4096) ⊎ (unit ≡ 8) → n % 8 ≡ 0
by_unit _ n is (inl refl) = let zero_is : n % 4096 ≡ 0 = grind (arith, nat_tests) in omega arith
by_unit _ n is (inr refl) = grind (arith, nat_tests)

unit_is : (kind : Kind) → (unit_of kind ≡ 4096) ⊎ (unit_of kind ≡ 8)
unit_is Ram = inl refl
unit_is Rom = inl refl
unit_is (Reserved host) = inl refl
unit_is (Alias target) = inl refl
unit_is (Device kind) = inr refl

target_whole : (area : Span) (regions earlier : List Region) (j size : ℕ) (kind : Kind)
    → kind_fault area regions earlier j size kind ≡ None → TargetIsWhole kind
target_whole area regions earlier j size Ram none = tt
target_whole area regions earlier j size Rom none = tt
target_whole area regions earlier j size (Reserved host) none = tt
target_whole area regions earlier j size (Alias target) none =
    by_unit 4096 target (both (target % 4096 == 0)
    (list_any (holds_own (bytes_at target size)) regions)
    (kept (is_good_alias regions target size) (BadAlias j) none)).0 (inl refl)
  where
    kept : (b : Bool) (fault : RegionFault) → unless b fault ≡ None → b ≡ true
    kept true fault none = refl
    kept false fault none = cc
target_whole area regions earlier j size (Device kind) none = tt

pub accepted_bounds : (regions : List Region) → Accepted regions → (k : ℕ) (d : Region)
    → k < length regions → HasBounds (get_or regions k d)
accepted_bounds regions accepted k d within =
    let r = get_or regions k d in
    let sound = all-at is_sound regions k d (sound-each regions accepted.sound) within in
    let most = both ((r.base % unit_of r.kind == 0 && r.size % unit_of r.kind == 0)
    && (ltb 0 r.size && leb (r.base + r.size) address_end)) (is_sound_kind r.kind) sound in
    let parts = both (r.base % unit_of r.kind == 0 && r.size % unit_of r.kind == 0)
    (ltb 0 r.size && leb (r.base + r.size) address_end) most.0 in
    let bounds = both (r.base % unit_of r.kind == 0) (r.size % unit_of r.kind == 0) parts.0 in
    record {
      base = by_unit (unit_of r.kind) r.base bounds.0 (unit_is r.kind);
      size = by_unit (unit_of r.kind) r.size bounds.1 (unit_is r.kind);
      target = target_whole accepted.area regions (take k regions) k r.size r.kind
          (kind-kept accepted.area regions accepted.faultless k d within);
    }
