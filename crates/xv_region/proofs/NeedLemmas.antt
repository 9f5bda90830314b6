-- The blocks that a region touches, and which of them are new.
use Rattle.std.proofs.Common.{◌≡◌, ◌≢◌, ℕ, suc, ◌+◌, ◌-◌, ◌*◌, ◌/◌, ◌^◌, ◌<◌, ◌≤◌, Bool, true}
use Rattle.std.proofs.Common.{false, ◌&&◌, ◌||◌, not, cond, List, [], ◌∷◌, length, get_or, take}
use Rattle.std.proofs.Common.{refl, sym, subst, ap, ◌∙◌, arith}
use Rattle.std.specs.Prelude.{IsTrue, nat_le}
use Rattle.std.specs.List.{list_all, list_any}
use Rattle.std.proofs.Math.Nat.{suc-mul, div-lt_iff_lt-mul, le-div_iff_mul-le, div-le_self}
use Rattle.std.proofs.Math.Nat.{div-mul-le_self}
use Rattle.std.proofs.lemmas.Nat.{mul-le}
use Rattle.std.proofs.lemmas.Bool.Decides.{nat_tests}
use Rattle.std.proofs.lemmas.List.Folds.{list_any_more}
use Rattle.xv_base.specs.Range.{meets}
use Rattle.xv_region.specs.declared.plan.Kind.{Kind}
use Rattle.xv_region.specs.declared.plan.Kind.TheVariants.{Ram, Rom, Reserved, Alias, Device}
use Rattle.xv_region.specs.declared.plan.Region.{Region}
use Rattle.xv_region.specs.Cell.{bytes_at, span_of}
use Rattle.xv_region.specs.Need.{blocks_touched, count_below, is_mapped, is_new, one_if_new}
use Rattle.xv_region.specs.Need.{own_pages, own_size, touches}
use Rattle.xv_region.specs.Rules.{Accepted, are_sound, shares}
use Rattle.xv_region.proofs.CountLemmas.{one, count-le, count-same, count-either, count-none}
use Rattle.xv_region.proofs.CountLemmas.{count-one, count-range, count-past}
use Rattle.xv_region.proofs.RuleLemmas.{both, sound-bounded, sound-some, apart}

-- ---- pages

own-le : (size : ℕ) (kind : Kind) → own_size size kind / 4096 ≤ size
own-le size Ram = div-le_self size 4096
own-le size Rom = div-le_self size 4096
own-le size (Reserved host) = omega arith
own-le size (Alias target) = omega arith
own-le size (Device kind) = omega arith

pub own-small : (rs : List Region) (k : ℕ) (region : Region) → IsTrue (are_sound rs) → k < length rs
    → region ≡ get_or rs k region → own_pages region ≤ 2 ^ 41
own-small rs k region sound within read =
    let P : Region → Type 0 = λ r. own_pages r ≤ 2 ^ 41 in
    let r = get_or rs k region in
    let less = own-le r.size r.kind in
    let end = sound-bounded rs k region sound within in
    let small : own_pages r ≤ 2 ^ 41 = omega arith in
    subst P (sym read) small

-- ---- one block and one region

module _ (size : ℕ) (some : 0 < size) (k base z : ℕ) (any : 0 < z) where
  block_end : suc k * size ≡ k * size + size
  block_end = suc-mul k size

  before : k < base / size → meets (bytes_at (k * size) size) (bytes_at base z) ≡ false
  before less =
      let high : suc k * size ≤ base =
      (le-div_iff_mul-le {k = size} {x = suc k} {y = base} some).0 (omega arith) in
      let end = block_end in
      grind (arith, nat_tests)

  after : (base + z - 1) / size < k → meets (bytes_at (k * size) size) (bytes_at base z) ≡ false
  after more =
      let low : base + z - 1 < k * size =
      (div-lt_iff_lt-mul {k = size} {x = base + z - 1} {y = k} some).0 more in
      grind (arith, nat_tests)

  within : base / size ≤ k → k ≤ (base + z - 1) / size
      → meets (bytes_at (k * size) size) (bytes_at base z) ≡ true
  within first last =
      let low : base < suc k * size =
      (div-lt_iff_lt-mul {k = size} {x = base} {y = suc k} some).0 (omega arith) in
      let high : k * size ≤ base + z - 1 =
      (le-div_iff_mul-le {k = size} {x = k} {y = base + z - 1} some).0 last in
      let end = block_end in
      grind (arith, nat_tests)

  -- a block between the first and the last lies in the region
  inner : base / size < k → k < (base + z - 1) / size → (base < k * size)
      × (k * size + size < base + z)
  inner first last =
      let low : base < k * size = (div-lt_iff_lt-mul {k = size} {x = base} {y = k} some).0 first in
      let high : suc k * size ≤ base + z - 1 =
      (le-div_iff_mul-le {k = size} {x = suc k} {y = base + z - 1} some).0 (omega arith) in
      let end = block_end in
      (low, omega arith)

-- ---- one region after those that share no byte with it

no_byte : (a n : ℕ) (r other : Region) → r.base < a → a + n < r.base + r.size
    → shares r other ≡ false → meets (bytes_at a n) (span_of other) ≡ false
no_byte a n r other low high apart = grind (arith, nat_tests)

not_touched : (size k : ℕ) (r : Region) (rs : List Region) → r.base < k * size
    → k * size + size < r.base + r.size → list_any (shares r) rs ≡ false
    → list_any (touches size k) rs ≡ false
not_touched size k r [] low high apart = refl
not_touched size k r (other ∷ rs) low high apart =
    let parts = neither (shares r other) (list_any (shares r) rs) apart in
    let here = no_byte (k * size) size r other low high parts.0 in
    let rest = not_touched size k r rs low high parts.1 in
    by (is_mapped other.kind) here rest
  where
    neither : (a b : Bool) → (a || b) ≡ false → (a ≡ false) × (b ≡ false)
    neither true b is = cc
    neither false b is = (refl, is)

    by : (mapped : Bool) → meets (bytes_at (k * size) size) (span_of other) ≡ false
        → list_any (touches size k) rs ≡ false
        → ((mapped && meets (bytes_at (k * size) size) (span_of other))
        || list_any (touches size k) rs) ≡ false
    by true here rest = rw (here, rest) refl
    by false here rest = rest

module _ (size : ℕ) (some : 0 < size) (earlier : List Region) (r : Region) (any : 0 < r.size) where
  abbrev first : ℕ
  first = r.base / size

  abbrev last : ℕ
  last = (r.base + r.size - 1) / size

  both_ways : (a b c : Bool) → a ≡ false → ((c && a) && not b) ≡ false
  both_ways a b true is = rw is refl
  both_ways a b false is = refl

  early : (k : ℕ) → k < first → is_new size earlier r k ≡ false
  early k less =
      both_ways _ (list_any (touches size k) earlier) (is_mapped r.kind)
      (before size some k r.base r.size any less)

  late : (k : ℕ) → last < k → is_new size earlier r k ≡ false
  late k more =
      both_ways _ (list_any (touches size k) earlier) (is_mapped r.kind)
      (after size some k r.base r.size any more)

  module _ (mapped : is_mapped r.kind ≡ true) where
    touched : (k : ℕ) → first ≤ k → k ≤ last → touches size k r ≡ true
    touched k low high = rw mapped (within size some k r.base r.size any low high)

    new_at : (k : ℕ) → first ≤ k → k ≤ last
        → one (is_new size earlier r k) ≡ one_if_new size earlier k
    new_at k low high = rw (touched k low high) (turned (list_any (touches size k) earlier))
      where
        turned : (b : Bool) → one (not b) ≡ cond b 0 1
        turned true = refl
        turned false = refl

    module _ (apart : list_any (shares r) earlier ≡ false) where
      between : (k : ℕ) → first < k → k < last → is_new size earlier r k ≡ true
      between k low high =
          let bounds = inner size some k r.base r.size any low high in
          rw (
            touched k (omega arith) (omega arith),
            not_touched size k r earlier bounds.0 bounds.1 apart,
          ) refl

    last_below : (n : ℕ) → r.base + r.size ≤ n * size → last < n
    last_below n end =
        (div-lt_iff_lt-mul {k = size} {x = r.base + r.size - 1} {y = n} some).1 (omega arith)

    pub one-block : (n : ℕ) → r.base + r.size ≤ n * size → first ≡ last
        → one_if_new size earlier first ≡ count_below (is_new size earlier r) n
    one-block n end same =
        let high = last_below n end in
        sym (count-one (is_new size earlier r) first n (omega arith) early
        (λ k more. late k (omega arith)) ∙ new_at first (omega arith) (omega arith))

    pub many-blocks : (n : ℕ) → list_any (shares r) earlier ≡ false → r.base + r.size ≤ n * size
        → first < last
        → one_if_new size earlier first + (last - first - 1) + one_if_new size earlier last
        ≡ count_below (is_new size earlier r) n
    many-blocks n apart end order =
        let range = count-range (is_new size earlier r) first last n order (last_below n end) early
        late (between apart) in
        let at_first = new_at first (omega arith) (omega arith) in
        let at_last = new_at last (omega arith) (omega arith) in
        omega arith

  pub no-blocks : (n : ℕ) → is_mapped r.kind ≡ false → 0 ≡ count_below (is_new size earlier r) n
  no-blocks n mapped = sym (count-none (is_new size earlier r) n (λ k below. rw mapped refl))

-- the order of the first and the last block
pub block-order : (base z size : ℕ) → 0 < size → 0 < z → base / size ≢ (base + z - 1) / size
    → base / size < (base + z - 1) / size
block-order base z size some any differ =
    let low : base / size * size ≤ base = div-mul-le_self base size in
    let le : base / size ≤ (base + z - 1) / size =
    (le-div_iff_mul-le {k = size} {x = base / size} {y = base + z - 1} some).1 (omega arith) in
    omega arith

-- ---- one region more

pub blocks-more : (size n : ℕ) (regions : List Region) (j : ℕ) (region : Region)
    → j < length regions → region ≡ get_or regions j region
    → blocks_touched size n (take (j + 1) regions) ≡ blocks_touched size n
    (take j regions) + count_below (is_new size (take j regions) region) n
unfolding blocks_touched
blocks-more size n regions j region within read =
    let here = λ (k : ℕ). list_any_more (touches size k) regions j region within
    ∙ ap (λ r. list_any (touches size k) (take j regions) || touches size k r) (sym read) in
    count-same (λ k. list_any (touches size k) (take (j + 1) regions))
    (λ k. list_any (touches size k) (take j regions) || touches size k region) n here
    ∙ count-either (λ k. list_any (touches size k) (take j regions)) (λ k. touches size k region) n

pub blocks-none : (size n : ℕ) → blocks_touched size n [] ≡ 0
unfolding blocks_touched
blocks-none size n = count-none (λ k. false) n (λ k below. refl)

pub blocks-le : (size n : ℕ) (regions : List Region) → blocks_touched size n regions ≤ n
unfolding blocks_touched
blocks-le size n regions = count-le (λ k. list_any (touches size k) regions) n

-- ---- each of the regions that may stand together

module _ (regions : List Region) (accepted : Accepted regions) (j : ℕ) (region : Region)
    (within : j < length regions) (read : region ≡ get_or regions j region) where
  pub accepted-apart : list_any (shares region) (take j regions) ≡ false
  accepted-apart =
      let P : Region → Type 0 = λ r. list_any (shares r) (take j regions) ≡ false in
      subst P (sym read) (apart accepted.area regions accepted.faultless j region within)

  pub accepted-bounded : region.base + region.size ≤ 2 ^ 41
  accepted-bounded =
      let P : Region → Type 0 = λ r. r.base + r.size ≤ 2 ^ 41 in
      subst P (sym read) (sound-bounded regions j region accepted.sound within)

  pub accepted-some : 0 < region.size
  accepted-some =
      let P : Region → Type 0 = λ r. 0 < r.size in
      subst P (sym read) (sound-some regions j region accepted.sound within)

-- ---- blocks behind the end of every region

abbrev pub ends_by : ℕ → List Region → Bool
ends_by end rs = list_all (λ r. nat_le (r.base + r.size) end) rs

behind : (size m k : ℕ) (r : Region) → nat_le (r.base + r.size) (m * size) ≡ true → m ≤ k
    → meets (bytes_at (k * size) size) (span_of r) ≡ false
behind size m k r end from =
    let less : m * size ≤ k * size = mul-le m size k size from (omega arith) in
    grind (arith, nat_tests)

none_behind : (size m k : ℕ) (rs : List Region) → ends_by (m * size) rs ≡ true → m ≤ k
    → list_any (touches size k) rs ≡ false
none_behind size m k [] end from = refl
none_behind size m k (r ∷ rs) end from =
    let parts = both (nat_le (r.base + r.size) (m * size)) (ends_by (m * size) rs) end in
    by (is_mapped r.kind) (behind size m k r parts.0 from) (none_behind size m k rs parts.1 from)
  where
    by : (mapped : Bool) → meets (bytes_at (k * size) size) (span_of r) ≡ false
        → list_any (touches size k) rs ≡ false
        → ((mapped && meets (bytes_at (k * size) size) (span_of r)) || list_any (touches size k) rs)
        ≡ false
    by true here rest = rw (here, rest) refl
    by false here rest = rw rest refl

pub ends-later : (low high : ℕ) (rs : List Region) → nat_le low high ≡ true → ends_by low rs ≡ true
    → ends_by high rs ≡ true
ends-later low high [] order end = refl
ends-later low high (r ∷ rs) order end =
    let parts = both (nat_le (r.base + r.size) low) (ends_by low rs) end in
    let here = parts.0 in
    let later : nat_le (r.base + r.size) high ≡ true = grind (arith, nat_tests) in
    rw (later, ends-later low high rs order parts.1) refl

pub blocks-past : (size m n : ℕ) (rs : List Region) → nat_le m n ≡ true
    → ends_by (m * size) rs ≡ true → blocks_touched size n rs ≡ blocks_touched size m rs
unfolding blocks_touched
blocks-past size m n rs less end =
    let order : m ≤ n = grind (arith, nat_tests) in
    count-past (λ k. list_any (touches size k) rs) m n order
    (λ k from. none_behind size m k rs end from)
