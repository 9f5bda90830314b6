-- A table is left: those in use hang at blocks that have memory, each at one of its own, and the
-- list has as many tables as there are such blocks.
use Rattle.std.proofs.Common.{◌≡◌, ◌≢◌, ℕ, zero, suc, ◌+◌, ◌-◌, ◌^◌, ◌<◌, ◌≤◌, ◌==◌}
use Rattle.std.proofs.Common.{Bool, true, false, ◌&&◌, ◌||◌, not, cond, List, length, get_or, take}
use Rattle.std.proofs.Common.{nat_lt, refl, sym, ap, ◌∙◌, subst, arith, inl, inr}
use Rattle.std.proofs.Common.{length-drop}
use Rattle.std.specs.List.{AllPairs, Contains, list_any}
use Rattle.std.proofs.lemmas.Bool.{cases_eq}
use Rattle.std.proofs.lemmas.Bool.Decides.{nat_tests}
use Rattle.xv_region.specs.declared.plan.Region.{Region}
use Rattle.xv_region.specs.Need.{blocks_touched, count_below, need, touches}
use Rattle.xv_region.proofs.CountLemmas.{count-either, count-one, count-same}
use Rattle.xv_gstage.specs.Blocks.{HangsAt, IsBlock, IsTouched, block_count, block_size}
use Rattle.xv_gstage.specs.Own.{pages_of, table_frames}
use Rattle.xv_gstage.proofs.Lists.{one-place, to-take}

-- ---- counting

-- the test, and not this number
abbrev without : ℕ → (ℕ → Bool) → ℕ → Bool
without h test k = test k && not (k == h)

is_itself : (h : ℕ) → (h == h) ≡ true
is_itself h = grind (arith, nat_tests)

is_other : (k h : ℕ) → k ≢ h → (k == h) ≡ false
is_other k h ne = grind (arith, nat_tests)

pub count-without : (test : ℕ → Bool) (h n : ℕ) → h < n → test h ≡ true
    → count_below (without h test) n + 1 ≡ count_below test n
count-without test h n lt here =
    let parts = count-either (λ k. k == h) test n in
    let all : count_below (λ k. k == h || test k) n ≡ count_below test n =
    count-same (λ k. k == h || test k) test n joined in
    let one : count_below (λ k. k == h) n ≡ 1 =
    count-one (λ k. k == h) h n lt (λ k less. is_other k h (omega arith))
    (λ k more. is_other k h (omega arith)) ∙ ap (λ b. cond b 1 0) (is_itself h) in
    omega arith
  where
    joined : (k : ℕ) → (k == h || test k) ≡ test k
    joined k = elim (cases_eq k h) [
      | inl e ↦
          let passes : test k ≡ true = ap test e ∙ here in
          either (k == h) (test k) passes
      | inr ne ↦ ap (λ b. b || test k) (is_other k h ne)
    ]
      where
        either : (a b : Bool) → b ≡ true → (a || b) ≡ b
        either true b e = sym e
        either false b e = refl

-- as many have homes as there are different homes that pass the test
pub homes : (m n : ℕ) (test : ℕ → Bool) (At : ℕ → ℕ → Type 0)
    → ((i : ℕ) → i < m → (k : ℕ) × (k < n) × (test k ≡ true) × At i k)
    → ((i j k : ℕ) → At i k → At j k → i < m → j < m → i ≡ j)
    → m ≤ count_below test n
homes zero n test At home one = omega arith
homes (suc m) n test At home one =
    let last = home m (omega arith) in
    let h = last.0 in
    let less = homes m n (without h test) At
    (λ i lt.
    let at = home i (omega arith) in
    (at.0, at.1, apart i lt at.0 at.2 at.3 h last.3, at.3))
    (λ i j k a b lt lt'. one i j k a b (omega arith) (omega arith)) in
    let more = count-without test h n last.1 last.2 in
    omega arith
  where
    apart : (i : ℕ) → i < m → (k : ℕ) → test k ≡ true → At i k → (h : ℕ) → At m h
        → without h test k ≡ true
    apart i lt k passes at h there = elim (cases_eq k h) [
      | inl e ↦
          let same = one i m k at (subst (At m) (sym e) there) (omega arith) (omega arith) in
          absurd (omega arith)
      | inr ne ↦ rw (passes, is_other k h ne) refl
    ]

-- ---- blocks by one number: those of 1 GiB, then those of 2 MiB

abbrev number : ℕ → ℕ → ℕ
number zero index = index
number (suc depth) index = 2048 + index

abbrev is_touched : List Region → ℕ → ℕ → Bool
is_touched regions depth index = list_any (touches (block_size depth) index) regions

unfoldable touched_at : List Region → ℕ → Bool
touched_at regions k =
    cond (nat_lt k 2048) (is_touched regions 0 k) (is_touched regions 1 (k - 2048))

at-upper : (regions : List Region) (k : ℕ) → k < 2048
    → touched_at regions k ≡ is_touched regions 0 k
unfolding touched_at
at-upper regions k lt =
    let test : nat_lt k 2048 ≡ true = grind (arith, nat_tests) in
    ap (λ b. cond b (is_touched regions 0 k) (is_touched regions 1 (k - 2048))) test

at-lower : (regions : List Region) (k : ℕ)
    → touched_at regions (2048 + k) ≡ is_touched regions 1 k
unfolding touched_at
at-lower regions k =
    let test : nat_lt (2048 + k) 2048 ≡ false = grind (arith, nat_tests) in
    let back : 2048 + k - 2048 ≡ k = omega arith in
    ap (λ b. cond b (is_touched regions 0 (2048 + k)) (is_touched regions 1 (2048 + k - 2048)))
    test ∙ ap (is_touched regions 1) back

-- the count of both is the sum of the counts
count-front : (f g : ℕ → Bool) (n : ℕ) → ((k : ℕ) → k < n → f k ≡ g k)
    → count_below f n ≡ count_below g n
unfolding count_below
count-front f g zero same = refl
count-front f g (suc n) same =
    rw (same n (omega arith), count-front f g n (λ k lt. same k (omega arith))) refl

count-behind : (f g : ℕ → Bool) (m n : ℕ) → ((k : ℕ) → f (m + k) ≡ g k)
    → count_below f (m + n) ≡ count_below f m + count_below g n
unfolding count_below
count-behind f g m zero same =
    let e : m + 0 ≡ m = omega arith in
    ap (count_below f) e ∙ plus (count_below f m)
  where
    plus : (n : ℕ) → n ≡ n + 0
    plus n = omega arith
count-behind f g m (suc n) same =
    let e : m + suc n ≡ suc (m + n) = omega arith in
    let before = count-behind f g m n same in
    ap (count_below f) e
    ∙ ap (λ b. cond b (count_below f (m + n) + 1) (count_below f (m + n))) (same n)
    ∙ by (g n) before
  where
    by : (b : Bool) → count_below f (m + n) ≡ count_below f m + count_below g n
        → cond b (count_below f (m + n) + 1) (count_below f (m + n))
        ≡ count_below f m + cond b (count_below g n + 1) (count_below g n)
    by true is = omega arith
    by false is = is

upper_count : (regions : List Region) (n : ℕ)
    → blocks_touched (2 ^ 30) n regions ≡ count_below (is_touched regions 0) n
unfolding blocks_touched
upper_count regions n = refl

lower_count : (regions : List Region) (n : ℕ)
    → blocks_touched (2 ^ 21) n regions ≡ count_below (is_touched regions 1) n
unfolding blocks_touched
lower_count regions n = refl

-- with the numbers as variables, so that nothing computes
both_counts : (regions : List Region) (m n : ℕ) → m ≡ 2048
    → count_below (touched_at regions) (m + n)
    ≡ blocks_touched (2 ^ 30) m regions + blocks_touched (2 ^ 21) n regions
both_counts regions m n is =
    let front : count_below (touched_at regions) m ≡ count_below (is_touched regions 0) m =
    count-front (touched_at regions) (is_touched regions 0) m
    (λ k lt. at-upper regions k (omega arith)) in
    let behind = count-behind (touched_at regions) (is_touched regions 1) m n
    (λ k. ap (λ (b : ℕ). touched_at regions (b + k)) is ∙ at-lower regions k) in
    let a = upper_count regions m in
    let b = lower_count regions n in
    omega arith

need_is : (regions : List Region) → need regions
    ≡ pages_of regions + blocks_touched (2 ^ 30) (2 ^ 11) regions
    + blocks_touched (2 ^ 21) (2 ^ 20) regions
unfolding need
need_is regions = refl

pub need-pages : (regions : List Region) → pages_of regions ≤ need regions
need-pages regions = let e = need_is regions in omega arith

tables_count : (regions : List Region) (frames : List ℕ) → length frames ≡ need regions
    → length (table_frames regions frames) ≡ count_below (touched_at regions) (2048 + 1048576)
tables_count regions frames enough =
    let long = length-drop (pages_of regions) frames in
    let all = need_is regions in
    let parts = both_counts regions 2048 1048576 refl in
    omega arith

-- ---- a table is left

module _ (regions : List Region) (frames : List ℕ) (enough : length frames ≡ need regions)
    (once : AllPairs (λ a b. a ≢ b) (table_frames regions frames)) (bytes : List ℕ)
    (root used : ℕ) (room : used ≤ length (table_frames regions frames))
    (hung : (table : ℕ) → Contains (take used (table_frames regions frames)) table
    → (depth : ℕ) × (index : ℕ) × HangsAt bytes root table depth index)
    (single : (table other depth index : ℕ) → HangsAt bytes root table depth index
    → HangsAt bytes root other depth index → table ≡ other)
    (touched : (table depth index : ℕ) → HangsAt bytes root table depth index
    → IsTouched regions depth index) where
  tables : List ℕ
  tables = table_frames regions frames

  record Home (i k : ℕ) : Type 0 where
    depth : ℕ
    index : ℕ
    hangs : HangsAt bytes root (get_or (table_frames regions frames) i 0) depth index
    numbered : k ≡ number depth index

  number-touched : (depth index : ℕ) → IsBlock depth index → IsTouched regions depth index
      → (number depth index < 2048 + 1048576) × (touched_at regions (number depth index) ≡ true)
  unfolding block_count
  number-touched zero index block t =
      let below = block.below in
      (omega arith, at-upper regions index block.below ∙ t)
  number-touched (suc zero) index block t =
      let below = block.below in
      (omega arith, at-lower regions index ∙ t)
  number-touched (suc (suc depth)) index block t =
      let above = block.above in absurd (omega arith)

  number-one : (depth index other place : ℕ) → IsBlock depth index → IsBlock other place
      → number depth index ≡ number other place → (depth ≡ other) × (index ≡ place)
  unfolding block_count
  number-one zero index zero place a b e = (refl, e)
  number-one zero index (suc other) place a b e =
      let below = a.below in absurd (omega arith)
  number-one (suc depth) index zero place a b e =
      let below = b.below in absurd (omega arith)
  number-one (suc depth) index (suc other) place a b e =
      let one = a.above in let two = b.above in (omega arith, omega arith)

  home : (i : ℕ) → i < used → (k : ℕ) × (k < 2048 + 1048576)
      × (touched_at regions k ≡ true) × Home i k
  home i lt =
      let at = hung (get_or (table_frames regions frames) i 0)
      (to-take used (table_frames regions frames) (get_or (table_frames regions frames) i 0) i lt
      (record { within = omega arith; is = refl })) in
      let facts = number-touched at.0 at.1 at.2.block
      (touched (get_or (table_frames regions frames) i 0) at.0 at.1 at.2) in (
        number at.0 at.1,
        facts.0,
        facts.1,
        record { depth = at.0; index = at.1; hangs = at.2; numbered = refl },
      )

  one_home : (i j k : ℕ) → Home i k → Home j k → i < used → j < used → i ≡ j
  one_home i j k a b lt lt' =
      let same = number-one a.depth a.index b.depth b.index a.hangs.block b.hangs.block
      (sym a.numbered ∙ b.numbered) in
      let there : HangsAt bytes root (get_or (table_frames regions frames) j 0) a.depth a.index =
      rw (same.0, same.1) b.hangs in
      let value = single (get_or (table_frames regions frames) i 0)
      (get_or (table_frames regions frames) j 0) a.depth a.index a.hangs there in
      one-place (table_frames regions frames) once (get_or (table_frames regions frames) j 0) i j
      (record { within = omega arith; is = value })
      (record { within = omega arith; is = refl })

  -- where a block that has memory has no table
  pub table-left : (D K : ℕ) → IsBlock D K → IsTouched regions D K
      → ((table : ℕ) → HangsAt bytes root table D K → ⊥)
      → used < length (table_frames regions frames)
  table-left D K block t none =
      let n = 2048 + 1048576 in
      let at = number-touched D K block t in
      let less = homes used (2048 + 1048576) (without (number D K) (touched_at regions)) Home
      (λ i lt.
      let h = home i lt in
      (h.0, h.1, rw (h.2, is_other h.0 (number D K) (elsewhere i h.0 h.3)) refl, h.3))
      one_home in
      let more = count-without (touched_at regions) (number D K) (2048 + 1048576) at.0 at.1 in
      let all = tables_count regions frames enough in
      omega arith
    where
      elsewhere : (i k : ℕ) → Home i k → k ≢ number D K
      elsewhere i k h e =
          let same = number-one h.depth h.index D K h.hangs.block block (sym h.numbered ∙ e) in
          let here : HangsAt bytes root (get_or (table_frames regions frames) i 0) D K =
          rw (sym same.0, sym same.1) h.hangs in
          none (get_or (table_frames regions frames) i 0) here
