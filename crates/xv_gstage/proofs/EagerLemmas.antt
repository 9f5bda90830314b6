-- Pages filled one after another, region by region.
use Rattle.std.proofs.Common.{◌≡◌, ℕ, ◌+◌, ◌*◌, ◌/◌, ◌<◌, ◌≤◌, Bool}
use Rattle.std.proofs.Common.{true, false, ◌&&◌, ◌||◌, cond, List, length, get_or, take}
use Rattle.std.proofs.Common.{None, refl, sym, ap, ◌∙◌, subst, arith, inl, inr, ◌⊎◌}
use Rattle.std.proofs.Common.{length-take}
use Rattle.std.specs.List.{list_any}
use Rattle.std.proofs.lemmas.Bool.{cases_lt, cases_eq}
use Rattle.std.proofs.lemmas.List.{get_or-take, take_all}
use Rattle.std.proofs.lemmas.List.Folds.{list_any_more}
use Rattle.xv_pte.specs.GStage.{IsTableOf, led}
use Rattle.xv_pte.proofs.WalkEmpty.{led_nowhere, no_table, zero_root}
use Rattle.xv_region.specs.declared.plan.Region.{Region}
use Rattle.xv_region.specs.Cell.{bytes_at, holds}
use Rattle.xv_region.specs.Need.{is_mapped}
use Rattle.xv_region.specs.Rules.{Accepted}
use Rattle.xv_region.proofs.RuleLemmas.{both}
use Rattle.xv_gstage.specs.Fill.{IsFill}
use Rattle.xv_gstage.specs.Memory.{AreZero, HasFrames, IsZeroRoot, SameOutside}
use Rattle.xv_gstage.specs.Own.{IsWhole, is_memory_page, maps_page, own, table_frames}
use Rattle.xv_gstage.specs.Tidy.{Tidy}
use Rattle.xv_gstage.proofs.CellsOf.{any-at, holds-parts, one-holds, some-at, to-holds}
use Rattle.xv_gstage.proofs.Lists.{in-take}
use Rattle.xv_gstage.proofs.OwnPages.{own-none}
use Rattle.xv_gstage.proofs.TreeLemmas.{table-of_hang}

pub outside-refl : (bytes : List ℕ) (root : ℕ) (frames : List ℕ)
    → SameOutside bytes bytes root frames
outside-refl bytes root frames = record { whole = refl; bytes = λ i off apart. refl }

pub outside-then : (a b c : List ℕ) (root : ℕ) (frames : List ℕ) → SameOutside a b root frames
    → SameOutside b c root frames → SameOutside a c root frames
outside-then a b c root frames x y = record {
  whole = y.whole ∙ x.whole;
  bytes = λ i off apart. y.bytes i off apart ∙ x.bytes i off apart;
}

-- what is so before the first fill
pub tidy-zero : (bytes : List ℕ) (root : ℕ) (regions : List Region) (frames : List ℕ)
    → IsZeroRoot bytes root → AreZero bytes (table_frames regions frames)
    → Tidy bytes root regions frames 0
tidy-zero bytes root regions frames zeros spare = record {
  room = omega arith;
  tables = λ table. (
    λ is. absurd (none table is),
    λ has. let at = in-take 0 (table_frames regions frames) table has in
        let low = at.1 in
        absurd (omega arith),
  );
  once = λ table depth index other place a b.
      absurd (none table (table-of_hang bytes root table depth index a));
  touched = λ table depth index h.
      absurd (none table (table-of_hang bytes root table depth index h));
  spare = spare;
}
  where
    none : (table : ℕ) → IsTableOf bytes root table → ⊥
    none = no_table bytes root (zero_root bytes root zeros)

pub unled-zero : (bytes : List ℕ) (root : ℕ) → IsZeroRoot bytes root → (page : ℕ)
    → led bytes root page ≡ None
unled-zero bytes root zeros page = led_nowhere bytes root (zero_root bytes root zeros) page

module _ (old : List ℕ) (root : ℕ) (regions : List Region) (frames : List ℕ) where
  -- ---- the pages of one region, as far as `page`

  pub record FilledTo (new : List ℕ) (first page used : ℕ) : Type 0 where
    pub tidy : Tidy new root regions frames used
    pub outside : SameOutside old new root (table_frames regions frames)
    pub led_in : (p : ℕ) → first ≤ p → p < page → led new root p ≡ own regions frames p
    pub led_out : (p : ℕ) → (p < first) ⊎ (page ≤ p) → led new root p ≡ led old root p

  pub filled-none : (first used : ℕ) → Tidy old root regions frames used
      → FilledTo old first first used
  filled-none first used tidy = record {
    tidy = tidy;
    outside = outside-refl old root (table_frames regions frames);
    led_in = λ p low high. absurd (omega arith);
    led_out = λ p out. refl;
  }

  pub filled-next : (new next : List ℕ) (first page used now : ℕ) → first ≤ page
      → FilledTo new first page used → IsFill new next root regions frames page
      → Tidy next root regions frames now → FilledTo next first (page + 1) now
  filled-next new next first page used now from f fill tidy = record {
    tidy = tidy;
    outside =
        outside-then old new next root (table_frames regions frames) f.outside fill.outside;
    led_in = λ p low high. elim (cases_eq p page) [
      | inl e ↦ subst (λ (k : ℕ). led next root k ≡ own regions frames k) (sym e) fill.filled
      | inr ne ↦ fill.others p ne ∙ f.led_in p low (omega arith)
    ];
    led_out = λ p out.
        fill.others p (λ e. elim out [ inl lt ↦ omega arith | inr le ↦ omega arith ])
        ∙ f.led_out p (elim out [ inl lt ↦ inl lt | inr le ↦ inr (omega arith) ]);
  }

  pub frames-after : (new : List ℕ) → SameOutside old new root (table_frames regions frames)
      → HasFrames (length old) root regions frames
      → HasFrames (length new) root regions frames
  frames-after new same has =
      subst (λ (n : ℕ). HasFrames n root regions frames) (sym same.whole) has

  -- ---- a region

  module _ (r : Region) (whole : IsWhole r) where
    pub page-in : (p : ℕ) → is_mapped r.kind ≡ true → r.base / 4096 ≤ p
        → p < r.base / 4096 + r.size / 4096 → maps_page p r ≡ true
    page-in p mapped low high =
        let start = whole.start mapped in
        let len = whole.len mapped in
        let here = to-holds (4096 * p) r (omega arith) (omega arith) in
        rw (mapped, here) refl

    page-bounds : (p : ℕ) → maps_page p r ≡ true
        → (r.base / 4096 ≤ p) × (p < r.base / 4096 + r.size / 4096)
    page-bounds p is =
        let parts = both (is_mapped r.kind) (holds (bytes_at (4096 * p) 1) r) is in
        let bounds = holds-parts (4096 * p) r parts.1 in
        let low = bounds.0 in
        let high = bounds.1 in
        let start = whole.start parts.0 in
        let len = whole.len parts.0 in
        (omega arith, omega arith)

    pub region-led : (new : List ℕ) (used : ℕ) → is_mapped r.kind ≡ true
        → FilledTo new (r.base / 4096) (r.base / 4096 + r.size / 4096) used → (p : ℕ)
        → led new root p ≡ cond (maps_page p r) (own regions frames p) (led old root p)
    region-led new used mapped f p = by (maps_page p r) refl
      where
        by : (b : Bool) → maps_page p r ≡ b
            → led new root p ≡ cond b (own regions frames p) (led old root p)
        by true e = let bounds = page-bounds p e in f.led_in p bounds.0 bounds.1
        by false e = elim (cases_lt p (r.base / 4096)) [
          | inl lt ↦ f.led_out p (inl lt)
          | inr le ↦ elim (cases_lt p (r.base / 4096 + r.size / 4096)) [
            | inl lt ↦ let is = page-in p mapped le lt in cc
            | inr ge ↦ f.led_out p (inr ge)
          ]
        ]

    pub region-unled : is_mapped r.kind ≡ false → (p : ℕ)
        → led old root p ≡ cond (maps_page p r) (own regions frames p) (led old root p)
    region-unled no_memory p =
        ap (λ b. cond b (own regions frames p) (led old root p)) (sym none)
      where
        none : maps_page p r ≡ false
        none = ap (λ b. b && holds (bytes_at (4096 * p) 1) r) no_memory

  -- ---- the regions, as far as number n

  pub record AllTo (new : List ℕ) (n used : ℕ) : Type 0 where
    pub tidy : Tidy new root regions frames used
    pub outside : SameOutside old new root (table_frames regions frames)
    pub led_in : (p : ℕ) → list_any (maps_page p) (take n regions) ≡ true
        → led new root p ≡ own regions frames p
    pub led_out : (p : ℕ) → list_any (maps_page p) (take n regions) ≡ false
        → led new root p ≡ None

  pub all-none : Tidy old root regions frames 0 → ((p : ℕ) → led old root p ≡ None)
      → AllTo old 0 0
  all-none tidy unled = record {
    tidy = tidy;
    outside = outside-refl old root (table_frames regions frames);
    led_in = λ p is. cc;
    led_out = λ p is. unled p;
  }

  module _ (accepted : Accepted regions) (n : ℕ) (r : Region) (lt : n < length regions)
      (read : r ≡ get_or regions n r) where
    -- no earlier region has a page of this one
    pub not-before : (p : ℕ) → maps_page p r ≡ true
        → list_any (maps_page p) (take n regions) ≡ false
    not-before p is = by (list_any (maps_page p) (take n regions)) refl
      where
        by : (b : Bool) → list_any (maps_page p) (take n regions) ≡ b
            → list_any (maps_page p) (take n regions) ≡ false
        by false e = e
        by true e =
            let found = some-at (maps_page p) (take n regions) e in
            let m = found.0 in
            let s = found.1 in
            let long = length-take n regions in
            let within = found.2 in
            let less : found.0 < n = omega arith in
            let s_read : found.1 ≡ get_or regions found.0 found.1 =
            found.3 ∙ get_or-take n regions found.0 found.1 less in
            let here = both (is_mapped r.kind) (holds (bytes_at (4096 * p) 1) r) is in
            let there =
            both (is_mapped found.1.kind) (holds (bytes_at (4096 * p) 1) found.1) found.4 in
            let same = one-holds regions accepted (4096 * p) n found.0 r found.1 lt (omega arith)
            read s_read here.1 there.1 in
            absurd (omega arith)

    pub memory-of : (p : ℕ) → maps_page p r ≡ true → is_memory_page regions p ≡ true
    unfolding is_memory_page
    memory-of p is = any-at (maps_page p) regions n r lt read is

    pub all-next : (new next : List ℕ) (used now : ℕ) → AllTo new n used
        → ((p : ℕ) → led next root p ≡ cond (maps_page p r) (own regions frames p) (led new root p))
        → SameOutside new next root (table_frames regions frames)
        → Tidy next root regions frames now → AllTo next (n + 1) now
    all-next new next used now a leads outside tidy = record {
      tidy = tidy;
      outside = outside-then old new next root (table_frames regions frames) a.outside outside;
      led_in = λ p is. into p (list_any (maps_page p) (take n regions)) (maps_page p r) refl refl
          (sym (more p) ∙ is);
      led_out = λ p is. out p (list_any (maps_page p) (take n regions)) (maps_page p r) refl refl
          (sym (more p) ∙ is);
    }
      where
        more : (p : ℕ) → list_any (maps_page p) (take (n + 1) regions)
            ≡ (list_any (maps_page p) (take n regions) || maps_page p r)
        more p =
            list_any_more (maps_page p) regions n r lt
            ∙ ap (λ (x : Region). list_any (maps_page p) (take n regions) || maps_page p x)
            (sym read)

        choice : (p : ℕ) (b : Bool) → maps_page p r ≡ b
            → led next root p ≡ cond b (own regions frames p) (led new root p)
        choice p b e =
            leads p ∙ ap (λ b. cond b (own regions frames p) (led new root p)) e

        into : (p : ℕ) (before here : Bool)
            → list_any (maps_page p) (take n regions) ≡ before → maps_page p r ≡ here
            → (before || here) ≡ true → led next root p ≡ own regions frames p
        into p before true e f is = choice p true f
        into p true false e f is = choice p false f ∙ a.led_in p e
        into p false false e f is = cc

        out : (p : ℕ) (before here : Bool)
            → list_any (maps_page p) (take n regions) ≡ before → maps_page p r ≡ here
            → (before || here) ≡ false → led next root p ≡ None
        out p true here e f is = cc
        out p false true e f is = cc
        out p false false e f is = choice p false f ∙ a.led_out p e

  pub all-led : (new : List ℕ) (n used : ℕ) → Accepted regions → length regions ≤ n
      → AllTo new n used → (p : ℕ) → led new root p ≡ own regions frames p
  unfolding is_memory_page
  all-led new n used accepted le a p = by (list_any (maps_page p) regions) refl
    where
      whole : take n regions ≡ regions
      whole = take_all n regions le

      by : (b : Bool) → list_any (maps_page p) regions ≡ b
          → led new root p ≡ own regions frames p
      by true e = a.led_in p (ap (list_any (maps_page p)) whole ∙ e)
      by false e =
          a.led_out p (ap (list_any (maps_page p)) whole ∙ e)
          ∙ sym (own-none regions accepted frames p e)
