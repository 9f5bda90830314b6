-- A table that is hung, and a leaf that is written: tables stay in order, and what they lead to.
use Rattle.std.proofs.Common.{◌≡◌, ◌≢◌, ℕ, zero, suc, ◌+◌, ◌*◌, ◌/◌, ◌%◌, ◌^◌, ◌<◌, ◌≤◌, ◌==◌, Bool}
use Rattle.std.proofs.Common.{true, false, cond, List, length, get_or, take, drop, Option, Some}
use Rattle.std.proofs.Common.{None}
use Rattle.std.proofs.Common.{refl, sym, ap, ◌∙◌, subst, arith, inl, inr, ◌⊎◌}
use Rattle.std.specs.List.{AllPairs, Contains}
use Rattle.std.proofs.lemmas.Bool.{cases_lt, cases_eq}
use Rattle.xv_mem.proofs.Puts.{range_same}
use Rattle.xv_pte.specs.declared.g_entry.GEntry.{GEntry}
use Rattle.xv_pte.specs.declared.g_entry.GEntry.TheVariants.{Pointer, Page, Nothing}
use Rattle.xv_pte.specs.declared.g_entry.Mapping.{Mapping}
use Rattle.xv_pte.specs.GStage.{IsTableOf, at_last, entry_in, entry_of, frame_bytes, in_block, led}
use Rattle.xv_pte.specs.GStage.{leaf_word, pointer_word}
use Rattle.xv_pte.proofs.EntryWords.{leaf_read, pointer_read}
use Rattle.xv_pte.proofs.WalkEmpty.{zero_words}
use Rattle.xv_region.specs.declared.plan.Region.{Region}
use Rattle.xv_gstage.specs.Blocks.{HangsAt, IsBlock, IsTouched, block_count, entry_below, entry_for}
use Rattle.xv_gstage.specs.Memory.{IsZero, SameOutside}
use Rattle.xv_gstage.specs.Own.{table_frames}
use Rattle.xv_gstage.specs.Tidy.{Tidy}
use Rattle.xv_gstage.specs.Write.{IsNoPointer, Wrote}
use Rattle.xv_gstage.proofs.Entries.{InRange, IsSlot, IsTree, entry-slot, range_of, unchanged}
use Rattle.xv_gstage.proofs.Entries.{written}
use Rattle.xv_gstage.proofs.Lists.{drop-contains, drop-less, next-in, next-spare, split}
use Rattle.xv_gstage.proofs.Lists.{take-contains}
use Rattle.xv_gstage.proofs.Lists.{take-less, take-next}
use Rattle.xv_gstage.proofs.TreeLemmas.{hang-of_table, lead, led-entries, led-high, table-of_hang}

-- the table frames: each another one, in the memory and off the root
pub record AreTables (size root : ℕ) (tables : List ℕ) : Type 0 where
  pub once : AllPairs (λ a b. a ≢ b) tables
  pub off : (table : ℕ) → Contains tables table → table / 4 ≢ root
  pub inside : (table : ℕ) → Contains tables table → 4096 * table + 4096 ≤ size
  pub small : (table : ℕ) → Contains tables table → table < 2 ^ 44

zero_entry : entry_of 0 ≡ Nothing
unfolding entry_of
zero_entry = refl

abbrev some_at : Mapping → ℕ → Option Mapping
some_at mapping frame = Some (record { frame = frame; writable = mapping.writable })

last_is : (bytes : List ℕ) (root page : ℕ) → entry_for bytes root 2 page
    ≡ entry_below bytes (entry_for bytes root 1 (page / 512)) (page % 512)
unfolding entry_for
last_is bytes root page = refl

no_pointer_below : (bytes : List ℕ) (e : GEntry) (i : ℕ) → ((table : ℕ) → e ≢ Pointer table)
    → entry_below bytes e i ≡ Nothing
no_pointer_below bytes (Pointer table) i none = absurd (none table refl)
no_pointer_below bytes (Page mapping) i none = refl
no_pointer_below bytes Nothing i none = refl

module _ (root : ℕ) (regions : List Region) (frames : List ℕ) where
  abbrev tables : List ℕ
  tables = table_frames regions frames

  module _ (bytes : List ℕ) (are : AreTables (length bytes) root tables) (used : ℕ)
      (tidy : Tidy bytes root regions frames used) where
    pub known : (table depth index : ℕ) → HangsAt bytes root table depth index
        → Contains (take used tables) table
    known table depth index h =
        (tidy.tables table).0 (table-of_hang bytes root table depth index h)

    pub hung : (table : ℕ) → Contains (take used tables) table
        → (depth : ℕ) × (index : ℕ) × HangsAt bytes root table depth index
    hung table has = hang-of_table bytes root table ((tidy.tables table).1 has)

    pub tree : IsTree bytes root
    tree = record {
      off = λ table depth index h.
          are.off table (take-contains used tables table (known table depth index h));
      once = tidy.once;
    }

    -- a slot of an entry is in a frame of the root, or in a table's
    pub slot-ground : (depth index slot : ℕ) → InRange depth index
        → IsSlot bytes root depth index slot
        → (slot / 512 / 4 ≡ root) ⊎ Contains (take used tables) (slot / 512)
    unfolding block_count
    slot-ground zero index slot r is = let below = r.below in inl (omega arith)
    slot-ground (suc depth) index slot r (table, e, is) =
        let place : table ≡ slot / 512 = omega arith in
        let above = r.above in
        let below = r.below in
        let has = known table depth (index / 512) (record {
          block = record { above = omega arith; below = omega arith };
          pointer = e;
        }) in
        inr (subst (Contains (take used tables)) place has)

    -- it lies in the memory
    pub slot-inside : (depth index slot : ℕ) → 16384 * root + 16384 ≤ length bytes
        → InRange depth index → IsSlot bytes root depth index slot
        → 8 * slot + 8 ≤ length bytes
    slot-inside depth index slot inside r is = elim (slot-ground depth index slot r is) [
      | inl at ↦ omega arith
      | inr has ↦
          let low = are.inside (slot / 512) (take-contains used tables (slot / 512) has) in
          omega arith
    ]

    -- a free table is in no such frame
    pub spare-apart : (depth index slot table : ℕ) → InRange depth index
        → IsSlot bytes root depth index slot → Contains (drop used tables) table
        → table ≢ slot / 512
    spare-apart depth index slot table r is spare same = elim (slot-ground depth index slot r is) [
      | inl at ↦
          are.off table (drop-contains used tables table spare)
          (ap (λ (f : ℕ). f / 4) same ∙ at)
      | inr has ↦
          split tables are.once used table (subst (Contains (take used tables)) (sym same) has)
          spare
    ]

  module _ (old new : List ℕ) (are : AreTables (length old) root tables) (used : ℕ)
      (tidy : Tidy old root regions frames used) (D K slot value : ℕ) (range : InRange D K)
      (at : IsSlot old root D K slot) (wrote : Wrote old new slot value) where
    pub step-outside : SameOutside old new root tables
    step-outside = record {
      whole = wrote.whole;
      bytes = λ i off apart.
          wrote.bytes i (λ same. elim (slot-ground old are used tidy D K slot range at) [
            | inl here ↦
                let back : i / 16384 ≡ root = omega arith in
                off back
            | inr has ↦
                apart (subst (Contains tables) (sym same)
                (take-contains used tables (slot / 512) has))
          ]);
    }

    step-frame : (frame : ℕ) → frame ≢ slot / 512 → 4096 * frame + 4096 ≤ length old
        → frame_bytes new frame ≡ frame_bytes old frame
    step-frame frame apart inside =
        let whole = wrote.whole in
        range_same new old (4096 * frame) (4096 * frame) 4096 (omega arith) inside (λ i lt.
        let place : (4096 * frame + i) / 4096 ≡ frame = omega arith in
        wrote.bytes (4096 * frame + i) (λ same. apart (sym place ∙ same)))

    step-zero : (table : ℕ) → Contains (drop used tables) table → IsZero new table
    step-zero table spare =
        step-frame table (spare-apart old are used tidy D K slot table range at spare)
        (are.inside table (drop-contains used tables table spare))
        ∙ tidy.spare table spare

  -- ---- a table is hung

  module _ (old new : List ℕ) (are : AreTables (length old) root tables) (used : ℕ)
      (tidy : Tidy old root regions frames used) (D K slot : ℕ) (block : IsBlock D K)
      (at : IsSlot old root D K slot) (free : IsNoPointer old slot)
      (room : used < length tables) (touched : IsTouched regions D K)
      (wrote : Wrote old new slot (pointer_word (get_or tables used 0))) where
    abbrev next : ℕ
    next = get_or tables used 0

    range : InRange D K
    range = range_of D K block

    spare : Contains (drop used tables) next
    spare = next-spare tables used room

    small : next < 2 ^ 44
    small = are.small next (drop-contains used tables next spare)

    read : entry_of (pointer_word next) ≡ Pointer next
    read = pointer_read next small

    none : (table : ℕ) → entry_for old root D K ≢ Pointer table
    none table e = free table (sym (entry-slot old root D K slot at) ∙ e)

    zeros : (i : ℕ) → i < 512 → entry_in new (512 * next + i) ≡ Nothing
    zeros i lt =
        let apart = spare-apart old are used tidy D K slot next range at spare in
        ap entry_of (wrote.words (512 * next + i) (λ same. apart (omega arith)))
        ∙ ap entry_of (zero_words old next (tidy.spare next spare) i lt)
        ∙ zero_entry

    quiet : D < 2 → (i : ℕ) → i < 512 → entry_below new (entry_of (pointer_word next)) i
        ≡ entry_below old (entry_for old root D K) i
    quiet deep i lt =
        ap (λ e. entry_below new e i) read ∙ zeros i lt
        ∙ sym (no_pointer_below old (entry_for old root D K) i none)

    pub hang-pointer : entry_for new root D K ≡ Pointer next
    hang-pointer =
        written old new root (tree old are used tidy) D K slot (pointer_word next) range at wrote
        quiet ∙ read

    pub hang-others : (depth index : ℕ) → InRange depth index
        → ((depth ≡ D) × (index ≡ K) → ⊥)
        → entry_for new root depth index ≡ entry_for old root depth index
    hang-others =
        unchanged old new root (tree old are used tidy) D K slot (pointer_word next) range at wrote
        quiet

    -- what hangs afterwards: the new table, or what hung before
    now : (table depth index : ℕ) → HangsAt new root table depth index
        → ((table ≡ next) × (depth ≡ D) × (index ≡ K)) ⊎ HangsAt old root table depth index
    now table depth index h = elim (cases_eq depth D) [
      | inr ne ↦ inr (before (λ both. ne both.0))
      | inl e ↦ elim (cases_eq index K) [
        | inr ne ↦ inr (before (λ both. ne both.1))
        | inl f ↦
            let here : entry_for new root D K ≡ Pointer table =
            sym (rw (e, f) refl) ∙ h.pointer in
            let same : Pointer table ≡ Pointer next = sym here ∙ hang-pointer in
            inl (cc, e, f)
      ]
    ]
      where
        before : ((depth ≡ D) × (index ≡ K) → ⊥) → HangsAt old root table depth index
        before differs = record {
          block = h.block;
          pointer =
              sym (hang-others depth index (range_of depth index h.block) differs) ∙ h.pointer;
        }

    after : (table depth index : ℕ) → HangsAt old root table depth index
        → HangsAt new root table depth index
    after table depth index h = record {
      block = h.block;
      pointer =
          hang-others depth index (range_of depth index h.block) (λ both.
          let here : entry_for old root D K ≡ Pointer table =
          sym (rw (both.0, both.1) refl) ∙ h.pointer in
          none table here)
          ∙ h.pointer;
    }

    not_next : (table depth index : ℕ) → HangsAt old root table depth index → table ≢ next
    not_next table depth index h same =
        split tables are.once used next
        (subst (Contains (take used tables)) same (known old are used tidy table depth index h))
        spare

    pub hang-tidy : Tidy new root regions frames (used + 1)
    hang-tidy = record {
      room = omega arith;
      tables = λ table. (λ is. in_use table is, λ has. is_table table has);
      once = λ table depth index other place a b. one table depth index other place a b
          (now table depth index a) (now table other place b);
      touched = λ table depth index h. elim (now table depth index h) [
        | inl here ↦ rw (here.1, here.2) touched
        | inr was ↦ tidy.touched table depth index was
      ];
      spare = λ table has.
          step-zero old new are used tidy D K slot (pointer_word next) range at wrote table
          (drop-less tables used room table has);
    }
      where
        in_use : (table : ℕ) → IsTableOf new root table → Contains (take (used + 1) tables) table
        in_use table is =
            let h = hang-of_table new root table is in
            elim (now table h.0 h.1 h.2) [
              | inl here ↦
                  subst (Contains (take (used + 1) tables)) (sym here.0)
                  (next-in tables used room)
              | inr was ↦
                  take-less tables used room table
                  (known old are used tidy table h.0 h.1 was)
            ]

        is_table : (table : ℕ) → Contains (take (used + 1) tables) table
            → IsTableOf new root table
        is_table table has = elim (take-next tables used room table has) [
          | inl was ↦
              let h = hung old are used tidy table was in
              table-of_hang new root table h.0 h.1 (after table h.0 h.1 h.2)
          | inr same ↦
              table-of_hang new root table D K
              (record { block = block; pointer = hang-pointer ∙ ap Pointer (sym same) })
        ]

        one : (table depth index other place : ℕ) → HangsAt new root table depth index
            → HangsAt new root table other place
            → ((table ≡ next) × (depth ≡ D) × (index ≡ K)) ⊎ HangsAt old root table depth index
            → ((table ≡ next) × (other ≡ D) × (place ≡ K)) ⊎ HangsAt old root table other place
            → (depth ≡ other) × (index ≡ place)
        one table depth index other place a b (inl here) (inl there) =
            (here.1 ∙ sym there.1, here.2 ∙ sym there.2)
        one table depth index other place a b (inl here) (inr was) =
            absurd (not_next table other place was here.0)
        one table depth index other place a b (inr was) (inl there) =
            absurd (not_next table depth index was there.0)
        one table depth index other place a b (inr was) (inr before) =
            tidy.once table depth index other place was before

    -- ---- and changes no walk

    last_same : (page : ℕ) → page < 2 ^ 29 → entry_for new root 2 page ≡ entry_for old root 2 page
    unfolding block_count
    last_same page lt =
        let above = block.above in
        hang-others 2 page (record { above = omega arith; below = lt })
        (λ both. let same = both.0 in omega arith)

    in_block_none : (page other : ℕ) (mapping : Mapping) → in_block page mapping ≡ None
        → in_block other mapping ≡ None
    in_block_none page other mapping e =
        by (mapping.frame % 512 == 0) e
      where
        by : (b : Bool) → cond b (some_at mapping (mapping.frame + page % 512)) None ≡ None
            → cond b (some_at mapping (mapping.frame + other % 512)) None ≡ None
        by true is = absurd cc
        by false is = refl

    lead_none : (page other : ℕ) (e last end : GEntry) → ((table : ℕ) → e ≢ Pointer table)
        → lead page e last ≡ None → lead other e end ≡ None
    lead_none page other (Pointer table) last end free_e is = absurd (free_e table refl)
    lead_none page other (Page mapping) last end free_e is = in_block_none page other mapping is
    lead_none page other Nothing last end free_e is = refl

    module _ (page : ℕ) (low : page < 2 ^ 29) (unled : led old root page ≡ None)
        (here : D ≡ 1 → page / 512 ≡ K) where
      in_block_of : (other : ℕ) → other < 2 ^ 29 → D ≡ 1 → other / 512 ≡ K
          → led new root other ≡ led old root other
      in_block_of other lt deep same =
          let old_e : entry_for old root 1 K ≡ entry_for old root D K =
          ap (λ d. entry_for old root d K) (sym deep) in
          let free_e : (table : ℕ) → entry_for old root 1 K ≢ Pointer table =
          λ table e. none table (sym old_e ∙ e) in
          let page_e : lead page (entry_for old root 1 K) (entry_for old root 2 page) ≡ None =
          ap (λ k. lead page (entry_for old root 1 k) (entry_for old root 2 page))
          (sym (here deep)) ∙ sym (led-entries old root page low) ∙ unled in
          let was : led old root other ≡ None =
          led-entries old root other lt
          ∙ ap (λ k. lead other (entry_for old root 1 k) (entry_for old root 2 other)) same
          ∙ lead_none page other (entry_for old root 1 K) (entry_for old root 2 page)
          (entry_for old root 2 other) free_e page_e in
          let last : entry_for new root 2 other ≡ Nothing =
          last_same other lt
          ∙ last_is old root other
          ∙ ap (λ k. entry_below old (entry_for old root 1 k) (other % 512)) same
          ∙ no_pointer_below old (entry_for old root 1 K) (other % 512) free_e in
          let middle : entry_for new root 1 (other / 512) ≡ Pointer next =
          ap (entry_for new root 1) same
          ∙ (ap (λ d. entry_for new root d K) (sym deep) ∙ hang-pointer) in
          led-entries new root other lt
          ∙ ap (λ e. lead other e (entry_for new root 2 other)) middle
          ∙ ap at_last last
          ∙ sym was

      pub hang-led : (other : ℕ) → led new root other ≡ led old root other
      unfolding block_count
      hang-led other = elim (cases_lt other (2 ^ 29)) [
        | inr le ↦ led-high new root other le ∙ sym (led-high old root other le)
        | inl lt ↦ elim (cases_eq 1 D) [
          | inl deep ↦ elim (cases_eq (other / 512) K) [
            | inl same ↦ in_block_of other lt (sym deep) same
            | inr ne ↦ apart lt (λ both. ne both.1)
          ]
          | inr ne ↦ apart lt (λ both. ne both.0)
        ]
      ]
        where
          apart : other < 2 ^ 29 → ((1 ≡ D) × (other / 512 ≡ K) → ⊥)
              → led new root other ≡ led old root other
          apart lt differs =
              led-entries new root other lt
              ∙ ap (λ e. lead other e (entry_for new root 2 other))
              (hang-others 1 (other / 512)
              (record { above = omega arith; below = omega arith }) differs)
              ∙ ap (lead other (entry_for old root 1 (other / 512))) (last_same other lt)
              ∙ sym (led-entries old root other lt)

  -- ---- a leaf is written

  module _ (old new : List ℕ) (are : AreTables (length old) root tables) (used : ℕ)
      (tidy : Tidy old root regions frames used) (page slot : ℕ) (mapping : Mapping)
      (low : page < 2 ^ 29) (fits : mapping.frame < 2 ^ 44)
      (at : IsSlot old root 2 page slot) (wrote : Wrote old new slot (leaf_word mapping)) where
    page_range : InRange 2 page
    unfolding block_count
    page_range = record { above = omega arith; below = low }

    leaf_quiet : 2 < 2 → (i : ℕ) → i < 512 → entry_below new (entry_of (leaf_word mapping)) i
        ≡ entry_below old (entry_for old root 2 page) i
    leaf_quiet deep i lt = absurd (omega arith)

    leaf-entry : entry_for new root 2 page ≡ Page mapping
    leaf-entry =
        written old new root (tree old are used tidy) 2 page slot (leaf_word mapping) page_range at
        wrote leaf_quiet ∙ leaf_read mapping fits

    leaf-others : (depth index : ℕ) → InRange depth index
        → ((depth ≡ 2) × (index ≡ page) → ⊥)
        → entry_for new root depth index ≡ entry_for old root depth index
    leaf-others =
        unchanged old new root (tree old are used tidy) 2 page slot (leaf_word mapping) page_range
        at wrote leaf_quiet

    block_same : (depth index : ℕ) → IsBlock depth index
        → entry_for new root depth index ≡ entry_for old root depth index
    block_same depth index block =
        let above = block.above in
        leaf-others depth index (range_of depth index block)
        (λ both. let same = both.0 in omega arith)

    before : (table depth index : ℕ) → HangsAt new root table depth index
        → HangsAt old root table depth index
    before table depth index h =
        record { block = h.block; pointer = sym (block_same depth index h.block) ∙ h.pointer }

    after_leaf : (table depth index : ℕ) → HangsAt old root table depth index
        → HangsAt new root table depth index
    after_leaf table depth index h =
        record { block = h.block; pointer = block_same depth index h.block ∙ h.pointer }

    pub leaf-tidy : Tidy new root regions frames used
    leaf-tidy = record {
      room = tidy.room;
      tables = λ table. (
        λ is.
            let h = hang-of_table new root table is in
            known old are used tidy table h.0 h.1 (before table h.0 h.1 h.2),
        λ has.
            let h = hung old are used tidy table has in
            table-of_hang new root table h.0 h.1 (after_leaf table h.0 h.1 h.2),
      );
      once = λ table depth index other place a b.
          tidy.once table depth index other place (before table depth index a)
          (before table other place b);
      touched = λ table depth index h.
          tidy.touched table depth index (before table depth index h);
      spare = λ table has.
          step-zero old new are used tidy 2 page slot (leaf_word mapping) page_range at wrote table
          has;
    }

    middle_same : (other : ℕ) → other < 2 ^ 29
        → entry_for new root 1 (other / 512) ≡ entry_for old root 1 (other / 512)
    unfolding block_count
    middle_same other lt =
        block_same 1 (other / 512) (record { above = omega arith; below = omega arith })

    pub leaf-led : led new root page ≡ Some mapping
    leaf-led =
        led-entries new root page low
        ∙ ap (λ e. lead page e (entry_for new root 2 page)) (middle_same page low ∙ at.1)
        ∙ ap at_last leaf-entry

    pub leaf-unled : (other : ℕ) → other ≢ page → led new root other ≡ led old root other
    unfolding block_count
    leaf-unled other ne = elim (cases_lt other (2 ^ 29)) [
      | inr le ↦ led-high new root other le ∙ sym (led-high old root other le)
      | inl lt ↦
          led-entries new root other lt
          ∙ ap (λ e. lead other e (entry_for new root 2 other)) (middle_same other lt)
          ∙ ap (lead other (entry_for old root 1 (other / 512)))
          (leaf-others 2 other (record { above = omega arith; below = lt }) (λ both. ne both.1))
          ∙ sym (led-entries old root other lt)
    ]

    pub leaf-outside : SameOutside old new root tables
    leaf-outside =
        step-outside old new are used tidy 2 page slot (leaf_word mapping) page_range at wrote
