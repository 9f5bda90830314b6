-- The walk is local: it depends on the root and on the tables below it alone.
use Rattle.std.proofs.Common.{◌≡◌, ◌↔◌, ℕ, ◌+◌, ◌*◌, ◌/◌, ◌%◌, ◌^◌, ◌<◌, ◌≤◌, nat_lt, Bool, true}
use Rattle.std.proofs.Common.{false, cond, List, length, None, refl, sym, ap, ◌∙◌}
use Rattle.std.proofs.Common.{subst, get_or, arith}
use Rattle.std.proofs.lemmas.Bool.{ltb-true}
use Rattle.xv_mem.specs.Bytes.{word_at}
use Rattle.xv_mem.proofs.Words.{word_at_same, word_at_same_range}
use Rattle.xv_pte.specs.declared.g_entry.GEntry.{GEntry}
use Rattle.xv_pte.specs.declared.g_entry.GEntry.TheVariants.{Pointer, Page, Nothing}
use Rattle.xv_pte.specs.GStage.{entry_of, word_in, entry_in, root_slot, middle_slot, last_slot}
use Rattle.xv_pte.specs.GStage.{at_last, at_middle, at_root, led, leaf_at, walked, IsTableOf}
use Rattle.xv_pte.specs.GStage.{Middle, Last, HasTables, SameWords, SameTables}
use Rattle.xv_pte.specs.GStage.{frame_bytes, SameFrames}
use Rattle.xv_pte.proofs.WalkTables.{middle_is_table, last_is_table}

-- both memories have the same entries where the walk of a page reads
pub record SameEntries (old new : List ℕ) (root page : ℕ) : Type 0 where
  pub root_entry : entry_in new (root_slot root page) ≡ entry_in old (root_slot root page)
  pub middle_entry : (table : ℕ) → entry_in old (root_slot root page) ≡ Pointer table
      → entry_in new (middle_slot table page) ≡ entry_in old (middle_slot table page)
  pub last_entry : (middle table : ℕ) → entry_in old (root_slot root page) ≡ Pointer middle
      → entry_in old (middle_slot middle page) ≡ Pointer table
      → entry_in new (last_slot table page) ≡ entry_in old (last_slot table page)

where_true : {A : Type 0} (test : Bool) (none x y : A) → (test ≡ true → x ≡ y)
    → cond test x none ≡ cond test y none
where_true true none x y same = same refl
where_true false none x y same = refl

module _ (old new : List ℕ) (root page : ℕ) where
  module _ (same : SameEntries old new root page) where
    middle_same : (middle : ℕ) → entry_in old (root_slot root page) ≡ Pointer middle
        → (entry : GEntry) → entry_in old (middle_slot middle page) ≡ entry
        → at_middle new page entry ≡ at_middle old page entry
    middle_same middle e (Pointer table) f = ap at_last (same.last_entry middle table e f)
    middle_same middle e (Page mapping) f = refl
    middle_same middle e Nothing f = refl

    root_same : (entry : GEntry) → entry_in old (root_slot root page) ≡ entry
        → at_root new page entry ≡ at_root old page entry
    root_same (Pointer middle) e =
        ap (at_middle new page) (same.middle_entry middle e)
        ∙ middle_same middle e (entry_in old (middle_slot middle page)) refl
    root_same (Page mapping) e = refl
    root_same Nothing e = refl

    from_root_same : at_root new page (entry_in new (root_slot root page))
        ≡ at_root old page (entry_in old (root_slot root page))
    from_root_same =
        ap (at_root new page) same.root_entry ∙ root_same (entry_in old (root_slot root page)) refl

  -- a page is led alike where the entries that its walk reads are the same
  pub led_same : (page < 2 ^ 29 → SameEntries old new root page)
      → led new root page ≡ led old root page
  unfolding led
  led_same same =
      where_true (nat_lt page (2 ^ 29)) None
      (at_root new page (entry_in new (root_slot root page)))
      (at_root old page (entry_in old (root_slot root page)))
      (λ lt. from_root_same (same (ltb-true page (2 ^ 29) lt)))

module _ (old new : List ℕ) (root : ℕ) (same : SameTables old new root) where
  same_entries : (page : ℕ) → page < 2 ^ 29 → SameEntries old new root page
  same_entries page low = record {
    root_entry = ap entry_of (same.root_same (page / 2 ^ 18) (omega arith));
    middle_entry = λ table e.
        ap entry_of (same.tables_same table (middle_is_table old root page low table e)
        (page / 2 ^ 9 % 512) (omega arith));
    last_entry = λ middle table e f.
        ap entry_of (same.tables_same table (last_is_table old root page low middle table e f)
        (page % 512) (omega arith));
  }

  pub led_local : (page : ℕ) → led new root page ≡ led old root page
  led_local page = led_same old new root page (same_entries page)

  pub walked_local : (gpa : ℕ) → walked new root gpa ≡ walked old root gpa
  walked_local gpa = ap (leaf_at gpa) (led_local (gpa / 4096))

  root_entry_same : (i : ℕ) → i < 2048
      → entry_in new (2048 * root + i) ≡ entry_in old (2048 * root + i)
  root_entry_same i lt = ap entry_of (same.root_same i lt)

  table_entry_same : (table : ℕ) → IsTableOf old root table → (j : ℕ) → j < 512
      → entry_in new (512 * table + j) ≡ entry_in old (512 * table + j)
  table_entry_same table is j lt = ap entry_of (same.tables_same table is j lt)

  -- no table is new, and none is lost
  pub table_before : (table : ℕ) → IsTableOf new root table → IsTableOf old root table
  table_before n (Middle i table lt e) = Middle i table lt (sym (root_entry_same i lt) ∙ e)
  table_before n (Last i middle j table lt e lj f) =
      let was = sym (root_entry_same i lt) ∙ e in
      Last i middle j table lt was lj
      (sym (table_entry_same middle (Middle i middle lt was) j lj) ∙ f)

  pub table_after : (table : ℕ) → IsTableOf old root table → IsTableOf new root table
  table_after n (Middle i table lt e) = Middle i table lt (root_entry_same i lt ∙ e)
  table_after n (Last i middle j table lt e lj f) =
      Last i middle j table lt (root_entry_same i lt ∙ e) lj
      (table_entry_same middle (Middle i middle lt e) j lj ∙ f)

  pub tables_local : (table : ℕ) → IsTableOf new root table ↔ IsTableOf old root table
  tables_local table = (table_before table, table_after table)

  pub same_back : SameTables new old root
  same_back = record {
    root_same = λ i lt. sym (same.root_same i lt);
    tables_same = λ table is i lt. sym (same.tables_same table (table_before table is) i lt);
  }

  pub has_tables : HasTables old root → length old ≤ length new → HasTables new root
  has_tables has le = record {
    root_inside = let inside = has.root_inside in omega arith;
    tables_inside = λ table is.
        let inside = has.tables_inside table (table_before table is) in omega arith;
  }

-- ---- frames

-- equal bytes of a frame are equal words
pub byte_words : (old new : List ℕ) (frame : ℕ) → ((i : ℕ) → i < 4096
    → get_or new (4096 * frame + i) 0 ≡ get_or old (4096 * frame + i) 0)
    → SameWords old new frame
unfolding word_in
byte_words old new frame same i lt =
    word_at_same 8 new (8 * (512 * frame + i)) old (8 * (512 * frame + i)) (λ k below.
    let place : 4096 * frame + (8 * i + k) ≡ 8 * (512 * frame + i) + k = omega arith in
    subst (λ (at : ℕ). get_or new at 0 ≡ get_or old at 0) place
    (same (8 * i + k) (omega arith)))

-- equal frames have equal words
pub frame_words : (old new : List ℕ) (frame : ℕ) → frame_bytes new frame ≡ frame_bytes old frame
    → SameWords old new frame
unfolding word_in
frame_words old new frame e i lt =
    let place : 4096 * frame + 8 * i ≡ 8 * (512 * frame + i) = omega arith in
    subst (λ (at : ℕ). word_at 8 new at ≡ word_at 8 old at) place
    (word_at_same_range 8 new old (4096 * frame) (4096 * frame) 4096 (8 * i) e (omega arith))

-- by the words of each frame of the root, and of each table
pub same_by_words : (old new : List ℕ) (root : ℕ)
    → ((frame : ℕ) → frame / 4 ≡ root → SameWords old new frame)
    → ((table : ℕ) → IsTableOf old root table → SameWords old new table) → SameTables old new root
same_by_words old new root of_root of_tables = record {
  root_same = λ i lt.
      let place : 512 * (4 * root + i / 512) + i % 512 ≡ 2048 * root + i = omega arith in
      subst (λ (slot : ℕ). word_in new slot ≡ word_in old slot) place
      (of_root (4 * root + i / 512) (omega arith) (i % 512) (omega arith));
  tables_same = of_tables;
}

pub same_tables : (old new : List ℕ) (root : ℕ) → SameFrames old new root → SameTables old new root
same_tables old new root same =
    same_by_words old new root (λ frame is. frame_words old new frame (same.root_frames frame is))
    (λ table is. frame_words old new table (same.table_frames table is))

pub ruleset locality = (walked_local, tables_local, same_tables)
