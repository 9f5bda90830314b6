-- Memories for tests, whose pointers and leaves all name frames of the memory.
use Rattle.std.proofs.Common.{◌≡◌, ◌⊎◌, inl, inr, ℕ, ◌+◌, ◌*◌, ◌/◌, ◌%◌, ◌^◌, ◌<◌, ◌≤◌, ◌==◌, ltb}
use Rattle.std.proofs.Common.{Bool, true, false, cond, List, length, replicate, Option, Some, None}
use Rattle.std.proofs.Common.{subst, refl, sym, ap, ◌∙◌, arith}
use Rattle.std.proofs.lemmas.Bool.{cases_lt}
use Rattle.xv_mem.specs.Bytes.{put_word}
use Rattle.xv_mem.proofs.Words.{word_at-put_word, word_at-put_word_apart, word_at-replicate}
use Rattle.xv_mem.proofs.Words.{length-put_word}
use Rattle.xv_pte.specs.declared.g_entry.GEntry.{GEntry}
use Rattle.xv_pte.specs.declared.g_entry.GEntry.TheVariants.{Pointer, Page, Nothing}
use Rattle.xv_pte.specs.declared.g_entry.Mapping.{Mapping}
use Rattle.xv_pte.specs.declared.g_stage.Leaf.{Leaf}
use Rattle.xv_pte.specs.GStage.{entry_of, word_in, entry_in, led, at_root, at_middle, at_last}
use Rattle.xv_pte.specs.GStage.{in_block, root_slot, middle_slot, last_slot, walked}
use Rattle.xv_pte.proofs.TestTables.{zeros_targets, put_targets, has_tables_of_targets}
use Rattle.xv_pte.proofs.WalkPages.{page_of_leaf}
use Rattle.xv_hart.specs.Closed.{IsClosed, NamesInside}
use Rattle.xv_hart.specs.Stage.{HasStage}

-- ---- what is built

entry_of_zero : entry_of 0 ≡ Nothing
unfolding entry_of
entry_of_zero = refl

zero_entry : (n slot : ℕ) → entry_in (replicate n 0) slot ≡ Nothing
unfolding word_in
zero_entry n slot = ap entry_of (word_at-replicate 8 n (8 * slot)) ∙ entry_of_zero

pub zeros_closed : (n : ℕ) → IsClosed (replicate n 0)
zeros_closed n = record {
  targets = zeros_targets n;
  pages = λ slot mapping e. let none = zero_entry n slot in cc;
}

module _ (bytes : List ℕ) (slot value : ℕ) (inside : 8 * slot + 8 ≤ length bytes)
    (fits : value < 2 ^ 64)
    (pointer : (table : ℕ) → entry_of value ≡ Pointer table → 4096 * table + 4096 ≤ length bytes)
    (page : (mapping : Mapping) → entry_of value ≡ Page mapping
    → 4096 * mapping.frame + 2 ^ 21 ≤ length bytes) (closed : IsClosed bytes) where
  new : List ℕ
  new = put_word 8 bytes (8 * slot) value

  same_length : length new ≡ length bytes
  unfolding new
  same_length = length-put_word 8 bytes (8 * slot) value inside

  away : (at : ℕ) → (8 * at + 8 ≤ 8 * slot) ⊎ (8 * slot + 8 ≤ 8 * at)
      → entry_in new at ≡ entry_in bytes at
  unfolding word_in new
  away at out = ap entry_of (word_at-put_word_apart 8 8 bytes (8 * slot) value (8 * at) inside out)

  here : entry_in new slot ≡ entry_of value
  unfolding word_in new
  here = ap entry_of (word_at-put_word 8 bytes (8 * slot) value inside fits)

  page_inside : (at : ℕ) (mapping : Mapping) → entry_in new at ≡ Page mapping
      → 4096 * mapping.frame + 2 ^ 21 ≤ length bytes
  page_inside at mapping e =
      elim (cases_lt at slot) [
        | inl before ↦ closed.pages at mapping (sym (away at (inl (omega arith))) ∙ e)
        | inr le ↦ elim (cases_lt slot at) [
          | inl after ↦ closed.pages at mapping (sym (away at (inr (omega arith))) ∙ e)
          | inr ge ↦
              let one : slot ≡ at = omega arith in
              page mapping (sym here ∙ ap (entry_in new) one ∙ e)
        ]
      ]

  pub put_closed : IsClosed (put_word 8 bytes (8 * slot) value)
  unfolding new
  put_closed = record {
    targets = put_targets bytes slot value inside fits pointer closed.targets;
    pages = λ at mapping e. let le = page_inside at mapping e in rw same_length le;
  }

-- by what the word is as an entry
pub stored_closed : (bytes : List ℕ) (slot value : ℕ) → 8 * slot + 8 ≤ length bytes
    → value < 2 ^ 64 → NamesInside (length bytes) (entry_of value) → IsClosed bytes
    → IsClosed (put_word 8 bytes (8 * slot) value)
stored_closed bytes slot value inside fits names closed =
    put_closed bytes slot value inside fits
    (λ table e. subst (NamesInside (length bytes)) e names)
    (λ mapping e. subst (NamesInside (length bytes)) e names) closed

-- ---- what it has

frame_of : Option Mapping → ℕ
frame_of None = 0
frame_of (Some mapping) = mapping.frame

module _ (bytes : List ℕ) (closed : IsClosed bytes) (page : ℕ) (mapping : Mapping) where
  abbrev Inside : Type 0
  Inside = 4096 * mapping.frame + 4096 ≤ length bytes

  last_inside : (slot : ℕ) (entry : GEntry) → entry_in bytes slot ≡ entry
      → at_last entry ≡ Some mapping → Inside
  last_inside slot (Pointer table) e h = cc
  last_inside slot (Page to) e h =
      let same : to.frame ≡ mapping.frame = cc in
      let inside = closed.pages slot to e in
      omega (arith, same, inside)
  last_inside slot Nothing e h = cc

  block_inside : (slot : ℕ) (to : Mapping) → entry_in bytes slot ≡ Page to
      → in_block page to ≡ Some mapping → Inside
  unfolding frame_of
  block_inside slot to e h = by_multiple (to.frame % 512 == 0) h
    where
      by_multiple : (b : Bool)
          → cond b (Some (record { frame = to.frame + page % 512; writable = to.writable })) None
          ≡ Some mapping → Inside
      by_multiple true h =
          let same : to.frame + page % 512 ≡ mapping.frame = ap frame_of h in
          let inside = closed.pages slot to e in
          omega (arith, same, inside)
      by_multiple false h = cc

  middle_inside : (slot : ℕ) (entry : GEntry) → entry_in bytes slot ≡ entry
      → at_middle bytes page entry ≡ Some mapping → Inside
  middle_inside slot (Pointer table) e h =
      last_inside (last_slot table page) (entry_in bytes (last_slot table page)) refl h
  middle_inside slot (Page to) e h = block_inside slot to e h
  middle_inside slot Nothing e h = cc

  root_inside : (entry : GEntry) → at_root bytes page entry ≡ Some mapping → Inside
  root_inside (Pointer table) h =
      middle_inside (middle_slot table page) (entry_in bytes (middle_slot table page)) refl h
  root_inside (Page to) h = cc
  root_inside Nothing h = cc

  led_in : (root : ℕ) → led bytes root page ≡ Some mapping → Inside
  unfolding led
  led_in root h = by_size (ltb page (2 ^ 29)) h
    where
      by_size : (b : Bool)
          → cond b (at_root bytes page (entry_in bytes (root_slot root page))) None ≡ Some mapping
          → Inside
      by_size true h = root_inside (entry_in bytes (root_slot root page)) h
      by_size false h = cc

pub stage_of_closed : (bytes : List ℕ) (root : ℕ) → 16384 * root + 16384 ≤ length bytes
    → IsClosed bytes → HasStage bytes root
stage_of_closed bytes root inside closed = record {
  tables = has_tables_of_targets bytes root inside closed.targets;
  leaves = λ gpa leaf e. leaf_inside gpa leaf e;
}
  where
    leaf_inside : (gpa : ℕ) (leaf : Leaf) → walked bytes root gpa ≡ Some leaf
        → 4096 * (leaf.host / 4096) + 4096 ≤ length bytes
    leaf_inside gpa leaf e =
        let found = page_of_leaf gpa (led bytes root (gpa / 4096)) leaf e in
        let inside = led_in bytes closed (gpa / 4096) found.0 root found.1 in
        let frame = found.2.frame in
        omega (arith, inside, frame)
