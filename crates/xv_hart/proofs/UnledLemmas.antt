-- A store changes bytes alone to which the root leads; so no table of a root that leads to none of
-- its own tables.
use Rattle.std.proofs.Common.{◌≡◌, inl, inr, ℕ, ◌+◌, ◌*◌, ◌/◌, ◌%◌, ◌<◌, ◌≤◌, List, length}
use Rattle.std.proofs.Common.{get_or, Some, subst, sym, ◌∙◌, arith}
use Rattle.std.proofs.lemmas.Bool.{cases_lt}
use Rattle.xv_mem.specs.Bytes.{put_word}
use Rattle.xv_mem.proofs.Words.{get_or-put_word_apart}
use Rattle.xv_pte.specs.declared.g_stage.Leaf.{Leaf}
use Rattle.xv_pte.specs.GStage.{walked, SameTables}
use Rattle.xv_pte.proofs.WalkLocal.{walked_local, table_before, has_tables, byte_words}
use Rattle.xv_pte.proofs.WalkLocal.{same_by_words}
use Rattle.xv_hart.specs.declared.action.Width.{Width}
use Rattle.xv_hart.specs.declared.action.Width.TheVariants.{W1, W2, W4, W8}
use Rattle.xv_hart.specs.Action.{bytes_of}
use Rattle.xv_hart.specs.Stage.{IsUnled, SameUnled, OwnGround, HasStage}

-- aligned bytes lie in one frame
one_frame : (width : Width) (at i : ℕ) → at % bytes_of width ≡ 0 → at ≤ i → i < at + bytes_of width
    → i / 4096 ≡ at / 4096
one_frame W1 at i aligned from to = omega (arith, aligned, from, to)
one_frame W2 at i aligned from to = omega (arith, aligned, from, to)
one_frame W4 at i aligned from to = omega (arith, aligned, from, to)
one_frame W8 at i aligned from to = omega (arith, aligned, from, to)

pub put_unled : (bytes : List ℕ) (root : ℕ) (width : Width) (at value : ℕ)
    → at + bytes_of width ≤ length bytes → at % bytes_of width ≡ 0
    → (IsUnled bytes root (at / 4096) → ⊥)
    → SameUnled bytes (put_word (bytes_of width) bytes at value) root
put_unled bytes root width at value inside aligned led i unled = elim (cases_lt i at) [
  | inl before ↦ get_or-put_word_apart (bytes_of width) bytes at value i 0 inside (inl before)
  | inr from ↦ elim (cases_lt i (at + bytes_of width)) [
    | inl to ↦ absurd (led (subst (IsUnled bytes root) (one_frame width at i aligned from to)
        unled))
    | inr after ↦ get_or-put_word_apart (bytes_of width) bytes at value i 0 inside (inr after)
  ]
]

-- and so what a write leaves
pub wrote_unled : (old new : List ℕ) (root : ℕ) (width : Width) (at value : ℕ)
    → new ≡ put_word (bytes_of width) old at value → at + bytes_of width ≤ length old
    → at % bytes_of width ≡ 0 → (IsUnled old root (at / 4096) → ⊥) → SameUnled old new root
wrote_unled old new root width at value wrote inside aligned led =
    subst (λ bytes. SameUnled old bytes root) (sym wrote)
    (put_unled old root width at value inside aligned led)

module _ (old new : List ℕ) (root : ℕ) (same : SameUnled old new root)
    (ground : OwnGround old root) where
  frame_of : (frame i : ℕ) → i < 4096 → frame ≡ (4096 * frame + i) / 4096
  frame_of frame i below = omega arith

  unled_bytes : (frame : ℕ) → IsUnled old root frame → (i : ℕ) → i < 4096
      → get_or new (4096 * frame + i) 0 ≡ get_or old (4096 * frame + i) 0
  unled_bytes frame unled i below =
      same (4096 * frame + i) (subst (IsUnled old root) (frame_of frame i below) unled)

  pub tables_stay : SameTables old new root
  tables_stay =
      same_by_words old new root
      (λ frame is. byte_words old new frame (unled_bytes frame (ground.root_frames frame is)))
      (λ table is. byte_words old new table (unled_bytes table (ground.table_frames table is)))

  walk_before : (gpa : ℕ) (leaf : Leaf) → walked new root gpa ≡ Some leaf
      → walked old root gpa ≡ Some leaf
  walk_before gpa leaf e = sym (walked_local old new root tables_stay gpa) ∙ e

  pub ground_stays : OwnGround new root
  ground_stays = record {
    root_frames = λ frame is gpa leaf e. ground.root_frames frame is gpa leaf
        (walk_before gpa leaf e);
    table_frames = λ table is gpa leaf e.
        ground.table_frames table (table_before old new root tables_stay table is) gpa leaf
        (walk_before gpa leaf e);
  }

  pub stage_stays : HasStage old root → length new ≡ length old → HasStage new root
  stage_stays has size = record {
    tables = has_tables old new root tables_stay has.tables (omega (arith, size));
    leaves = λ gpa leaf e.
        let le = has.leaves gpa leaf (walk_before gpa leaf e) in omega (arith, size, le);
  }
