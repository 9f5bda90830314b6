-- The order of a guest's tables is local: it depends on the frames of its root and of its tables.
use Rattle.std.proofs.Common.{◌≡◌, ℕ, ◌≤◌, List, length, drop, ◌∙◌, arith}
use Rattle.xv_pte.specs.GStage.{SameTables}
use Rattle.xv_pte.proofs.WalkLocal.{led_local, same_tables}
use Rattle.xv_gstage.specs.Memory.{SameGround}
use Rattle.xv_gstage.specs.Own.{pages_of, table_frames}
use Rattle.xv_gstage.specs.Tidy.{Tidy}
use Rattle.xv_gstage.proofs.Lists.{take-contains}
use Rattle.xv_gstage.proofs.LocalLemmas.{local-tidy}
use Rattle.xv_guest.specs.Frames.{hits}
use Rattle.xv_guest.specs.Held.{Held, HasOrder, IsHeld, Same}
use Rattle.xv_guest.proofs.FrameLemmas.{hits-take-drop}
use Rattle.xv_guest.proofs.HeldLemmas.{hits-Contains, root-hits}

-- what stands behind the front of a list stands in the list
drop-hits : (frame n : ℕ) (xs : List ℕ) → hits frame (drop n xs) ≤ hits frame xs
drop-hits frame n xs = let parts = hits-take-drop frame n xs in omega arith

-- ---- tables in order

module _ (old new : List ℕ) (g : Held)
    (same : SameGround old new g.root (table_frames g.regions g.frames)) where
  same_walk : (used : ℕ) → Tidy old g.root g.regions g.frames used → SameTables old new g.root
  same_walk used tidy = same_tables old new g.root (record {
    root_frames = same.of_root;
    table_frames = λ table is.
        same.of_list table
        (take-contains used (table_frames g.regions g.frames) table ((tidy.tables table).0 is));
  })

  pub order_same : HasOrder old g → HasOrder new g
  order_same order = record {
    led = λ page.
        led_local old new g.root (same_walk order.tidy.0 order.tidy.1) page ∙ order.led page;
    tidy = (
      order.tidy.0,
      local-tidy old new g.root g.regions g.frames order.tidy.0 same order.tidy.1,
    );
  }

-- ---- a guest whose bytes stay

module _ (old new : List ℕ) (g : Held) (same : Same old new g) where
  ground_same : SameGround old new g.root (table_frames g.regions g.frames)
  ground_same = record {
    of_root = λ frame is.
        let some = root-hits frame g.root is in same frame (omega arith);
    of_list = λ frame found.
        let some = hits-Contains frame (table_frames g.regions g.frames) found in
        let all = drop-hits frame (pages_of g.regions) g.frames in
        same frame (omega arith);
  }

  pub held_same : length new ≡ length old → IsHeld old g → IsHeld new g
  held_same whole held = record {
    memory = record {
      once = held.memory.once;
      inside = λ frame some. let was = held.memory.inside frame some in omega arith;
      size = held.memory.size;
    };
    order = order_same old new g ground_same held.order;
  }
