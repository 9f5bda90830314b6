-- What changes under a guest's regions alone, and what that leaves.
use Rattle.std.proofs.Common.{ℕ, List, refl, ◌∙◌, arith}
use Rattle.xv_gstage.specs.Memory.{SameGround}
use Rattle.xv_gstage.specs.Own.{pages_of, table_frames}
use Rattle.xv_guest.specs.Held.{Held, IsHeld, Within, WithinMemory}
use Rattle.xv_guest.proofs.FrameLemmas.{hits-take-drop}
use Rattle.xv_guest.proofs.HeldLemmas.{hits-Contains, root-hits}
use Rattle.xv_guest.proofs.MemoryLemmas.{under-held}
use Rattle.xv_guest.proofs.OrderLemmas.{order_same}
use Rattle.xv_guest.proofs.ZeroLemmas.{pages-hits}

pub memory_none : (g : Held) (bytes : List ℕ) → WithinMemory g bytes bytes
memory_none g bytes = record { whole = refl; others = λ frame inside none. refl }

pub memory_both : (g : Held) (first middle last : List ℕ) → WithinMemory g first middle
    → WithinMemory g middle last → WithinMemory g first last
memory_both g first middle last one two = record {
  whole = two.whole ∙ one.whole;
  others = λ frame inside none.
      let same = one.whole in
      two.others frame (omega arith) none ∙ one.others frame inside none;
}

module _ (g : Held) (old new : List ℕ) (within : WithinMemory g old new) where
  -- nothing that isn't held changes
  pub memory_within : Within g old new
  memory_within = record {
    whole = within.whole;
    others = λ frame inside none.
        let under = under-held frame g in within.others frame inside (omega arith);
  }

  -- root and tables stay, since no frame is held twice
  memory_ground : IsHeld old g → SameGround old new g.root (table_frames g.regions g.frames)
  memory_ground held = record {
    of_root = λ frame is.
        let some = root-hits frame g.root is in
        let once = held.memory.once frame in
        let under = pages-hits frame g.regions g.frames in
        let parts = hits-take-drop frame (pages_of g.regions) g.frames in
        within.others frame (held.memory.inside frame (omega arith)) (omega arith);
    of_list = λ frame found.
        let some = hits-Contains frame (table_frames g.regions g.frames) found in
        let once = held.memory.once frame in
        let under = pages-hits frame g.regions g.frames in
        let parts = hits-take-drop frame (pages_of g.regions) g.frames in
        within.others frame (held.memory.inside frame (omega arith)) (omega arith);
  }

  pub memory_held : IsHeld old g → IsHeld new g
  memory_held held = record {
    memory = record {
      once = held.memory.once;
      inside = λ frame some.
          let was = held.memory.inside frame some in let same = within.whole in omega arith;
      size = held.memory.size;
    };
    order = order_same old new g (memory_ground held) held.order;
  }
