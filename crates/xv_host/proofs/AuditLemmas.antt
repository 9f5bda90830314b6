-- What an audit of a guest needs, and what it counts.
use Rattle.std.proofs.Common.{◌≡◌, ℕ, List, length, arith}
use Rattle.std.specs.List.{sum_by}
use Rattle.xv_pte.specs.GStage.{HasTables}
use Rattle.xv_gstage.specs.Audit.{audited, mapped_pages}
use Rattle.xv_gstage.specs.Memory.{HasFrames}
use Rattle.xv_gstage.specs.Own.{reserved_frames}
use Rattle.xv_gstage.proofs.StandsLemmas.{all-right}
use Rattle.xv_region.specs.Rules.{Accepted}
use Rattle.xv_guest.specs.Held.{Held, IsHeld}
use Rattle.xv_guest.proofs.HeldLemmas.{hits-Contains, once-pairs, root-hits}
use Rattle.xv_host.proofs.StageLemmas.{root_inside, table_inside}

module _ (g : Held) (bytes : List ℕ) (held : IsHeld bytes g) where
  has_frames : HasFrames (length bytes) g.root g.regions g.frames
  has_frames = record {
    lie = record {
      root_inside = root_inside g bytes held;
      inside = λ frame found.
          let some = hits-Contains frame g.frames found in
          held.memory.inside frame (omega arith);
    };
    enough = held.memory.size;
    once = once-pairs g.frames (λ frame. let most = held.memory.once frame in omega arith);
    off_root = λ frame found is.
        let some = hits-Contains frame g.frames found in
        let root = root-hits frame g.root is in
        let most = held.memory.once frame in
        absurd (omega arith);
    reserved = λ frame found.
        let some = hits-Contains frame (reserved_frames g.regions) found in
        held.memory.inside frame (omega arith);
  }

  pub has_tables : HasTables bytes g.root
  has_tables = record {
    root_inside = let inside = root_inside g bytes held in omega arith;
    tables_inside = λ table is. let inside = table_inside g bytes held table is in omega arith;
  }

  pub all_led : Accepted g.regions
      → audited bytes g.root g.regions g.frames ≡ sum_by mapped_pages g.regions
  all_led accepted =
      all-right g.regions accepted g.frames bytes g.root has_frames held.order.led
