-- A guest's tables, as a step of the hart needs them.
use Rattle.std.proofs.Common.{◌≡◌, ℕ, ◌+◌, ◌*◌, ◌≤◌, List, length, arith, refl}
use Rattle.xv_pte.specs.GStage.{IsTableOf}
use Rattle.xv_gstage.specs.Own.{pages_of, table_frames}
use Rattle.xv_gstage.proofs.Lists.{take-contains}
use Rattle.xv_region.specs.Plan.{Plan}
use Rattle.xv_region.specs.Rules.{Accepted}
use Rattle.xv_hart.specs.Stage.{HasStage}
use Rattle.xv_guest.specs.Guest.{Guest, held_of}
use Rattle.xv_guest.specs.Held.{Held, IsHeld}
use Rattle.xv_guest.proofs.FrameLemmas.{hits-take-drop}
use Rattle.xv_guest.proofs.HeldLemmas.{hits-Contains, root-hits}
use Rattle.xv_lone.specs.declared.vcpu.VcpuView.{VcpuView}
use Rattle.xv_host.specs.Join.{IsGoodFor}
use Rattle.xv_host.specs.OnHart.{MayRun}
use Rattle.xv_host.proofs.JoinLemmas.{leaf_inside, within_both}

module _ (g : Held) (bytes : List ℕ) (held : IsHeld bytes g) where
  pub root_inside : 16384 * g.root + 16384 ≤ length bytes
  root_inside =
      let some = root-hits (4 * g.root + 3) g.root (omega arith) in
      let inside = held.memory.inside (4 * g.root + 3) (omega arith) in
      omega arith

  pub table_inside : (table : ℕ) → IsTableOf bytes g.root table → 4096 * table + 4096 ≤ length bytes
  table_inside table is =
      let tidy = held.order.tidy in
      let found = take-contains tidy.0 (table_frames g.regions g.frames) table
      ((tidy.1.tables table).0 is) in
      let some = hits-Contains table (table_frames g.regions g.frames) found in
      let parts = hits-take-drop table (pages_of g.regions) g.frames in
      held.memory.inside table (omega arith)

  pub has_stage : (plan : Plan) → plan.regions ≡ g.regions → Accepted g.regions
      → HasStage bytes g.root
  has_stage plan same accepted = record {
    tables = record {
      root_inside = let inside = root_inside in omega arith;
      tables_inside = λ table is. let inside = table_inside table is in omega arith;
    };
    leaves = λ gpa leaf is. leaf_inside g plan bytes same accepted held gpa leaf is;
  }

-- the guest is held, and nothing has changed
pub good_first : (g : Held) (bytes : List ℕ) → IsHeld bytes g → IsGoodFor g bytes bytes
good_first g bytes held = record {
  held = held;
  within = record { whole = refl; others = λ frame inside none. refl };
}

-- two changes, one after another
pub good_both : (g : Held) (first middle last : List ℕ) → IsGoodFor g first middle
    → IsGoodFor g middle last → IsGoodFor g first last
good_both g first middle last one two = record {
  held = two.held;
  within = within_both first middle last one.within two.within;
}

-- so the VCPU may run on
pub may_again : (g : Guest) (h : ℕ) (v : VcpuView) (old new : List ℕ) → MayRun g h v old
    → IsGoodFor (held_of g) old new → MayRun g h v new
may_again g h v old new may good = record {
  held = good.held;
  accepted = may.accepted;
  root = may.root;
  small = may.small;
  vcpu = may.vcpu;
  view = may.view;
}
