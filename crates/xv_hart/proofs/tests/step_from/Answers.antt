use Rattle.std.proofs.Common.{◌≡◌, ◌≤◌, ◌∙◌, ℕ, List, length, subst, sym, ap, arith}
use Rattle.xv_hcsr.specs.Stage.{root_of}
use Rattle.xv_hart.specs.Closed.{IsClosed}
use Rattle.xv_hart.specs.Stage.{HasStage}
use Rattle.xv_hart.proofs.ClosedLemmas.{stage_of_closed}
use Rattle.xv_hart.proofs.tests.step_from.Goals as goal

stage_of_root : {root : ℕ} → (mem : List ℕ) → root ≡ 3 → 0x80_0000 ≤ length mem → IsClosed mem
    → HasStage mem root
stage_of_root mem is long closed =
    subst (HasStage mem) (sym is) (stage_of_closed mem 3 (omega (arith, long)) closed)

pub fetch-fetched-requires-clause-memory : goal.fetch-fetched-requires-clause-memory
fetch-fetched-requires-clause-memory g c =
    stage_of_root c.store-2.new.memory c.requires.root
    (omega (
      arith,
      c.in_ok-machine.ensures.memory,
      c.store_all.ensures.len,
      c.store_all-2.ensures.len,
      c.store.ensures.len,
      c.store-2.ensures.len,
    )) c.store-2.ensures.closed

pub step-exit-requires-clause-memory : goal.step-exit-requires-clause-memory
step-exit-requires-clause-memory g c =
    stage_of_root c.store-2.new.memory
    (ap (λ r. root_of r.h) c.set_regs.ensures.regs ∙ c.requires.root)
    (omega (
      arith,
      c.in_ok-machine.ensures.memory,
      c.store_all.ensures.len,
      c.store_all-2.ensures.len,
      c.store.ensures.len,
      c.store-2.ensures.len,
    )) c.store-2.ensures.closed
