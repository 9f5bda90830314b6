use Rattle.std.proofs.Common.{sym, ◌∙◌, subst, arith}
use Rattle.xv_bus.specs.Plic.{IsPlic}
use Rattle.xv_plic.proofs.ClaimLemmas.{none-best, best-next, best-stays, claim-none, claim-finds}
use Rattle.xv_plic.proofs.registers.Registers.first.Goals as goal
use Rattle.xv_plic.proofs.registers.Registers.first.Goals.{then-beats, else-beats}

pub loop-id-init : goal.loop-id-init
loop-id-init c = none-best c.args.self.now c.args.context

pub loop-id-preserved : goal.loop-id-preserved
loop-id-preserved c =
    elim c.if-beats.branch [
      | then-beats w ↦
          rw w.best-is
          (best-next c.args.self.now c.args.context c.loop-id.id c.loop-id.best c.loop-id-test.true
          c.loop-id.invariant (sym c.beats.ensures ∙ w.if-beats.true))
      | else-beats w ↦
          rw w.best-is
          (best-stays c.args.self.now c.args.context c.loop-id.id c.loop-id.best c.loop-id.invariant
          (sym c.beats.ensures ∙ w.if-beats.false))
    ]

pub beats-requires-clause-best : goal.beats-requires-clause-best
beats-requires-clause-best c = c.loop-id.invariant.source

pub returns-then-best-eq0-clause-claim : goal.returns-then-best-eq0-clause-claim
returns-then-best-eq0-clause-claim c =
    sym (claim-none c.args.self.now c.args.context c.loop-id.id c.loop-id.best
    (subst IsPlic c.self.view_is c.self.invariant) c.loop-id.invariant c.loop-id-test.false
    c.if-best-eq0.true)

pub returns-else-best-eq0-clause-claim : goal.returns-else-best-eq0-clause-claim
returns-else-best-eq0-clause-claim c =
    sym (claim-finds c.args.self.now c.args.context c.loop-id.id c.loop-id.best c.loop-id.invariant
    c.loop-id-test.false (omega arith))

pub returns-else-best-eq0-clause-source : goal.returns-else-best-eq0-clause-source
returns-else-best-eq0-clause-source c = (omega arith, c.loop-id.invariant.source)
