use Rattle.std.proofs.Common.{false, get_or, le-ltb, sym, ap, ◌∙◌, arith}
use Rattle.xv_bus.specs.Plic.{PlicUnit, context_line}
use Rattle.xv_plic.proofs.LineLemmas.{absent_line, line_at}
use Rattle.xv_plic.proofs.plic.Plic.context_line.Goals as goal

pub returns-then-context-lt8 : goal.returns-then-context-lt8
returns-then-context-lt8 c =
    ap (λ ls. get_or ls c.args.context false) c.self.invariant.0
    ∙ line_at c.self.inside.registers c.args.context c.if-context-lt8.true
    ∙ ap (λ (plic : PlicUnit). context_line plic c.args.context) c.self.view_is

pub returns-else-context-lt8 : goal.returns-else-context-lt8
returns-else-context-lt8 c =
    let absent = absent_line c.self.inside.registers c.args.context
    c.contexts-contexts.ensures.held (omega (arith, c.self.invariant.1, c.if-context-lt8.false)) in
    le-ltb c.args.context 8 c.if-context-lt8.false
    ∙ sym (ap (λ (plic : PlicUnit). context_line plic c.args.context) (sym c.self.view_is) ∙ absent)
