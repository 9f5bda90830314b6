use Rattle.std.proofs.Common.{◌≡◌, ◌∙◌, sym, ap}
use Rattle.xv_hart.proofs.ZeroLemmas.{same, zero_test, regs_zero}
use Rattle.xv_hart.proofs.regs.Regs.is_zero.Goals as goal

pub returns : goal.returns
returns c =
    let r = c.args.self.now in
    let e : c.eq.result ≡ zero_test r = c.eq.ensures ∙ ap (same r) c.zero.ensures in
    let d = regs_zero r in
    (λ t. d.0 (sym e ∙ t), λ z. e ∙ d.1 z)
