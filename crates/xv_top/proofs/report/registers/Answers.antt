use Rattle.std.proofs.Common.{◌++◌, sym, ap, ◌∙◌, append_assoc, append-nil, add-one, arith}
use Rattle.xv_top.specs.Texts.{registers_text, register_text}
use Rattle.xv_top.proofs.report.registers.Goals as goal

pub loop-number-init : goal.loop-number-init
unfolding registers_text
loop-number-init c = record { text = sym (append-nil c.args.printer.now); short = omega arith }

pub loop-number-preserved : goal.loop-number-preserved
unfolding registers_text
loop-number-preserved c =
    let i = c.loop-number.number in
    let x = c.args.x.now in
    record {
      text = rw add-one (c.register.ensures.text
          ∙ (ap (λ t. t ++ register_text x i) c.loop-number.invariant.text
          ∙ append_assoc c.args.printer.now (registers_text x i) (register_text x i)));
      short = omega (arith, c.register.ensures.short, c.loop-number.invariant.short);
    }
