use Rattle.std.proofs.Common.{◌∙◌, ◌++◌, true, false, length, take, sym, ap, append_assoc}
use Rattle.std.proofs.Common.{append-nil, arith}
use Rattle.std.proofs.lemmas.List.{take_all}
use Rattle.xv_top.specs.Lists.{port_line}
use Rattle.xv_top.proofs.ListLemmas.{more_lines, port_lines}
use Rattle.xv_top.proofs.lists.ports_of.Goals as goal
use Rattle.xv_top.proofs.lists.ports_of.Goals.{then-is_port, else-is_port}

pub loop-region-init : goal.loop-region-init
loop-region-init c = record { text = sym (append-nil c.args.printer.now); short = omega arith }

pub loop-region-preserved : goal.loop-region-preserved
loop-region-preserved c =
    let rs = c.args.regions.now in
    let i = c.loop-region.region-index in
    let name = c.args.name.now in
    let old = c.args.printer.now in
    let r = c.region-item.result in
    let inv = c.loop-region.invariant in
    let before = port_lines name (take i rs) in
    elim c.if-is_port.branch [
      | then-is_port w ↦ record {
        text = w.printer-is
            ∙ (w.port.ensures.text
            ∙ (ap (λ t. t ++ port_line name r) inv.text
            ∙ (append_assoc old before (port_line name r)
            ∙ ap (λ t. old ++ t) (sym (more_lines name rs i r true c.loop-region-test.true
            c.region-item.is (sym c.is_port.ensures ∙ w.if-is_port.true))))));
        short = omega (arith, ap length w.printer-is, w.port.ensures.short, inv.short);
      }
      | else-is_port w ↦ record {
        text = w.printer-is
            ∙ (inv.text
            ∙ ap (λ t. old ++ t) (sym (more_lines name rs i r false c.loop-region-test.true
            c.region-item.is (sym c.is_port.ensures ∙ w.if-is_port.false)
            ∙ append-nil before)));
        short = omega (arith, ap length w.printer-is, inv.short);
      }
    ]

pub returns : goal.returns
returns c =
    c.loop-region.invariant.text
    ∙ ap (λ xs. c.args.printer.now ++ port_lines c.args.name.now xs)
    (take_all c.loop-region.region-index c.args.regions.now c.loop-region-test.false)
