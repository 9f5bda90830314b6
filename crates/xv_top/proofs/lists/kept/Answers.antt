use Rattle.std.proofs.Common.{◌∙◌, ◌<◌, [], ◌∷◌, ◌++◌, length, take, sym, ap, arith}
use Rattle.std.specs.List.{flat_map}
use Rattle.std.proofs.lemmas.List.{flat_map_more, take_more}
use Rattle.std.proofs.lemmas.Option.{get_or_from_slice_get, slice_get-get_or}
use Rattle.xv_print.specs.Escape.{escaped}
use Rattle.xv_top.proofs.lists.kept.Goals as goal
use Rattle.xv_top.proofs.lists.kept.Goals.{in-Some, in_default}

pub loop-at-preserved : goal.loop-at-preserved
loop-at-preserved c =
    let xs = c.args.serial.now.kept in
    let at = c.loop-at.at in
    let old = c.args.printer.now in
    let inv = c.loop-at.invariant in
    let inside : at < length xs = omega (arith, c.loop-at-test.true, c.kept_len-at-end.ensures.len)
    in
    elim c.match-kept_at.branch [
      | in-Some w ↦
          let byte = w.in-Some.byte in
          let here = get_or_from_slice_get xs at byte byte (sym c.kept_at.ensures ∙ w.in-Some.is) in
          record {
            text = w.printer-is
                ∙ (w.escaped.ensures.printed
                ∙ (ap (λ t. t ++ escaped byte) inv.text
                ∙ (flat_map_more escaped old (take at xs) byte
                ∙ ap (λ ys. old ++ flat_map escaped ys) (sym (take_more xs at byte inside
                ∙ ap (λ b. take at xs ++ b ∷ []) here)))));
            short = omega (arith, ap length w.printer-is, w.escaped.ensures.longer, inv.short);
          }
      | in_default w ↦ absurd (let e = slice_get-get_or xs at 0 inside in
          let none = w.in_default.is in let was = c.kept_at.ensures in cc)
    ]
