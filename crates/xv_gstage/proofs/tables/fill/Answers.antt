use Rattle.std.proofs.Common.{◌^◌, ◌≤◌, arith, length}
use Rattle.xv_gstage.proofs.FillLemmas.{own-fits}
use Rattle.xv_gstage.proofs.tables.fill.Goals as goal

pub write_leaf-requires-clause-fits : goal.write_leaf-requires-clause-fits
write_leaf-requires-clause-fits g c =
    let whole = c.frames-bound.ensures.whole in
    let bound : length c.args.mem.now ≤ 2 ^ 44 = omega arith in
    let low = own-fits c.args.root c.args.map.now c.args.frames.now c.own_page-own.ensures.accepted
    c.args.mem.now c.requires.frames bound c.args.page c.own_page-own.result
    c.own_page-own.ensures.own in
    omega arith
