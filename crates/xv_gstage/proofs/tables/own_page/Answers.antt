use Rattle.std.proofs.Common.{arith}
use Rattle.xv_gstage.proofs.FillLemmas.{page-low}
use Rattle.xv_gstage.proofs.OwnPages.{own-is}
use Rattle.xv_gstage.proofs.Room.{need-pages}
use Rattle.xv_gstage.proofs.tables.own_page.Goals as goal

pub own_of-requires-clause-room : goal.own_of-requires-clause-room
own_of-requires-clause-room c =
    let enough = c.requires.enough in
    let le = need-pages c.args.map.now in
    omega arith

pub own_of-requires-clause-small : goal.own_of-requires-clause-small
own_of-requires-clause-small c =
    let low = page-low c.args.map.now c.args.page c.requires.memory
    c.regions-regions.ensures.accepted in
    omega arith

pub unreachable-requires : goal.unreachable-requires
unreachable-requires c =
    let enough = c.requires.enough in
    let le = need-pages c.args.map.now in
    let is = own-is c.args.map.now c.regions-regions.ensures.accepted
    c.args.frames.now (omega arith)
    c.args.page c.requires.memory in
    let none = c.own_of.ensures in
    let no_own = c.in_default.is in
    cc

pub returns-clause-low : goal.returns-clause-low
returns-clause-low c =
    page-low c.args.map.now c.args.page c.requires.memory c.regions-regions.ensures.accepted
