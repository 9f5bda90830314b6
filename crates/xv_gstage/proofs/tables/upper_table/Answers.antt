use Rattle.std.proofs.Common.{◌+◌, ◌*◌, ◌/◌, refl, arith}
use Rattle.xv_gstage.proofs.FillLemmas.{blocks-of, entry-inside, hung-of, page-low, room-left}
use Rattle.xv_gstage.proofs.FillLemmas.{upper-touched}
use Rattle.xv_gstage.proofs.Room.{need-pages}
use Rattle.xv_gstage.proofs.tables.upper_table.Goals as goal

pub table_at-requires-clause-inside : goal.table_at-requires-clause-inside
table_at-requires-clause-inside g c =
    entry-inside c.args.root c.args.map.now c.args.frames.now c.requires.accepted c.args.mem.now
    c.requires.frames c.requires.bounded c.args.used c.requires.tidy 0 (c.args.page / 512 / 512)
    _
    (blocks-of c.args.page
    (page-low c.args.map.now c.args.page c.requires.memory c.requires.accepted)).0
    refl (upper-touched c.args.map.now c.args.page c.requires.memory)

pub table_at-requires-clause-room : goal.table_at-requires-clause-room
table_at-requires-clause-room g c = λ free.
    rw c.tables_of-tables.ensures.tables
    (room-left c.args.root c.args.map.now c.args.frames.now c.requires.accepted
    c.args.mem.now
    c.requires.frames c.requires.bounded c.args.used c.requires.tidy 0 (c.args.page / 512 / 512)
    (2048 * c.args.root + c.args.page / 512 / 512)
    (blocks-of c.args.page
    (page-low c.args.map.now c.args.page c.requires.memory c.requires.accepted)).0
    refl (upper-touched c.args.map.now c.args.page c.requires.memory) free)

pub returns-clause-hung : goal.returns-clause-hung
returns-clause-hung g c =
    let low = page-low c.args.map.now c.args.page c.requires.memory c.requires.accepted in
    hung-of c.args.root c.args.map.now c.args.frames.now c.requires.accepted c.args.mem.now
    c.requires.frames c.requires.bounded c.args.used c.requires.tidy 0 (c.args.page / 512 / 512)
    (2048 * c.args.root + c.args.page / 512 / 512)
    (blocks-of c.args.page low).0
    refl (upper-touched c.args.map.now c.args.page c.requires.memory) _ _ _
    c.tables_of-tables.ensures.tables c.table_at.ensures.found c.args.page low c.requires.unled
    (λ one. cc)

pub tables_of-tables-requires : goal.tables_of-tables-requires
tables_of-tables-requires g c =
    let enough = c.requires.frames.enough in
    let le = need-pages c.args.map.now in
    record { room = omega arith }
