use Rattle.std.proofs.Common.{sym, ◌∙◌, arith, length}
use Rattle.xv_guest.proofs.CellLemmas.{cell_inside}
use Rattle.xv_guest.proofs.held.Held.store.Goals as goal

pub put_bytes-requires-clause-inside : goal.put_bytes-requires-clause-inside
put_bytes-requires-clause-inside c =
    (cell_inside c.args.mem.now c.args.self.now c.requires.held.memory
    c.cell.ensures.accepted c.args.gpa (length c.args.bytes.now) c.in-Memory.region
    c.in-Memory.offset c.in-Memory.writable (sym c.cell.ensures.cell ∙ c.in-Memory.is)).0

pub put_bytes-requires-clause-small : goal.put_bytes-requires-clause-small
put_bytes-requires-clause-small c =
    let bounds = cell_inside c.args.mem.now c.args.self.now c.requires.held.memory
    c.cell.ensures.accepted c.args.gpa (length c.args.bytes.now) c.in-Memory.region
    c.in-Memory.offset c.in-Memory.writable (sym c.cell.ensures.cell ∙ c.in-Memory.is) in
    omega (arith, bounds.1)
