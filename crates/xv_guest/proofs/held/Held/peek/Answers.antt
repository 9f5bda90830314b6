use Rattle.std.proofs.Common.{sym, ◌∙◌, arith, length}
use Rattle.xv_guest.proofs.CellLemmas.{cell_inside}
use Rattle.xv_guest.proofs.held.Held.peek.Goals as goal

pub read_bytes-requires-clause-inside : goal.read_bytes-requires-clause-inside
read_bytes-requires-clause-inside c =
    (cell_inside c.args.mem.now c.args.self.now c.requires.held.memory
    c.cell.ensures.accepted c.args.gpa (length c.args.buf.now) c.in-Memory.region
    c.in-Memory.offset c.in-Memory.writable (sym c.cell.ensures.cell ∙ c.in-Memory.is)).0

pub read_bytes-requires-clause-small : goal.read_bytes-requires-clause-small
read_bytes-requires-clause-small c =
    let bounds = cell_inside c.args.mem.now c.args.self.now c.requires.held.memory
    c.cell.ensures.accepted c.args.gpa (length c.args.buf.now) c.in-Memory.region
    c.in-Memory.offset c.in-Memory.writable (sym c.cell.ensures.cell ∙ c.in-Memory.is) in
    omega (arith, bounds.1)
