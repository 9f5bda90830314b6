use Rattle.std.proofs.Common.{Option, ap, sym, ◌∙◌, arith, length}
use Rattle.std.specs.Option.{is_some, unwrap_or}
use Rattle.xv_lone.specs.Memory.{Memory}
use Rattle.xv_guest.specs.Held.{memory_of}
use Rattle.xv_guest.specs.OwnMemory.{bare_plan}
use Rattle.xv_guest.proofs.CellLemmas.{cell_inside}
use Rattle.xv_guest.proofs.OwnMemoryLemmas.{store_device, store_nothing, store_ram, store_rom}
use Rattle.xv_guest.proofs.held.Held.write.Goals as goal

pub put_bytes-requires-clause-inside : goal.put_bytes-requires-clause-inside
put_bytes-requires-clause-inside c =
    (cell_inside c.args.mem.now c.args.self.now c.requires.held.memory
    c.cell.ensures.accepted c.args.gpa (length c.args.bytes.now) c.in-Memory.region
    c.in-Memory.offset c.in-Memory.writable (sym c.cell.ensures.cell ∙ c.in-Memory.is)).0

pub put_bytes-requires-clause-small : goal.put_bytes-requires-clause-small
put_bytes-requires-clause-small c =
    let bounds = cell_inside c.args.mem.now c.args.self.now c.requires.held.memory
    c.cell.ensures.accepted c.args.gpa (length c.args.bytes.now) c.in-Memory.region
    c.in-Memory.offset c.in-Memory.writable (sym c.cell.ensures.cell ∙ c.in-Memory.is) in
    omega (arith, bounds.1)

pub returns-then-not-writable-clause-there : goal.returns-then-not-writable-clause-there
returns-then-not-writable-clause-there c =
    let g = c.args.self.now in
    let m = memory_of c.args.mem.now c.args.self.now in
    sym (ap is_some (store_rom (bare_plan g) m c.args.gpa c.args.bytes.now c.in-Memory.region
    c.in-Memory.offset c.in-Memory.writable (sym c.cell.ensures.cell ∙ c.in-Memory.is)
    c.if-not-writable.true))

pub returns-then-not-writable-clause-stored : goal.returns-then-not-writable-clause-stored
returns-then-not-writable-clause-stored c =
    let g = c.args.self.now in
    let m = memory_of c.args.mem.now c.args.self.now in
    sym (ap (λ (o : Option Memory). unwrap_or o m)
    (store_rom (bare_plan g) m c.args.gpa c.args.bytes.now c.in-Memory.region
    c.in-Memory.offset c.in-Memory.writable (sym c.cell.ensures.cell ∙ c.in-Memory.is)
    c.if-not-writable.true))

pub returns-else-not-writable-clause-there : goal.returns-else-not-writable-clause-there
returns-else-not-writable-clause-there c =
    let g = c.args.self.now in
    let m = memory_of c.args.mem.now c.args.self.now in
    sym (ap is_some (store_ram (bare_plan g) m c.args.gpa c.args.bytes.now c.in-Memory.region
    c.in-Memory.offset c.in-Memory.writable (sym c.cell.ensures.cell ∙ c.in-Memory.is)
    c.if-not-writable.false))

pub returns-else-not-writable-clause-stored : goal.returns-else-not-writable-clause-stored
returns-else-not-writable-clause-stored c =
    let g = c.args.self.now in
    let m = memory_of c.args.mem.now c.args.self.now in
    c.put_bytes.ensures.memory
    ∙ sym (ap (λ (o : Option Memory). unwrap_or o m)
    (store_ram (bare_plan g) m c.args.gpa c.args.bytes.now c.in-Memory.region
    c.in-Memory.offset c.in-Memory.writable (sym c.cell.ensures.cell ∙ c.in-Memory.is)
    c.if-not-writable.false))

pub returns-in-Device-clause-there : goal.returns-in-Device-clause-there
returns-in-Device-clause-there c =
    let g = c.args.self.now in
    let m = memory_of c.args.mem.now c.args.self.now in
    sym (ap is_some (store_device (bare_plan g) m c.args.gpa c.args.bytes.now c.in-Device.region
    c.in-Device.offset (sym c.cell.ensures.cell ∙ c.in-Device.is)))

pub returns-in-Device-clause-stored : goal.returns-in-Device-clause-stored
returns-in-Device-clause-stored c =
    let g = c.args.self.now in
    let m = memory_of c.args.mem.now c.args.self.now in
    sym (ap (λ (o : Option Memory). unwrap_or o m)
    (store_device (bare_plan g) m c.args.gpa c.args.bytes.now c.in-Device.region
    c.in-Device.offset (sym c.cell.ensures.cell ∙ c.in-Device.is)))

pub returns-in-Nothing-clause-there : goal.returns-in-Nothing-clause-there
returns-in-Nothing-clause-there c =
    let g = c.args.self.now in
    let m = memory_of c.args.mem.now c.args.self.now in
    sym (ap is_some (store_nothing (bare_plan g) m c.args.gpa c.args.bytes.now
    (sym c.cell.ensures.cell ∙ c.in-Nothing.is)))

pub returns-in-Nothing-clause-stored : goal.returns-in-Nothing-clause-stored
returns-in-Nothing-clause-stored c =
    let g = c.args.self.now in
    let m = memory_of c.args.mem.now c.args.self.now in
    sym (ap (λ (o : Option Memory). unwrap_or o m)
    (store_nothing (bare_plan g) m c.args.gpa c.args.bytes.now
    (sym c.cell.ensures.cell ∙ c.in-Nothing.is)))
