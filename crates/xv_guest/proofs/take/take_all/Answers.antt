use Rattle.std.proofs.Common.{◌∙◌}
use Rattle.xv_guest.proofs.TakeLemmas.{read_frames, read_apart, read_tables, read_root, read_held}
use Rattle.xv_guest.proofs.TakeLemmas.{read_memory}
use Rattle.xv_guest.proofs.take.take_all.Goals as goal

pub fill_tables-requires-clause-frames : goal.fill_tables-requires-clause-frames
fill_tables-requires-clause-frames c =
    let t = c.take_numbers-root.ensures in
    read_frames c.args.mem.now c.args.pool.now c.args.map.now c.free-free.ensures.sound t.accepted
    c.requires.may c.take_numbers-root.result c.deref.result.now t.root
    (c.deref.ensures.value ∙ t.frames) t.small t.enough

pub fill_tables-requires-clause-root : goal.fill_tables-requires-clause-root
fill_tables-requires-clause-root c =
    let t = c.take_numbers-root.ensures in
    read_root c.args.mem.now c.args.pool.now c.args.map.now c.free-free.ensures.sound t.accepted
    c.requires.may c.take_numbers-root.result c.deref.result.now t.root
    (c.deref.ensures.value ∙ t.frames) t.small t.enough

pub fill_tables-requires-clause-zeros : goal.fill_tables-requires-clause-zeros
fill_tables-requires-clause-zeros c =
    let t = c.take_numbers-root.ensures in
    read_tables c.args.mem.now c.args.pool.now c.args.map.now c.free-free.ensures.sound t.accepted
    c.requires.may c.take_numbers-root.result c.deref.result.now t.root
    (c.deref.ensures.value ∙ t.frames) t.small t.enough

pub fill_tables-requires-clause-apart : goal.fill_tables-requires-clause-apart
fill_tables-requires-clause-apart c =
    let t = c.take_numbers-root.ensures in
    read_apart c.args.mem.now c.args.pool.now c.args.map.now c.free-free.ensures.sound t.accepted
    c.requires.may c.take_numbers-root.result c.deref.result.now t.root
    (c.deref.ensures.value ∙ t.frames) t.small t.enough

pub returns-clause-held : goal.returns-clause-held
returns-clause-held c =
    let t = c.take_numbers-root.ensures in
    let f = c.fill_tables.ensures in
    let frames = c.take_numbers-root.new.frames.items in
    rw (← c.deref.ensures.value)
    (read_held c.args.mem.now c.args.pool.now c.args.map.now c.free-free.ensures.sound t.accepted
    c.requires.may c.take_numbers-root.result c.deref.result.now t.root
    (c.deref.ensures.value ∙ t.frames) t.small t.enough c.fill_tables.new.mem f.outside f.led
    f.tidy)

pub returns-clause-zeros : goal.returns-clause-zeros
returns-clause-zeros c =
    let t = c.take_numbers-root.ensures in
    let f = c.fill_tables.ensures in
    rw (← c.deref.ensures.value)
    (read_memory c.args.mem.now c.args.pool.now c.args.map.now c.free-free.ensures.sound t.accepted
    c.requires.may c.take_numbers-root.result c.deref.result.now t.root
    (c.deref.ensures.value ∙ t.frames) t.small t.enough c.fill_tables.new.mem f.outside f.pages)
