use Rattle.std.proofs.Common.{◌∙◌, List, sym, ap}
use Rattle.xv_region.specs.declared.cell.Cell.TheVariants as cells
use Rattle.xv_region.specs.declared.plan.Region.{Region}
use Rattle.xv_region.specs.Cell.{cell}
use Rattle.xv_host.specs.Monitor.{gpa_of, width_of_bus}
use Rattle.xv_host.proofs.EmulateLemmas.{device_at, found_is}
use Rattle.xv_host.proofs.emulate.find_access.Goals as goal

pub returns-in-Device-clause-some : goal.returns-in-Device-clause-some
returns-in-Device-clause-some g c plan regions =
    let r = c.args.regs.now in
    let trap = c.args.trap.now in
    let access = c.in_ok-access.access in
    found_is plan r c.args.mem.now trap c.in_ok-word.word c.in_ok-insn.insn access
    c.if-trap-ne0.false (sym c.in_ok-word.ensures.word)
    (sym c.in_ok-insn.ensures.value)
    (sym c.in_ok-access.ensures.access) c.in-Device.region c.in-Device.offset
    c.next_pc.result
    (sym c.in-Device.is ∙ (c.cell_of.ensures
    ∙ ap (λ (rs : List Region). cell rs (gpa_of trap) (width_of_bus access)) (sym regions)))
    c.next_pc.ensures c.in_ok-access.ensures.load c.in_ok-insn.ensures.range
    c.in_ok-access.ensures.fits

pub returns-in-Memory-clause-none : goal.returns-in-Memory-clause-none
returns-in-Memory-clause-none g c plan regions none =
    let r = c.args.regs.now in
    let trap = c.args.trap.now in
    let access = c.in_ok-access.access in
    device_at plan r c.args.mem.now trap c.in_ok-word.word c.in_ok-insn.insn access
    c.if-trap-ne0.false (sym c.in_ok-word.ensures.word)
    (sym c.in_ok-insn.ensures.value)
    (sym c.in_ok-access.ensures.access)
    (cells.Memory c.in-Memory.region c.in-Memory.offset c.in-Memory.writable)
    (sym c.in-Memory.is ∙ (c.cell_of.ensures
    ∙ ap (λ (rs : List Region). cell rs (gpa_of trap) (width_of_bus access)) (sym regions)))

pub returns-in-Nothing-clause-none : goal.returns-in-Nothing-clause-none
returns-in-Nothing-clause-none g c plan regions none =
    let r = c.args.regs.now in
    let trap = c.args.trap.now in
    let access = c.in_ok-access.access in
    device_at plan r c.args.mem.now trap c.in_ok-word.word c.in_ok-insn.insn access
    c.if-trap-ne0.false (sym c.in_ok-word.ensures.word)
    (sym c.in_ok-insn.ensures.value)
    (sym c.in_ok-access.ensures.access) cells.Nothing
    (sym c.in-Nothing.is ∙ (c.cell_of.ensures
    ∙ ap (λ (rs : List Region). cell rs (gpa_of trap) (width_of_bus access)) (sym regions)))
