use Rattle.std.proofs.Common.{◌+◌, ◌*◌, ◌%◌, ◌^◌, ◌<◌, [], arith}
use Rattle.xv_region.specs.declared.plan.Kind.TheVariants.{Ram}
use Rattle.xv_host.specs.Monitor.{gpa_of, width_of_bus}
use Rattle.xv_host.proofs.EmulateLemmas.{cell_past}
use Rattle.xv_host.proofs.emulate.cell_of.Goals as goal

pub returns-then-trap : goal.returns-then-trap
returns-then-trap c =
    let trap = c.args.trap.now in
    let past : 2 ^ 41 < c.args.trap.now.htval * 4 + c.args.trap.now.tval % 4 =
    omega (arith, c.if-trap.true) in
    cell_past c.args.map.now (gpa_of trap) (width_of_bus c.args.access.now)
    (record { name = []; base = 0; size = 0; kind = Ram }) c.requires past
