use Rattle.std.proofs.Common.{◌∙◌, Err, ap, inr}
use Rattle.xv_top.specs.declared.stop.LineStop.TheVariants.{FileFault, NoMemory}
use Rattle.xv_top.specs.declared.stop.Stop.TheVariants.{InLine}
use Rattle.xv_top.proofs.program.boot.Goals as goal

pub returns-in-Err-InLine-FileFault-clause-file_fault_sink :
    goal.returns-in-Err-InLine-FileFault-clause-file_fault_sink
returns-in-Err-InLine-FileFault-clause-file_fault_sink g c _ =
    let arm = c.in-Err-InLine-FileFault in
    arm.ensures.stopped FileFault (ap Err (arm.field-0-is ∙ ap InLine arm.field-0-0-is))

pub returns-in-Err-InLine-NoMemory-clause-memory_sink :
    goal.returns-in-Err-InLine-NoMemory-clause-memory_sink
returns-in-Err-InLine-NoMemory-clause-memory_sink g c _ =
    let arm = c.in-Err-InLine-NoMemory in
    inr (arm.ensures.stopped NoMemory (ap Err (arm.field-0-is ∙ ap InLine arm.field-0-0-is)))
