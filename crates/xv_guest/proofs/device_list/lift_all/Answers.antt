use Rattle.std.proofs.Common.{arith}
use Rattle.xv_lone.specs.Device.{lifted_by}
use Rattle.xv_guest.proofs.DeviceLemmas.{changed_more}
use Rattle.xv_guest.proofs.device_list.lift_all.Goals as goal

pub loop-number-preserved : goal.loop-number-preserved
loop-number-preserved c =
    changed_more (lifted_by c.args.sources) c.args.devices.now.items c.loop-number.devices.items
    c.loop-number.number c.index_mut.result.now c.lift.new.self c.loop-number.invariant
    (omega (arith, c.loop-number-test.true, c.len-number-end.ensures)) c.index_mut.ensures.value
    c.lift.ensures
