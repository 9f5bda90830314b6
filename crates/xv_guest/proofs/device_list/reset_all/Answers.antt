use Rattle.std.proofs.Common.{arith}
use Rattle.xv_lone.specs.Device.{device_reset}
use Rattle.xv_guest.proofs.DeviceLemmas.{changed_more}
use Rattle.xv_guest.proofs.device_list.reset_all.Goals as goal

pub loop-number-preserved : goal.loop-number-preserved
loop-number-preserved c =
    changed_more device_reset c.args.devices.now.items c.loop-number.devices.items
    c.loop-number.number c.index_mut.result.now c.reset.new.self c.loop-number.invariant
    (omega (arith, c.loop-number-test.true, c.len-number-end.ensures)) c.index_mut.ensures.value
    c.reset.ensures
