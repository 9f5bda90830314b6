use Rattle.std.proofs.Common.{◌≡◌, map, take, drop, ◌++◌}
use Rattle.xv_lone.specs.Device.{device_reset}
use Rattle.xv_guest.proofs.device_list.reset_all.Given as goal

abbrev pub invariant-loop-number : goal.invariant-loop-number
invariant-loop-number l =
    l.devices.items
    ≡ map device_reset (take l.number l.initial.devices.items)
    ++ drop l.number l.initial.devices.items
