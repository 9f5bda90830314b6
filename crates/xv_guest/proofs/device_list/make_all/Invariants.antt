use Rattle.std.proofs.Common.{◌≡◌, map, take, length}
use Rattle.xv_lone.specs.Device.{new_device}
use Rattle.xv_guest.proofs.device_list.make_all.Given as goal

abbrev pub invariant-loop-region : goal.invariant-loop-region
invariant-loop-region l =
    l.devices.items
    ≡ map (λ r. new_device (length l.plan.vcpus) r.kind) (take l.region-index l.regions)
