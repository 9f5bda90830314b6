use Rattle.std.proofs.Common.{sym, ap, ◌∙◌}
use Rattle.xv_lone.specs.Device.{controller}
use Rattle.xv_guest.specs.Guest.{Guest}
use Rattle.xv_guest.specs.State.{plic_of}
use Rattle.xv_guest.proofs.DeviceLemmas.{controller_at, device_there, no_controller}
use Rattle.xv_guest.proofs.guest.Guest.plic.Goals as goal

pub returns-in-Some : goal.returns-in-Some
returns-in-Some c =
    let ds = c.self.inside.devices.items in
    let found = controller_at c.self.inside.plan.regions ds c.self.invariant.devices
    c.in-Some.region (sym c.self.invariant.controller ∙ c.in-Some.is) in
    c.plic.ensures
    ∙ ap plic_of (device_there ds c.in-Some.region c.index.result.now c.index.ensures found.0)
    ∙ sym found.1
    ∙ ap (λ (g : Guest). controller g.devices) c.self.view_is

pub returns-in-None : goal.returns-in-None
returns-in-None c =
    sym (no_controller c.self.inside.plan.regions c.self.inside.devices.items
    c.self.invariant.devices (sym c.self.invariant.controller ∙ c.in-None.is))
    ∙ ap (λ (g : Guest). controller g.devices) c.self.view_is
