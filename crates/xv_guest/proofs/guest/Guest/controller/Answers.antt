use Rattle.std.proofs.Common.{IfSome, subst}
use Rattle.xv_guest.specs.Devices.{IsController}
use Rattle.xv_guest.specs.Guest.{Guest}
use Rattle.xv_guest.proofs.DeviceLemmas.{controller_if}
use Rattle.xv_guest.proofs.guest.Guest.controller.Goals as goal

pub returns-clause-plic : goal.returns-clause-plic
returns-clause-plic c =
    let P : Guest → Type 0 =
    λ g. IfSome c.self.inside.controller (λ region. IsController g.devices region) in
    subst P c.self.view_is
    (controller_if c.self.inside.plan.regions c.self.inside.devices.items
    c.self.invariant.devices c.self.inside.controller c.self.invariant.controller)
