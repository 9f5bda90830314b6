use Rattle.std.proofs.Common.{◌≡◌, ◌∙◌, Bool, true, ◌&&◌, [], get_or}
use Rattle.std.proofs.Common.{Some, refl, sym, ap, subst, arith}
use Rattle.std.specs.List.{position}
use Rattle.std.specs.Str.{bytes_eq}
use Rattle.std.proofs.lemmas.Bool.{and_parts}
use Rattle.std.proofs.lemmas.List.Quantifiers.{position-Some}
use Rattle.xv_region.specs.declared.plan.DeviceKind.TheVariants.{Uart, Plic, Finisher}
use Rattle.xv_region.specs.declared.plan.Kind.{Kind}
use Rattle.xv_region.specs.declared.plan.Kind.TheVariants.{Ram, Rom, Reserved, Alias, Device}
use Rattle.xv_region.specs.declared.plan.Region.{Region}
use Rattle.xv_region.proofs.RuleLemmas.{sound-length}
use Rattle.xv_guest.specs.Devices.{IsUart, UartShape, shape_of_kind}
use Rattle.xv_guest.specs.Guest.{Guest}
use Rattle.xv_guest.proofs.DeviceLemmas.{uart_at}
use Rattle.xv_top.specs.Lists.{is_port, is_uart}
use Rattle.xv_top.proofs.manager.Manager.port.Goals as goal

nowhere : Region
nowhere = record { name = []; base = 0; size = 0; kind = Ram }

uart_shape : (kind : Kind) → is_uart kind ≡ true → shape_of_kind kind ≡ UartShape
uart_shape Ram is = cc
uart_shape Rom is = cc
uart_shape (Reserved host) is = cc
uart_shape (Alias target) is = cc
uart_shape (Device (Uart shift irq)) is = refl
uart_shape (Device Plic) is = cc
uart_shape (Device Finisher) is = cc

pub overflow_cast-result : goal.overflow_cast-result
overflow_cast-result c =
    let dev = c.args.dev.now in
    let rs = c.regions.result.now in
    let found = position-Some (λ (r : Region). is_port r && bytes_eq r.name dev) rs
    c.in_ok-region.region nowhere (sym c.in_ok-region.ensures) in
    let accepted = c.regions.ensures.accepted in
    let value = c.regions.ensures.value in
    let few = rw (sym value) at (sound-length _ accepted.sound) in
    omega (arith, found.0, few)

pub returns-clause-uart : goal.returns-clause-uart
returns-clause-uart c g at =
    let dev = c.args.dev.now in
    let named : Region → Bool = λ r. is_port r && bytes_eq r.name dev in
    let guest = c.guest-guest.result.now in
    let rs = c.regions.result.now in
    let k = c.in_ok-region.region in
    let is : rs ≡ guest.plan.regions = c.regions.ensures.value ∙ c.map.ensures in
    let there : position named guest.plan.regions ≡ Some k =
    ap (position named) (sym is) ∙ sym c.in_ok-region.ensures in
    let found = position-Some named guest.plan.regions k nowhere there in
    let r = get_or guest.plan.regions k nowhere in
    let parts = and_parts (is_port r) (bytes_eq r.name dev) found.1 in
    let uart = uart_at guest.plan.regions guest.devices k nowhere c.plan-plan.ensures.devices
    found.0
    (uart_shape r.kind parts.0) in
    let live = c.guest-guest.ensures in
    let same : guest ≡ g = cc in
    subst (λ (x : Guest). IsUart x.devices k) same uart
