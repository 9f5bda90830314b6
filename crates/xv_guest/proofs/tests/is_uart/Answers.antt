use Rattle.std.proofs.Common.{◌≡◌, List, sym, ap, ◌∙◌, map, subst}
use Rattle.xv_region.specs.declared.plan.Region.{Region}
use Rattle.xv_region.specs.Plan.{Plan}
use Rattle.xv_guest.specs.Devices.{shape_of, shape_of_kind}
use Rattle.xv_guest.proofs.DeviceLemmas.{uart_at}
use Rattle.xv_guest.proofs.tests.is_uart.Goals as goal

pub returns-then-number-regions : goal.returns-then-number-regions
returns-then-number-regions c = λ is.
    let ds = c.args.guest.now.devices in
    let regions : c.deref-regions.result.now ≡ c.args.guest.now.plan.regions =
    c.deref-regions.ensures.value ∙ ap (λ (p : Plan). p.regions) c.behind-guest.view_is
    ∙ ap (λ (p : Plan). p.regions) c.plan.ensures.plan in
    let P : List Region → Type 0 =
    λ rs. map shape_of ds ≡ map (λ (r : Region). shape_of_kind r.kind) rs in
    uart_at c.deref-regions.result.now ds c.args.region c.index-regions-number.result
    (subst P (sym regions) c.plan.ensures.devices) c.if-number-regions.true (c.uart_kind.ensures is)
