use Rattle.std.proofs.Common.{Option, false, sym, ap, ◌∙◌}
use Rattle.std.specs.Option.{option_copied, option_map_or}
use Rattle.xv_bus.specs.Plic.{PlicUnit, context_line}
use Rattle.xv_lone.specs.Device.{external_line}
use Rattle.xv_guest.proofs.guest.Guest.external.Goals as goal

pub returns-in-Some : goal.returns-in-Some
unfolding external_line
returns-in-Some c =
    c.context_line.ensures
    ∙ ap (context_line c.in-Some.plic.now) c.vcpu.view_is
    ∙ ap (λ (o : Option PlicUnit).
    option_map_or (λ plic. context_line plic c.args.vcpu) o false)
    (sym (ap option_copied c.in-Some.is) ∙ c.plic.ensures)

pub returns-in-None : goal.returns-in-None
unfolding external_line
returns-in-None c =
    ap (λ (o : Option PlicUnit).
    option_map_or (λ plic. context_line plic c.args.vcpu) o false)
    (sym (ap option_copied c.in-None.is) ∙ c.plic.ensures)
