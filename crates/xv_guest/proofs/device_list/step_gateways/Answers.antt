use Rattle.std.proofs.Common.{ℕ, map, ap, ◌∙◌}
use Rattle.xv_lone.specs.Device.{after_gateways, lifted_by, sources_up}
use Rattle.xv_guest.proofs.device_list.step_gateways.Goals as goal

pub returns : goal.returns
unfolding after_gateways
returns c =
    c.lift_all.ensures
    ∙ ap (λ (sources : ℕ). map (lifted_by sources) c.args.devices.now.items)
    (c.sources_up-sources.ensures.sources
    ∙ ap (sources_up c.args.regions.now) c.deref.ensures.value)
