use Rattle.std.proofs.Common.{List, sym, subst, ap, ◌∙◌}
use Rattle.xv_region.specs.declared.plan.Region.{Region}
use Rattle.xv_lone.specs.Device.{Devices, after_input}
use Rattle.xv_guest.specs.Devices.{IsUart, shape_of}
use Rattle.xv_guest.specs.Guest.{Guest}
use Rattle.xv_guest.specs.Kept.{guest_of}
use Rattle.xv_guest.proofs.DeviceLemmas.{input_shape, input_step, step_shapes}
use Rattle.xv_guest.proofs.guest.Guest.input.Goals as goal

pub invariant_of-self-2 : goal.invariant_of-self-2
invariant_of-self-2 c =
    let device = c.index_mut.result.now in
    record {
      map = c.self.invariant.map;
      starts = c.self.invariant.starts;
      count = c.self.invariant.count;
      few = c.self.invariant.few;
      views = c.self.invariant.views;
      nothing = c.self.invariant.nothing;
      devices = step_shapes c.regions.result.now c.self.inside.devices.items
          c.step_gateways.new.devices.items c.args.region device c.input.new.self
          c.step_gateways.ensures c.index_mut.ensures.value
          (ap shape_of c.in_ok-input.ensures.input ∙ input_shape c.args.bytes.now device)
          ∙ c.self.invariant.devices;
      controller = c.self.invariant.controller;
      room = c.self.invariant.room;
    }

-- the guest with these devices
with_devices : Guest → Devices → Guest
with_devices g ds = record g { devices = ds }

pub returns-clause-input : goal.returns-clause-input
unfolding with_devices
returns-clause-input c =
    let ds = c.self.inside.devices.items in
    let regions = c.regions.ensures.value ∙ c.self.invariant.map in
    let P : Devices → Type 0 = λ xs. IsUart xs c.args.region in
    let uart = subst P (sym (ap (λ (g : Guest). g.devices) c.self.view_is)) c.requires.uart in
    ap (with_devices (guest_of c.self.inside))
    (input_step c.regions.result.now ds c.step_gateways.new.devices.items c.args.region
    c.args.bytes.now c.index_mut.result.now c.input.new.self uart c.step_gateways.ensures
    c.index_mut.ensures.value c.in_ok-input.ensures.input
    ∙ ap (λ (rs : List Region). after_input rs c.args.region c.args.bytes.now ds) regions)
    ∙ ap (λ (g : Guest).
    with_devices g (after_input g.plan.regions c.args.region c.args.bytes.now g.devices))
    c.self.view_is
