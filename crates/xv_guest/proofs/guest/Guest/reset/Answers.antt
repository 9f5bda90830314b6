use Rattle.std.proofs.Common.{List, sym, ◌∙◌, ap, length, map, subst}
use Rattle.std.specs.List.{All}
use Rattle.std.proofs.lemmas.List.{length-map}
use Rattle.xv_lone.specs.declared.vcpu.VcpuView.{VcpuView}
use Rattle.xv_lone.specs.Vcpu.{reset_vcpu}
use Rattle.xv_region.specs.declared.plan.VcpuPlan.{VcpuPlan}
use Rattle.xv_lone.specs.Device.{device_reset}
use Rattle.xv_guest.specs.Devices.{shape_of}
use Rattle.xv_guest.specs.Guest.{IsView}
use Rattle.xv_guest.proofs.DeviceLemmas.{reset_shape, shapes_stay}
use Rattle.xv_guest.proofs.ViewLemmas.{reset_views}
use Rattle.xv_guest.proofs.guest.Guest.reset.Goals as goal

pub invariant_of-self : goal.invariant_of-self
invariant_of-self c =
    let plans = c.self.inside.plan.vcpus in
    let vcpus = c.reset_each.ensures.vcpus in
    record {
      map = c.self.invariant.map;
      starts = c.self.invariant.starts;
      count = ap length vcpus ∙ length-map plans (λ (v : VcpuPlan). reset_vcpu v.start);
      few = c.self.invariant.few;
      views =
          let P : List VcpuView → Type 0 = λ views. All IsView views in
          subst P (sym vcpus) (reset_views plans c.self.invariant.starts);
      nothing = c.self.invariant.nothing;
      devices =
          ap (map shape_of) c.reset_all.ensures
          ∙ shapes_stay device_reset reset_shape c.self.inside.devices.items
          ∙ c.self.invariant.devices;
      controller = c.self.invariant.controller;
      room = c.self.invariant.room;
    }
