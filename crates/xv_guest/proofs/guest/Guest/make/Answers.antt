use Rattle.std.proofs.Common.{◌≡◌, List, rules, sym, ◌∙◌, ap, arith, length, map, subst}
use Rattle.std.specs.List.{All, position}
use Rattle.std.proofs.lemmas.List.{length-map}
use Rattle.xv_lone.specs.declared.vcpu.VcpuView.{VcpuView}
use Rattle.xv_lone.specs.Vcpu.{reset_vcpu}
use Rattle.xv_lone.specs.Machine.{reset_vcpus}
use Rattle.xv_region.specs.declared.plan.VcpuPlan.{VcpuPlan}
use Rattle.xv_region.specs.Need.{need}
use Rattle.xv_guest.specs.Devices.{has_plic, shape_of}
use Rattle.xv_guest.specs.Guest.{IsView}
use Rattle.xv_guest.proofs.DeviceLemmas.{new_shapes}
use Rattle.xv_guest.proofs.ViewLemmas.{reset_views}
use Rattle.xv_guest.proofs.guest.Guest.make.Goals as goal

pub invariant_of-result : goal.invariant_of-result
invariant_of-result c =
    let vcpus : c.in_ok-vcpus.vcpus.items ≡ reset_vcpus c.args.plan = c.in_ok-vcpus.ensures in
    let map_is : c.in-Ok.map ≡ c.args.plan.regions =
    c.in-Ok.ensures.map ∙ c.deref.ensures.value ∙ ap (λ p. p.regions) c.plan.view_is in
    record {
      map = map_is;
      starts = c.requires.starts;
      count = ap length vcpus ∙ length-map c.args.plan.vcpus (λ (v : VcpuPlan). reset_vcpu v.start);
      few = c.requires.vcpus;
      views =
          let P : List VcpuView → Type 0 = λ views. All IsView views in
          subst P (sym vcpus) (reset_views c.args.plan.vcpus c.requires.starts);
      nothing = λ none. c.in_ok-frames.ensures.items;
      devices =
          ap (map shape_of) c.in_ok-devices.ensures
          ∙ new_shapes (length c.args.plan.vcpus) c.args.plan.regions;
      controller =
          c.controller_of-controller.ensures
          ∙ ap (position has_plic) (c.deref-2.ensures.value ∙ ap (λ p. p.regions) c.plan.view_is);
      room = omega (arith, c.in_ok-frames.ensures.capacity, c.need.ensures.count, ap need map_is);
    }

pub returns : goal.returns
returns c =
    let vcpus : c.in_ok-vcpus.vcpus.items ≡ reset_vcpus c.args.plan = c.in_ok-vcpus.ensures in
    let frames = c.in_ok-frames.ensures.items in
    search rules
