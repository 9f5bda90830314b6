-- A guest's fields, as what contracts see.
use Rattle.std.specs.Prelude.{◌≡◌, ◌≤◌, [], None, length, vec_capacity}
use Rattle.std.specs.List.{All, position}
use Rattle.xv_csr.specs.Fields.{IsInstructionAddress}
use Rattle.xv_region.specs.Need.{need}
use Rattle.xv_guest.specs.declared.guest.Guest.TheInside.{Inside}
use Rattle.xv_guest.specs.Devices.{HasDevices, has_plic}
use Rattle.xv_guest.specs.Guest.{Guest, IsView}

abbrev pub guest_of : Inside → Guest
guest_of g = record {
  key = g.key;
  plan = g.plan;
  root = g.root;
  frames = g.frames.items;
  devices = g.devices.items;
  vcpus = g.vcpus.items;
  state = g.state;
  birth = g.birth;
}

pub record IsKept (g : Inside) : Type 0 where
  pub map : g.map ≡ g.plan.regions
  pub starts : All (λ v. IsInstructionAddress v.start) g.plan.vcpus
  -- a view for each VCPU of the plan
  pub count : length g.vcpus.items ≡ length g.plan.vcpus
  pub few : length g.plan.vcpus ≤ 8
  pub views : All IsView g.vcpus.items
  -- a guest with no root has no frames, and room for those that it will have
  pub nothing : g.root ≡ None → g.frames.items ≡ []
  -- each region has its device, and the first interrupt controller is known
  pub devices : HasDevices g.plan g.devices.items
  pub controller : g.controller ≡ position has_plic g.plan.regions
  pub room : need g.plan.regions ≤ vec_capacity g.frames
