use Rattle.std.proofs.Common.{ap, ◌∙◌}
use Rattle.xv_guest.specs.Devices.{shape_of}
use Rattle.xv_guest.specs.OwnMemory.{flat_memory}
use Rattle.xv_guest.proofs.DeviceLemmas.{accessed_shape, step_shapes}
use Rattle.xv_guest.proofs.OwnMemoryLemmas.{own_at}
use Rattle.xv_guest.proofs.guest.Guest.access.Goals as goal

pub invariant_of-self : goal.invariant_of-self
invariant_of-self c =
    let device = c.index_mut.result.now in
    let flat = flat_memory (own_at c.new-held.result c.args.mem.now) in
    record {
      map = c.self.invariant.map;
      starts = c.self.invariant.starts;
      count = c.self.invariant.count;
      few = c.self.invariant.few;
      views = c.self.invariant.views;
      nothing = c.self.invariant.nothing;
      devices = step_shapes c.regions.result.now c.self.inside.devices.items
          c.step_gateways.new.devices.items c.args.region device c.reach-outcome.new.device
          c.step_gateways.ensures c.index_mut.ensures.value
          (ap shape_of c.reach-outcome.ensures.device
          ∙ accessed_shape flat device c.args.at c.args.access)
          ∙ c.self.invariant.devices;
      controller = c.self.invariant.controller;
      room = c.self.invariant.room;
    }
