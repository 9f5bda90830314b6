use Rattle.std.proofs.Common.{◌≡◌, ◌≤◌, false, drop, length}
use Rattle.xv_base.specs.Bits.{has_bit}
use Rattle.xv_lone.specs.Device.{sources_up}
use Rattle.xv_guest.proofs.device_list.sources_up.Given as goal

abbrev pub invariant-loop-left : goal.invariant-loop-left
invariant-loop-left l = record {
  most : l.left ≤ length l.regions;
  sources : l.sources ≡ sources_up (drop l.left l.regions) (drop l.left l.devices);
  no_source : has_bit 0 l.sources ≡ false;
}

abbrev pub decreases-loop-left : goal.decreases-loop-left
decreases-loop-left l = l.left
