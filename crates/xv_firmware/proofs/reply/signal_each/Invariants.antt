use Rattle.std.proofs.Common.{◌≡◌}
use Rattle.xv_firmware.proofs.CallLemmas.{signals_so_far}
use Rattle.xv_firmware.proofs.reply.signal_each.Given as goal

-- the VCPUs before this one have their signals
abbrev pub invariant-loop-number : goal.invariant-loop-number
invariant-loop-number l = record {
  signalled : l.guest ≡ record l.fn.guest {
    vcpus = signals_so_far l.mask l.base 0 l.number l.fn.guest.vcpus;
  };
}
