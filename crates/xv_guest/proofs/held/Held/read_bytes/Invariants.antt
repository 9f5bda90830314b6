use Rattle.std.proofs.Common.{◌≡◌, ◌-◌, ◌≤◌, length, take}
use Rattle.xv_mem.specs.Bytes.{range}
use Rattle.xv_guest.specs.Held.{region_bytes}
use Rattle.xv_guest.proofs.held.Held.read_bytes.Given as goal

abbrev pub invariant-loop-done : goal.invariant-loop-done
invariant-loop-done l = record {
  most : l.done ≤ length l.buf;
  bytes : take l.done l.buf
      ≡ range (region_bytes l.mem l.self l.region) l.offset l.done;
}

abbrev pub decreases-loop-done : goal.decreases-loop-done
decreases-loop-done l = length l.buf - l.done
