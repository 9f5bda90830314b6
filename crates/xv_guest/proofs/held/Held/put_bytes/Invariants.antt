use Rattle.std.proofs.Common.{◌≡◌, ◌-◌, ◌≤◌, length, take}
use Rattle.xv_lone.specs.Memory.{store_place}
use Rattle.xv_guest.specs.Held.{WithinMemory, memory_of}
use Rattle.xv_guest.proofs.held.Held.put_bytes.Given as goal

abbrev pub invariant-loop-done : goal.invariant-loop-done
invariant-loop-done l = record {
  most : l.done ≤ length l.bytes;
  memory : memory_of l.mem l.self
      ≡ store_place (memory_of l.initial.mem l.self)
      (record { region = l.region; offset = l.offset }) (take l.done l.bytes);
  within : WithinMemory l.self l.initial.mem l.mem;
}

abbrev pub decreases-loop-done : goal.decreases-loop-done
decreases-loop-done l = length l.bytes - l.done
