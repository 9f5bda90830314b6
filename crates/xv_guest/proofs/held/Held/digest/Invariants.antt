use Rattle.std.proofs.Common.{take}
use Rattle.std.specs.List.{concat}
use Rattle.sha2.specs.Hashers.{Holds256}
use Rattle.xv_guest.specs.Held.{memory_of}
use Rattle.xv_guest.proofs.held.Held.digest.Given as goal

abbrev pub invariant-loop-region : goal.invariant-loop-region
invariant-loop-region l =
    Holds256 l.hasher (concat (take l.region (memory_of l.mem l.self)))
