use Rattle.std.proofs.Common.{ℕ, ◌-◌, List, ◌++◌, length, take}
use Rattle.sha2.specs.Hashers.{Holds256}
use Rattle.xv_guest.specs.Frames.{bytes_under}
use Rattle.xv_guest.proofs.CellLemmas.{frames_under}
use Rattle.xv_guest.proofs.held.Held.feed_region.Given as goal

abbrev pub invariant-loop-frame : goal.invariant-loop-frame
invariant-loop-frame l = (fed : List ℕ) → Holds256 l.initial.hasher fed → Holds256 l.hasher
    (fed ++ bytes_under l.mem (take l.index (frames_under l.self l.region)))

abbrev pub decreases-loop-frame : goal.decreases-loop-frame
decreases-loop-frame l = length (frames_under l.self l.region) - l.index
