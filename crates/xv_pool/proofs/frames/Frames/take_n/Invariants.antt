use Rattle.std.proofs.Common.{◌≡◌, ◌+◌, ◌-◌, ◌≤◌, ◌++◌, length, take, drop, vec_len, vec_capacity}
use Rattle.xv_pool.specs.FrameList.{AreFree}
use Rattle.xv_pool.proofs.frames.Frames.take_n.Given as goal

abbrev pub invariant-loop : goal.invariant-loop
invariant-loop l =
    (l.need ≤ length l.initial.self.free)
    × (l.into.items ≡ l.initial.into.items ++ take l.counter l.initial.self.free)
    × (l.self ≡ record l.initial.self { free = drop l.counter l.initial.self.free })
    × (vec_len l.into + (l.need - l.counter) ≤ vec_capacity l.into)
    × (vec_capacity l.initial.into ≤ vec_capacity l.into)
    × AreFree l.self
