use Rattle.std.proofs.Common.{arith}
use Rattle.xv_pool.specs.Kept.{resources_of}
use Rattle.xv_pool.proofs.SoundLemmas.{IsSound-given}
use Rattle.xv_pool.proofs.Pool.give_reserved.Goals as goal

pub invariant_of-self : goal.invariant_of-self
invariant_of-self c =
    let found = rw c.deref.ensures.value at c.in-Some.ensures.found in
    record {
      sound = rw c.remove.ensures.items
          (IsSound-given (resources_of c.self.inside) c.in-Some.place found.0
          c.self.invariant.sound);
      room = omega (arith, c.self.invariant.room, c.remove.ensures.capacity);
    }

pub returns-clause-sound : goal.returns-clause-sound
returns-clause-sound c =
    let found = rw c.deref.ensures.value at c.in-Some.ensures.found in
    rw c.remove.ensures.items
    (IsSound-given (resources_of c.self.inside) c.in-Some.place found.0 c.self.invariant.sound)
