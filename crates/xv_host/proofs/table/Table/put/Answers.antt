use Rattle.xv_host.proofs.TableLemmas.{put_table, put_values, room_for, vacant_key}
use Rattle.xv_host.proofs.table.Table.put.Goals as goal

pub insert_reserved-requires : goal.insert_reserved-requires
insert_reserved-requires g c =
    room_for c.self.inside.values c.self.inside.places c.key.inside.0 c.self.invariant
    c.key.invariant
    (vacant_key c.self.inside.values c.self.inside.places c.key.inside.0 c.self.invariant
    c.key.invariant c.self.view_is (rw c.key.view_is c.requires.free))

pub invariant_of-self : goal.invariant_of-self
invariant_of-self g c =
    put_table c.self.inside.values c.insert_reserved.new.self c.self.inside.places c.key.inside.0
    c.insert_reserved.result c.args.value c.self.invariant c.key.invariant
    (vacant_key c.self.inside.values c.self.inside.places c.key.inside.0 c.self.invariant
    c.key.invariant c.self.view_is (rw c.key.view_is c.requires.free))
    c.insert_reserved.ensures.was_vacant c.insert_reserved.ensures.updates
    c.insert_reserved.ensures.len c.insert_reserved.ensures.capacity

pub returns : goal.returns
returns g c = record {
  put = rw (← c.self.view_is, ← c.key.view_is)
      (put_values c.self.inside.values c.insert_reserved.new.self c.self.inside.places
      c.key.inside.0
      c.insert_reserved.result c.args.value c.self.invariant c.key.invariant
      (vacant_key c.self.inside.values c.self.inside.places c.key.inside.0 c.self.invariant
      c.key.invariant c.self.view_is (rw c.key.view_is c.requires.free))
      c.insert_reserved.ensures.was_vacant c.insert_reserved.ensures.updates
      c.insert_reserved.ensures.len c.insert_reserved.ensures.capacity);
}
