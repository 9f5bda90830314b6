use Rattle.std.proofs.Common.{length, is_some, refl, ap}
use Rattle.std.proofs.lemmas.Bool.{cond-true}
use Rattle.xv_hart.specs.declared.machine.Machine.{Machine}
use Rattle.xv_hart.specs.Hart.{taken_by}
use Rattle.xv_lone.specs.Journal.{Load}
use Rattle.xv_lone.specs.Memory.{spot_at}
use Rattle.xv_top.specs.Answer.{changes}
use Rattle.xv_top.specs.Manager.{world_of}
use Rattle.xv_top.proofs.HostLemmas.{alone_live, alone_named, guest_there, change_world}
use Rattle.xv_top.proofs.HostLemmas.{change_sound}
use Rattle.xv_top.proofs.ManagerLemmas.{gives_by, gives_change}
use Rattle.xv_top.proofs.manager.Manager.put.Goals as goal

pub store-requires-clause-live : goal.store-requires-clause-live
store-requires-clause-live c =
    let m = c.args.self.now in
    alone_live m.host.guests c.args.key
    (alone_named m.guest m.host.guests c.args.name.now c.args.key c.requires.sound.guests
    c.requires.there)

pub returns-clause-put : goal.returns-clause-put
returns-clause-put c _ text g at =
    let m = c.args.self.now in
    let name = c.args.name.now in
    let old = c.args.machine.now in
    let new = c.store.new.machine in
    let change = Load c.args.gpa c.args.bytes.now in
    let alone = alone_named m.guest m.host.guests name c.args.key c.requires.sound.guests
    c.requires.there in
    gives_by _ (changes (world_of m old.mem) name change text)
    (cond-true (is_some (spot_at g.plan (length c.args.bytes.now) c.args.gpa)) _ _
    (c.in-Ok.ensures.inside g at))
    (gives_change m _ old new name change text text refl
    (change_world m c.store.new.self name c.args.key c.requires.there alone change old.mem new.mem
    g at (c.in-Ok.ensures.stored.guest g at))
    (ap (λ (x : Machine). taken_by x.hart) c.store.ensures.machine))

pub returns-clause-sound : goal.returns-clause-sound
returns-clause-sound c =
    let m = c.args.self.now in
    let name = c.args.name.now in
    let old = c.args.machine.now in
    let new = c.store.new.machine in
    let alone = alone_named m.guest m.host.guests name c.args.key c.requires.sound.guests
    c.requires.there in
    let at = guest_there m.host.guests c.args.key alone in
    change_sound m c.store.new.self name c.args.key (Load c.args.gpa c.args.bytes.now) old new
    alone.guest c.requires.there at (c.in-Ok.ensures.stored.guest alone.guest at)
    (ap (λ (x : Machine). x.area) c.store.ensures.machine) c.store.ensures.hosted c.requires.sound
