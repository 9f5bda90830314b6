use Rattle.std.proofs.Common.{sym, subst}
use Rattle.xv_lone.specs.Journal as journal
use Rattle.xv_host.specs.Change.{IsChange}
use Rattle.xv_host.specs.Host.{IsHosted}
use Rattle.xv_host.specs.Places.{Places}
use Rattle.xv_host.proofs.ChangeLemmas.{entry_hosted, entry_stays, load_keeps, same_place}
use Rattle.xv_host.proofs.host.Host.store.Goals as goal

pub store-requires : goal.store-requires
store-requires c = record {
  held = c.requires.hosted.owned c.args.key c.guest.result.now c.guest.ensures;
}

pub returns-then-store-clause-stored : goal.returns-then-store-clause-stored
returns-then-store-clause-stored c =
    let old = c.args.machine.now.mem in
    let new = c.store.new.mem in
    let host = c.args.self.now in
    let key = c.args.key in
    let g = c.guest.result.now in
    let change = journal.Load c.args.gpa c.args.bytes.now in
    subst (λ (ps : Places). IsChange change key host (record host { guests = ps }) old new)
    (same_place host.guests key g c.guest.ensures)
    (entry_stays change key old new host g g c.guest.ensures
    (sym (load_keeps g c.args.gpa c.args.bytes.now old)) c.store.ensures.stored
    c.requires.hosted (record { held = c.store.ensures.held; within = c.store.ensures.within }))

pub returns-then-store-clause-hosted : goal.returns-then-store-clause-hosted
returns-then-store-clause-hosted c =
    let old = c.args.machine.now.mem in
    let new = c.store.new.mem in
    let host = c.args.self.now in
    let key = c.args.key in
    let g = c.guest.result.now in
    subst (λ (ps : Places). IsHosted (record host { guests = ps }) new)
    (same_place host.guests key g c.guest.ensures)
    (entry_hosted (journal.Load c.args.gpa c.args.bytes.now) key old new host g g
    c.guest.ensures (sym (load_keeps g c.args.gpa c.args.bytes.now old)) c.store.ensures.stored
    c.requires.hosted (record { held = c.store.ensures.held; within = c.store.ensures.within }))
