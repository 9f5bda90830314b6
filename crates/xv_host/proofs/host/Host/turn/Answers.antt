use Rattle.std.proofs.Common.{Some, set, sym, subst}
use Rattle.xv_lone.specs.Journal as journal
use Rattle.xv_host.specs.Change.{IsChange}
use Rattle.xv_host.specs.Host.{Host, IsHosted}
use Rattle.xv_host.proofs.ChangeLemmas.{entry_hosted, entry_stays}
use Rattle.xv_host.proofs.host.Host.turn.Goals as goal

pub turn_of-requires-clause-held : goal.turn_of-requires-clause-held
turn_of-requires-clause-held g c =
    let hosted = subst (λ (h : Host). IsHosted h c.args.machine.now.mem) (sym c.self.view_is)
    c.requires.hosted in
    hosted.owned c.args.key c.value_mut-guest.result.now c.value_mut-guest.ensures.value

pub returns-clause-turned : goal.returns-clause-turned
returns-clause-turned g c =
    let old = c.args.machine.now.mem in
    let new = c.turn_of.new.machine.mem in
    let host : Host = record { guests = c.self.inside.guests; pool = c.self.inside.pool } in
    let hosted = subst (λ (h : Host). IsHosted h old) (sym c.self.view_is) c.requires.hosted in
    let change = journal.Turn c.args.vcpu c.args.clock in
    let after : Host =
    record host { guests = set host.guests c.args.key (Some c.turn_of.new.guest) } in
    subst (λ (h : Host). IsChange change c.args.key h after old new) c.self.view_is
    (entry_stays change c.args.key old new host c.value_mut-guest.result.now c.turn_of.new.guest
    c.value_mut-guest.ensures.value c.turn_of.ensures.guest c.turn_of.ensures.machine
    hosted c.turn_of.ensures.good)

pub returns-clause-hosted : goal.returns-clause-hosted
returns-clause-hosted g c =
    let old = c.args.machine.now.mem in
    let host : Host = record { guests = c.self.inside.guests; pool = c.self.inside.pool } in
    let hosted = subst (λ (h : Host). IsHosted h old) (sym c.self.view_is) c.requires.hosted in
    entry_hosted (journal.Turn c.args.vcpu c.args.clock) c.args.key old c.turn_of.new.machine.mem
    host c.value_mut-guest.result.now c.turn_of.new.guest c.value_mut-guest.ensures.value
    c.turn_of.ensures.guest c.turn_of.ensures.machine hosted c.turn_of.ensures.good
