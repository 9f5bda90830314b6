use Rattle.std.proofs.Common.{Some, set, sym, subst}
use Rattle.xv_guest.specs.Guest.{held_of}
use Rattle.xv_host.specs.Change.{IsChange}
use Rattle.xv_host.specs.Host.{Host, IsHosted}
use Rattle.xv_host.specs.Lifecycle.{entry_of}
use Rattle.xv_host.proofs.ChangeLemmas.{bytes_stay, entry_hosted, entry_made}
use Rattle.xv_host.proofs.StageLemmas.{good_first}
use Rattle.xv_host.proofs.host.Host.change.Goals as goal

pub returns-clause-changed : goal.returns-clause-changed
returns-clause-changed c bytes =
    let key = c.args.key in
    let host : Host = record { guests = c.self.inside.guests; pool = c.self.inside.pool } in
    let after : Host = record host { guests = set host.guests key (Some c.apply.new.guest) } in
    let change = entry_of c.args.change in
    subst (λ (h : Host). IsChange change key h after bytes bytes) c.self.view_is
    (entry_made change key bytes bytes host c.value_mut-guest.result.now c.apply.new.guest
    c.value_mut-guest.ensures.value (c.apply.ensures.guest bytes) (c.apply.ensures.machine bytes)
    (bytes_stay key bytes host.guests c.apply.new.guest))

pub returns-clause-hosted : goal.returns-clause-hosted
returns-clause-hosted c bytes was =
    let key = c.args.key in
    let host : Host = record { guests = c.self.inside.guests; pool = c.self.inside.pool } in
    let hosted = subst (λ (h : Host). IsHosted h bytes) (sym c.self.view_is) was in
    let g = c.value_mut-guest.result.now in
    let at = c.value_mut-guest.ensures.value in
    entry_hosted (entry_of c.args.change) key bytes bytes host g c.apply.new.guest at
    (c.apply.ensures.guest bytes) (c.apply.ensures.machine bytes) hosted
    (good_first (held_of g) bytes (hosted.owned key g at))
