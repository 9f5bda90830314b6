use Rattle.std.proofs.Common.{sym, subst, ap}
use Rattle.xv_lone.specs.Journal as journal
use Rattle.xv_guest.specs.Guest.{Guest, held_of, lone_of}
use Rattle.xv_host.specs.Host.{Host, IsHosted}
use Rattle.xv_host.proofs.ChangeLemmas.{entry_hosted}
use Rattle.xv_host.proofs.StageLemmas.{good_first}
use Rattle.xv_host.proofs.host.Host.input.Goals as goal

pub returns-clause-hosted : goal.returns-clause-hosted
returns-clause-hosted c bytes was =
    let key = c.args.key in
    let host : Host = record { guests = c.self.inside.guests; pool = c.self.inside.pool } in
    let hosted = subst (λ (h : Host). IsHosted h bytes) (sym c.self.view_is) was in
    let g = c.value_mut-guest.result.now in
    let at = c.value_mut-guest.ensures.value in
    let is = c.in_ok-input.ensures.input in
    entry_hosted (journal.Input c.args.region c.args.bytes.now) key bytes bytes host g
    c.input.new.self at is (ap (λ (x : Guest). lone_of x bytes) is) hosted
    (good_first (held_of g) bytes (hosted.owned key g at))
