use Rattle.std.proofs.Common.{refl}
use Rattle.xv_host.proofs.ReleaseLemmas.{hosted_new}
use Rattle.xv_host.proofs.host.Host.new.Goals as goal

pub returns-clause-hosted : goal.returns-clause-hosted
returns-clause-hosted c =
    hosted_new c.args.machine.now c.requires.fresh c.in_ok-pool.pool c.in_ok-guests.guests _
    c.area-area.result c.in_ok-pool.ensures.fresh c.area-area.ensures refl
    c.in_ok-pool.ensures.sound c.in_ok-guests.ensures.empty
