use Rattle.xv_host.proofs.StandsLemmas.{world_stands}
use Rattle.xv_host.proofs.law.hosts_stand.Goals as goal

pub returns : goal.returns
returns c host bytes world hosted shows =
    world_stands bytes host.pool host.guests hosted world shows
