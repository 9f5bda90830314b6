use Rattle.xv_host.proofs.host.Host.digest.Goals as goal

pub digest-requires : goal.digest-requires
digest-requires c = record {
  held = c.requires.hosted.owned c.args.key c.guest.result.now c.guest.ensures;
}
