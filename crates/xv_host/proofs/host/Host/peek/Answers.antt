use Rattle.xv_host.proofs.host.Host.peek.Goals as goal

pub peek-requires : goal.peek-requires
peek-requires c = record {
  held = c.requires.hosted.owned c.args.key c.guest.result.now c.guest.ensures;
}
