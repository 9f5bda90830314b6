use Rattle.xv_host.proofs.host.Host.audit.Goals as goal

pub audit_of-requires-clause-held : goal.audit_of-requires-clause-held
audit_of-requires-clause-held c =
    c.requires.hosted.owned c.args.key c.guest.result.now c.guest.ensures
