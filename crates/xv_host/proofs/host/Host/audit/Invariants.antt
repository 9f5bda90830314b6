use Rattle.xv_host.proofs.host.Host.audit.Given as goal

abbrev pub ghosts-audit_of : goal.ghosts-audit_of
ghosts-audit_of a = record { name = a.blank.name; parts = a.blank.parts }
