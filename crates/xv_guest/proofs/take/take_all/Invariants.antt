use Rattle.xv_guest.proofs.take.take_all.Given as goal

abbrev pub ghosts-fill_tables : goal.ghosts-fill_tables
ghosts-fill_tables a = record { name = a.blank.name; parts = a.blank.parts }
