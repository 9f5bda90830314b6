use Rattle.xv_host.proofs.tests.World.run_and_release.Given as goal

abbrev pub ghosts-turn : goal.ghosts-turn
ghosts-turn a = record { name = a.blank.name; parts = a.blank.parts }
