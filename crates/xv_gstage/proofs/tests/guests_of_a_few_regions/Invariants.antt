use Rattle.xv_gstage.proofs.tests.guests_of_a_few_regions.Given as goal

abbrev pub ghosts-small : goal.ghosts-small
ghosts-small g a = record { name = a.blank.name; parts = a.blank.parts }

abbrev pub ghosts-across : goal.ghosts-across
ghosts-across g a = record { name = a.blank.name; parts = a.blank.parts }

abbrev pub ghosts-usual : goal.ghosts-usual
ghosts-usual g a = record { name = a.blank.name; parts = a.blank.parts }

abbrev pub ghosts-empty : goal.ghosts-empty
ghosts-empty g a = record { name = a.blank.name; parts = a.blank.parts }
