use Rattle.xv_pte.proofs.tests.walks.walks_of_rows.Given as goal

abbrev pub ghosts-wrong_row : goal.ghosts-wrong_row
ghosts-wrong_row g a = record { name = a.blank.name; parts = a.blank.parts }
