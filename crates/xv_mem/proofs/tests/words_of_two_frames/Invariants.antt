use Rattle.xv_mem.proofs.tests.words_of_two_frames.Given as goal

abbrev pub ghosts-words : goal.ghosts-words
ghosts-words g a = record { name = a.blank.name; parts = a.blank.parts }
