use Rattle.xv_hart.proofs.tests.step_once.Given as goal

-- the step counts in the ledger that it is handed
abbrev pub ghosts-step_from : goal.ghosts-step_from
ghosts-step_from a = record { name = a.blank.name; parts = a.blank.parts }
