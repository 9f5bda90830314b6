use Rattle.xv_top.proofs.program.run_script.Given as goal

-- the run counts in the ledger that it is handed
abbrev pub ghosts-run_counted : goal.ghosts-run_counted
ghosts-run_counted g a = record { name = a.blank.name; parts = a.blank.parts }
