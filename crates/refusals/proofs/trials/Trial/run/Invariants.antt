use Rattle.refusals.proofs.trials.Trial.run.Given as goal

abbrev pub ghosts-run_counted-R-Ledger : goal.ghosts-run_counted-R-Ledger
ghosts-run_counted-R-Ledger a = record { name = a.reads.name; parts = a.reads.parts }

abbrev pub ghosts-run_counted-W-Ledger : goal.ghosts-run_counted-W-Ledger
ghosts-run_counted-W-Ledger a = record { name = a.writes.name; parts = a.writes.parts }
