use Rattle.serve_tests.proofs.tests.clients.run.Given as goal

-- in the proof of this call, the ledger of the permit is the one that the call makes
abbrev pub ghosts-run_with : goal.ghosts-run_with
ghosts-run_with g a = record { name = a.blank.name; parts = a.blank.parts }
