use Rattle.cspf_serve.proofs.serving.served_run.run_serve_with_questions.Given as goal

-- in the proof of this call, the ledger of the permits is the one that the call makes
abbrev pub ghosts-serve_with : goal.ghosts-serve_with
ghosts-serve_with g a = record { name = a.blank.name; parts = a.blank.parts }
