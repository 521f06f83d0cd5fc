use Rattle.cspf_book_serve.proofs.book_serve.run_serve_book.Given as goal

-- in the proof of this call, the ledger of the permits is the one that the call makes
abbrev pub ghosts-serve_with : goal.ghosts-serve_with
ghosts-serve_with g a = record { name = a.blank.name; parts = a.blank.parts }
