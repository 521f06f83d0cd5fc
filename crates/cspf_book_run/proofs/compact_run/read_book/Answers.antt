use Rattle.std.proofs.Common.{ℕ, List, Option, IfOk, subst}
use Rattle.cspf_rows.specs.Records.{rows_of}
use Rattle.cspf_solve.proofs.SolveRun.{err_of_rows}
use Rattle.cspf_book_run.specs.Compacts.{IsBookRead, IsCompactStop}
use Rattle.cspf_book_run.proofs.compact_run.read_book.Goals as goal

pub returns-clause-read : goal.returns-clause-read
returns-clause-read g c = subst (λ (all : Option (List (List (List ℕ)))). IfOk c.read_all.result (IsBookRead all)) c.open_records-rows.ensures.rows c.read_all.ensures.read

pub returns-clause-stopped : goal.returns-clause-stopped
returns-clause-stopped g c = err_of_rows _ _ _ rows_of (λ why all. IsCompactStop why all) c.open_records-rows.ensures.rows c.read_all.ensures.stopped
