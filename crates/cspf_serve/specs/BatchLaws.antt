-- A law of all runs over a journal and a stream of requests.
use Rattle.std.specs.Prelude.{◌≤◌, ℕ, Bool, List, ◌++◌, length}
use Rattle.cspf_rows.specs.Records.{Records}
use Rattle.cspf_model.specs.Numbered.{NumberedChanges}
use Rattle.cspf_rows.specs.declared.limits.TheConstants.{MOST_ROWS}
use Rattle.cspf_rows.specs.declared.journal.Rest.TheVariants as rest
use Rattle.cspf_rows.specs.Journal.{IsJournal}
use Rattle.cspf_solve.specs.declared.summary.Summary.{Summary}
use Rattle.cspf_solve.specs.Script.{IsSolveRun}
use Rattle.cspf_serve.specs.BatchRun.{IsBatchRun}

-- the records are the batches of a journal, and no rows follow the last batch
abbrev pub IsCleanJournal : Records → Type 0
IsCleanJournal records = (batches : List NumberedChanges) × IsJournal records batches rest.Clean

-- The premises: no rows follow the journal's last batch, nothing is refused (the status is 0), and
-- both streams together have at most 1,000,000 rows. Then a run over both streams writes the same
-- lines as a run over one stream: the journal's rows, followed by the rows of the requests.
abbrev pub AreLinesOfAScript : Type 0
AreLinesOfAScript =
    (accept_torn : Bool) (journal requests : Records) (lines : List ℕ)
    → IsCleanJournal journal → length (journal ++ requests) ≤ MOST_ROWS
    → IsBatchRun accept_torn journal requests lines 0
    → (summary : Summary) × IsSolveRun (journal ++ requests) lines summary
