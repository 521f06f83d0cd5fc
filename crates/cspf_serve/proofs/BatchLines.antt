-- The lines that a run over a journal and requests writes, and how such a run ends early.
use Rattle.std.proofs.Common.{◌≡◌, ℕ, ◌<◌, ◌≤◌, ◌⊎◌, Bool, Option, Some, IfSome, List, ◌++◌, length, inr, refl, arith, Result, Ok, IfOk, IfErr, rules, None, Err}
use Rattle.std.proofs.lemmas.Grind.{common_steps}
use Rattle.std.proofs.KnownBytes.{Appends-trans}
use Rattle.std.proofs.lemmas.List.{length-map}
use Rattle.std.specs.Io.KnownBytes.{Appends}
use Rattle.cspf_model.specs.declared.request.Request.{Request}
use Rattle.cspf_model.specs.Numbered.{NumberedChanges, AreNumberedFrom}
use Rattle.cspf_model.specs.Database.{Database}
use Rattle.cspf_model.specs.Changes.{database_after, AreLawful}
use Rattle.cspf_rows.specs.Records.{rows_of, Records}
use Rattle.cspf_judge.specs.declared.line.JudgeLine.{JudgeLine}
use Rattle.cspf_judge.specs.declared.early_end.EarlyEnd.{EarlyEnd}
use Rattle.cspf_judge.specs.declared.early_end.EarlyEnd.TheVariants as early_end
use Rattle.cspf_serve.specs.declared.streams.error.RunError.{RunError}
use Rattle.cspf_solve.specs.declared.summary.Summary.{Summary}
use Rattle.cspf_solve.specs.Script.{IsSolveRun}
use Rattle.cspf_judge.specs.Inputs.{AreBatchesOf, AreRequestsOf}
use Rattle.cspf_serve.specs.BatchRun.{AreReplies, IsOneUnfit, version_lines, IsBatchRun}
use Rattle.cspf_serve.specs.BatchLaws.{IsCleanJournal, AreLinesOfAScript}
use Rattle.cspf_judge.specs.LineTexts.{judge_line_text}
use Rattle.cspf_judge.specs.EarlyEnds.{IfRefused, Writes, IsRefusalWritten}
use Rattle.cspf_serve.specs.EarlyEnds.{AreStreamsRefused}
use Rattle.cspf_serve.specs.PublishedBatches.{IsUnfitBehind, ArePublishedOrRefused, IsAcceptedOrUnfit}
use Rattle.cspf_serve.specs.RunFaults.{IsStreamFault, IsAnsweringFault, IsStrayInBatchRun, IsBatchFault}

-- if `P` implies `Q`, and `P` holds of the line that refuses a stream, `Q` also holds of this line
pub IfRefused-weaker : (s : EarlyEnd) (P Q : List ℕ → Type 0) → ((line : List ℕ) → P line → Q line) → IfRefused s P → IfRefused s Q
IfRefused-weaker s P Q f refused = search rules

-- the batches before the batch that doesn't fit are accepted, and that batch is refused
pub one_unfit : (bs published : List NumberedChanges) (line : List ℕ) → IsUnfitBehind bs published line → AreLawful published
    → IsOneUnfit bs (version_lines published ++ line)
one_unfit bs published line is lawful = search rules

-- The lines of the published batches are written, and then the line that refuses the next batch.
-- These are the lines of a run in which one batch doesn't fit.
pub unfit_written : (bs published : List NumberedChanges) (qs : List Request) (line : List ℕ) (old mid new : Option (List ℕ)) → IsUnfitBehind bs published line
    → AreLawful published → Appends old mid (version_lines published) → Appends mid new line → Writes old new (λ lines. IsAcceptedOrUnfit bs qs lines 2)
unfit_written bs published qs line old mid new is lawful versions last = (
  version_lines published ++ line,
  inr (one_unfit bs published line is lawful, refl),
  Appends-trans old mid new (version_lines published) line versions last,
)

-- The lines of all batches are written, and then the replies to the requests. These are the lines
-- of a run in which all batches are accepted.
pub accepted_written : (bs : List NumberedChanges) (qs : List Request) (d : Database) (old mid new : Option (List ℕ))
    → AreLawful bs → d ≡ database_after bs → Appends old mid (version_lines bs) → Writes mid new (AreReplies d (length bs) qs)
    → Writes old new (λ lines. IsAcceptedOrUnfit bs qs lines 0)
accepted_written bs qs d old mid new lawful database written replies = search (rules, Appends-trans)

-- ---- the whole run

-- the batches of a journal are numbered from 1
pub numbers_of : (accept_torn : Bool) (records : Records) (bs : List NumberedChanges) → AreBatchesOf accept_torn records bs → AreNumberedFrom 1 bs
numbers_of accept_torn records bs is = search rules

-- what a run over a journal and requests writes, if the bytes of both are known
abbrev pub IsWrittenRun : Bool → Option (List ℕ) → Option (List ℕ) → ℕ → Option (List ℕ) → Option (List ℕ) → Type 0
IsWrittenRun accept_torn kept asked status old new =
    IfSome kept (λ journal. IfSome asked (λ requests. Writes old new (λ lines. IsBatchRun accept_torn (rows_of journal) (rows_of requests) lines status)))

-- the index of a request of a stream is also the index of a record of this stream
rows_asked : (records : Records) (qs : List Request) (index : ℕ) → AreRequestsOf records qs → index < length qs → index < length records
rows_asked records qs index is within = search (rules, length-map)

-- `published` are the batches of a journal that were published; nothing is stated if the journal's
-- bytes aren't known
abbrev pub IsPublished : Bool → Option (List ℕ) → List NumberedChanges → Option JudgeLine → Type 0
IsPublished accept_torn kept published unfit =
    IfSome kept (λ bytes. (batches : List NumberedChanges) × AreBatchesOf accept_torn (rows_of bytes) batches × ArePublishedOrRefused batches published unfit)

module _ (accept_torn : Bool) (kept asked : Option (List ℕ)) (published : List NumberedChanges) (unfit : Option JudgeLine) (qs : List Request)
    (old new : Option (List ℕ)) (read : IsPublished accept_torn kept published unfit) (of_rows : IfSome asked (λ bytes. AreRequestsOf (rows_of bytes) qs)) where
  ran_of : (kept asked : Option (List ℕ)) (status : ℕ) → IsPublished accept_torn kept published unfit → IfSome asked (λ bytes. AreRequestsOf (rows_of bytes) qs)
      → ((batches : List NumberedChanges) → ArePublishedOrRefused batches published unfit → Writes old new (λ lines. IsAcceptedOrUnfit batches qs lines status))
      → IsWrittenRun accept_torn kept asked status old new
  ran_of (Some journal) (Some requests) status read of_rows ran =
      let is = ran read.0 read.2 in
      (is.0, inr (read.0, read.1, inr (qs, of_rows, is.1)), is.2)
  ran_of kept asked status read of_rows ran = tt

  -- A run ends with a status. It wrote the lines of accepted batches, or of batches of which one
  -- doesn't fit. These are the lines of a run over the journal and the requests.
  pub batch_ran : (r : Result ℕ RunError)
      → IfOk r (λ status. (batches : List NumberedChanges) → ArePublishedOrRefused batches published unfit
      → Writes old new (λ lines. IsAcceptedOrUnfit batches qs lines status))
      → IfOk r (λ status. IsWrittenRun accept_torn kept asked status old new)
  batch_ran r ran = search (rules, ran_of)

  -- an answer whose version is above the number of the journal's batches is a fault of the run
  pub stray_in_run : (kept asked : Option (List ℕ)) (index version : ℕ) → IsPublished accept_torn kept published unfit → IfSome asked (λ bytes. AreRequestsOf (rows_of bytes) qs)
      → index < length qs → ((batches : List NumberedChanges) → ArePublishedOrRefused batches published unfit → length batches < version)
      → IsStrayInBatchRun accept_torn kept asked index version
  stray_in_run kept asked index version read h2 within above = search (rules, rows_asked)

  -- if a run ends by an error while it answers requests, this error is a fault of a stream or of
  -- the workers
  pub batch_failed : (r : Result ℕ RunError)
      → IfErr r (λ e. IsStreamFault e ⊎ IsAnsweringFault (λ index version. (index < length qs)
      × ((batches : List NumberedChanges) → ArePublishedOrRefused batches published unfit → length batches < version)) e)
      → IfErr r (IsBatchFault accept_torn kept asked)
  batch_failed r failed = grind (arith, common_steps, stray_in_run)

-- if a stream is refused, the line of the refusal is the only line, and the status is 2
pub refused_alone : (accept_torn : Bool) (journal requests : Records) (line : List ℕ) → AreStreamsRefused accept_torn journal requests line
    → IsBatchRun accept_torn journal requests line 2
refused_alone accept_torn journal requests line h1 = search rules

-- if a run ends early because a stream is refused, the run writes the line of this refusal
pub run_refused : (accept_torn : Bool) (kept asked : Option (List ℕ)) (s : EarlyEnd) (r : Result ℕ RunError) (old new : Option (List ℕ))
    → IfRefused s (λ line. IfSome kept (λ journal. IfSome asked (λ requests. AreStreamsRefused accept_torn (rows_of journal) (rows_of requests) line)))
    → IfOk r (λ status. status ≡ 2) → IfOk r (λ status. IsRefusalWritten s old new)
    → IfOk r (λ status. IsWrittenRun accept_torn kept asked status old new)
run_refused accept_torn kept asked s (Err e) old new refused two written = tt
run_refused accept_torn None asked s (Ok status) old new refused two written = tt
run_refused accept_torn (Some journal) None s (Ok status) old new refused two written = tt
run_refused accept_torn (Some journal) (Some requests) (early_end.Failed error) (Ok status) old new refused two written = absurd written
run_refused accept_torn (Some journal) (Some requests) (early_end.Refused line) (Ok status) old new refused two written =
    (judge_line_text line, rw two (refused_alone accept_torn (rows_of journal) (rows_of requests) (judge_line_text line) refused), written)

-- the output of a run with the status 0 is the output of a run over one stream: the journal's rows,
-- followed by the rows of the requests
pub script_written : AreLinesOfAScript → (accept_torn : Bool) (kept asked old new : Option (List ℕ)) → IsWrittenRun accept_torn kept asked 0 old new
    → IfSome kept (λ journal. IfSome asked (λ requests. IsCleanJournal (rows_of journal) → length (rows_of journal ++ rows_of requests) ≤ 1000000
    → (lines : List ℕ) × (counts : Summary) × IsSolveRun (rows_of journal ++ rows_of requests) lines counts × Appends old new lines))
script_written law accept_torn (Some journal) (Some requests) old new run = λ clean few.
    let script = law accept_torn (rows_of journal) (rows_of requests) run.0 clean few run.1 in
    (run.0, script.0, script.1, run.2)
script_written law accept_torn kept asked old new run = tt

-- if the result of a run is the status 0, its output is the output of a run over one stream: the
-- journal's rows, followed by the rows of the requests
pub script_of_run : AreLinesOfAScript → (accept_torn : Bool) (kept asked old new : Option (List ℕ)) (r : Result ℕ RunError)
    → IfOk r (λ status. IsWrittenRun accept_torn kept asked status old new) → r ≡ Ok 0
    → IfSome kept (λ journal. IfSome asked (λ requests. IsCleanJournal (rows_of journal) → length (rows_of journal ++ rows_of requests) ≤ 1000000
    → (lines : List ℕ) × (counts : Summary) × IsSolveRun (rows_of journal ++ rows_of requests) lines counts × Appends old new lines))
script_of_run law accept_torn kept asked old new r ran is = script_written law accept_torn kept asked old new (rw is at ran)
