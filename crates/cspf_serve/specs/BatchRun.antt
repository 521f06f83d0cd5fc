-- Defines the lines that a run over a journal and a stream of requests writes.
use Rattle.std.specs.Prelude.{◌≡◌, ℕ, ◌⊎◌, Bool, List, [], ◌∷◌, ◌++◌, Option, IfSome, length, take}
use Rattle.std.specs.List.{flat_map}
use Rattle.cspf_rows.specs.Records.{Records, rows_of}
use Rattle.cspf_model.specs.declared.refusal.Refusal.{Refusal}
use Rattle.cspf_model.specs.declared.request.Request.{Request}
use Rattle.cspf_model.specs.Numbered.{NumberedChanges}
use Rattle.cspf_model.specs.Database.{Database}
use Rattle.cspf_model.specs.Changes.{AreLawful, database_after}
use Rattle.cspf_model.specs.Refusals.{IsRefusal}
use Rattle.cspf_model.specs.Best.{Answer, IsBestAnswer}
use Rattle.cspf_ero.specs.ReplyLine.{IsReply}
use Rattle.cspf_stream.specs.declared.batch_refusal.BatchRefusal.TheVariants as refusal
use Rattle.cspf_stream.specs.Lines.{version_line, refused_batch_line}
use Rattle.cspf_judge.specs.EarlyEnds.{HasBegun}
use Rattle.cspf_judge.specs.Inputs.{AreBatchesOf, IsJournalRefused, AreRequestsOf, AreRequestsRefused}

-- the lines of accepted batches: one line for each batch, with the batch's version
abbrev pub version_lines : List NumberedChanges → List ℕ
version_lines batches = flat_map (λ batch. version_line batch.number) batches

-- the line is the reply to the request at this version; its answer is a best answer in the database
-- `d`
abbrev pub IsReplyTo : Database → ℕ → Request → List ℕ → Type 0
IsReplyTo d version q line =
    (answer : Answer) × IsBestAnswer d q answer × IsReply q.id version answer line

-- the lines are the replies to the requests, in the order of the requests; all are computed in the
-- same database, at the same version
abbrev pub AreReplies : Database → ℕ → List Request → List ℕ → Type 0
AreReplies d version [] lines = lines ≡ []
AreReplies d version (q ∷ qs) lines =
    (line : List ℕ) × (more : List ℕ) × IsReplyTo d version q line × (lines ≡ line ++ more)
    × AreReplies d version qs more

-- All batches are accepted, and the line of each names its version. The replies to the requests
-- follow. They are computed at the last version.
pub record AreAccepted (batches : List NumberedChanges) (requests : List Request)
    (lines : List ℕ) : Type 0 where
  pub lawful : AreLawful batches
  pub replies : List ℕ
  pub answered : AreReplies (database_after batches) (length batches) requests replies
  pub whole : lines ≡ version_lines batches ++ replies

-- One batch doesn't fit the database of the batches before it. The earlier batches are accepted,
-- and the line of each names its version. The last line refuses the batch that doesn't fit.
pub record IsOneUnfit (batches : List NumberedChanges) (lines : List ℕ) : Type 0 where
  pub before : List NumberedChanges
  pub batch : NumberedChanges
  pub after : List NumberedChanges
  pub split : batches ≡ before ++ (batch ∷ after)
  pub lawful : AreLawful before
  pub why : Refusal
  pub refused : IsRefusal (database_after before) batch why
  pub whole : lines ≡ version_lines before ++ refused_batch_line batch.number (refusal.Unfit why)

-- The lines and the status of a run over batches and a stream of requests. The requests are read
-- before any line is written. So if the requests are refused, no batch has a line.
abbrev pub AreAnsweredTogether : List NumberedChanges → Records → List ℕ → ℕ → Type 0
AreAnsweredTogether batches records lines status =
    (AreRequestsRefused records lines × (status ≡ 2))
    ⊎ ((requests : List Request) × AreRequestsOf records requests
    × ((AreAccepted batches requests lines × (status ≡ 0))
    ⊎ (IsOneUnfit batches lines × (status ≡ 2))))

-- `lines` and `status` are the lines and the status of a run over the records of a journal and of a
-- stream of requests.
abbrev pub IsBatchRun : Bool → Records → Records → List ℕ → ℕ → Type 0
IsBatchRun accept_torn journal requests lines status =
    (IsJournalRefused accept_torn journal lines × (status ≡ 2))
    ⊎ ((batches : List NumberedChanges) × AreBatchesOf accept_torn journal batches
    × AreAnsweredTogether batches requests lines status)

-- The lines that a run wrote before it ended early. They are the complete lines of a run that
-- refuses something, or the lines of the batches and the replies to a prefix of the requests.
abbrev pub IsBatchRunInPart : Bool → Records → Records → List ℕ → Type 0
IsBatchRunInPart accept_torn journal requests lines =
    IsBatchRun accept_torn journal requests lines 2
    ⊎ ((batches : List NumberedChanges) × AreBatchesOf accept_torn journal batches
    × ((asked : List Request) × AreRequestsOf requests asked
    × ((count : ℕ) × AreAccepted batches (take count asked) lines)))

-- The run wrote nothing, or a prefix of lines that `IsBatchRunInPart` allows. This is stated if the
-- bytes of the journal and of the requests are known.
abbrev pub HasBegunBatch : Bool → Option (List ℕ) → Option (List ℕ) → Option (List ℕ) → Option (List ℕ) → Type 0
HasBegunBatch accept_torn journal requests old new =
    IfSome journal (λ kept. IfSome requests (λ asked.
    HasBegun old new (IsBatchRunInPart accept_torn (rows_of kept) (rows_of asked))))
