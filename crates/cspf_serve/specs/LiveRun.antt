-- Defines the lines of a live run. A live run publishes the batches of a stream of updates while it
-- answers requests.
use Rattle.std.specs.Prelude.{◌≡◌, ℕ, ◌<◌, ◌≤◌, ◌⊎◌, false, List, [], ◌∷◌, ◌++◌, length, take, Some, slice_get}
use Rattle.std.specs.List.{flat_map}
use Rattle.cspf_rows.specs.Records.{Records}
use Rattle.cspf_model.specs.declared.request.Request.{Request}
use Rattle.cspf_model.specs.Numbered.{NumberedChanges}
use Rattle.cspf_model.specs.Changes.{database_after, Fits}
use Rattle.cspf_model.specs.Refusals.{IsRefusal}
use Rattle.cspf_publish.specs.Histories.{IsHistory}
use Rattle.cspf_publish.specs.declared.errors.ApplyError.{ApplyError}
use Rattle.cspf_publish.specs.declared.errors.ApplyError.TheVariants as error
use Rattle.cspf_rows.specs.BatchText.{batch_text}
use Rattle.cspf_judge.specs.Inputs.{AreBatchesOf, IsJournalRefused, AreRequestsOf, AreRequestsRefused}
use Rattle.cspf_serve.specs.BatchRun.{IsReplyTo}
use Rattle.cspf_serve.specs.LiveWords.{applied_line, unpublished_line}

-- The line is the reply to the request at a published version. The database of this version is the
-- one that a prefix of the published batches makes.
abbrev pub IsReplyWithin : List NumberedChanges → Request → List ℕ → Type 0
IsReplyWithin published q line =
    (version : ℕ) × (version ≤ length published)
    × IsReplyTo (database_after (take version published)) version q line

-- the lines are the replies to the requests, in the order of the requests; each reply is at some
-- published version
abbrev pub AreRepliesWithin : List NumberedChanges → List Request → List ℕ → Type 0
AreRepliesWithin published [] lines = lines ≡ []
AreRepliesWithin published (q ∷ qs) lines =
    (line : List ℕ) × (more : List ℕ) × IsReplyWithin published q line × (lines ≡ line ++ more)
    × AreRepliesWithin published qs more

-- Why the first batch after the published batches isn't published. The reason is never a wrong
-- number or too many batches, since both were checked when the updates were read.
abbrev pub IsWhyNot : List NumberedChanges → NumberedChanges → ApplyError → Type 0
IsWhyNot published b error.Stopped = ⊥
IsWhyNot published b error.Exhausted = ⊥
IsWhyNot published b (error.WrongNumber expected) = ⊥
IsWhyNot published b (error.Refused why) = IsRefusal (database_after published) b why
IsWhyNot published b error.Memory = Fits (database_after published) b
IsWhyNot published b (error.Journal written) =
    Fits (database_after published) b × (written < length (batch_text b))

-- The bytes of an unpublished batch that the journal's writer accepted before it failed. If the
-- journal didn't fail, there are no such bytes.
abbrev pub begun_text : NumberedChanges → ApplyError → List ℕ
begun_text b (error.Journal written) = take written (batch_text b)
begun_text b why = []

-- How a live run ends: the line after the line that counts the published batches, the journal's
-- text after the published batches, and the status. All batches are published, or the first batch
-- after the published batches is refused.
abbrev pub IsEndOfLiveRun : List NumberedChanges → ℕ → List ℕ → List ℕ → ℕ → Type 0
IsEndOfLiveRun batches applied line text status =
    ((applied ≡ length batches) × (line ≡ []) × (text ≡ []) × (status ≡ 0))
    ⊎ ((next : NumberedChanges) × (why : ApplyError) × (slice_get batches applied ≡ Some next)
    × IsWhyNot (take applied batches) next why × (line ≡ unpublished_line next.number why)
    × (text ≡ begun_text next why) × (status ≡ 2))

-- A prefix of the batches is published. Each request is answered at the version of a published
-- batch or at version 0. After the replies, a line counts the published batches. If a batch follows
-- them, one more line says why it isn't published. The journal has the texts of the published
-- batches. If the journal failed, it also has a prefix of the next batch's text.
pub record AreAnsweredLive (batches : List NumberedChanges) (requests : List Request)
    (lines text : List ℕ) (status : ℕ) : Type 0 where
  pub applied : ℕ
  pub inside : applied ≤ length batches
  pub history : IsHistory (take applied batches)
  pub replies : List ℕ
  pub answered : AreRepliesWithin (take applied batches) requests replies
  pub last : List ℕ
  pub begun : List ℕ
  pub end : IsEndOfLiveRun batches applied last begun status
  pub written : lines ≡ replies ++ applied_line applied ++ last
  pub recorded : text ≡ flat_map batch_text (take applied batches) ++ begun

-- The text that is written to the journal, if a live run ends by an error after batches were
-- applied. The text is the same as without the error: the texts of the published batches, and after
-- a fault of the journal also a prefix of the next batch's text.
pub record AreRecorded (batches : List NumberedChanges) (text : List ℕ) : Type 0 where
  pub applied : ℕ
  pub inside : applied ≤ length batches
  pub last : List ℕ
  pub begun : List ℕ
  pub status : ℕ
  pub end : IsEndOfLiveRun batches applied last begun status
  pub recorded : text ≡ flat_map batch_text (take applied batches) ++ begun

-- The journal's text of a live run that ends by an error. It is empty, or batches were applied and
-- it is as `AreRecorded` says.
abbrev pub AreRecordedAtError : List NumberedChanges → List ℕ → Type 0
AreRecordedAtError batches text = (text ≡ []) ⊎ AreRecorded batches text

-- the journal's text of a live run that ends by an error, given the records of the stream of
-- updates
abbrev pub IsRecordedAtError : Records → List ℕ → Type 0
IsRecordedAtError updates text =
    (text ≡ []) ⊎ ((batches : List NumberedChanges) × AreBatchesOf false updates batches × AreRecorded batches text)

-- the line refuses the updates, or it refuses the requests after the updates were accepted
abbrev pub AreInputsRefused : Records → Records → List ℕ → Type 0
AreInputsRefused updates requests line =
    IsJournalRefused false updates line
    ⊎ ((batches : List NumberedChanges) × AreBatchesOf false updates batches
    × AreRequestsRefused requests line)

-- The lines of a live run over the records of updates and of requests, the text that is written to
-- the journal, and the status.
abbrev pub IsLiveRun : Records → Records → List ℕ → List ℕ → ℕ → Type 0
IsLiveRun updates requests lines text status =
    (AreInputsRefused updates requests lines × (text ≡ []) × (status ≡ 2))
    ⊎ ((batches : List NumberedChanges) × (asked : List Request)
    × AreBatchesOf false updates batches × AreRequestsOf requests asked
    × AreAnsweredLive batches asked lines text status)
