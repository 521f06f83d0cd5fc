-- Private: how a run over a journal ends early.
use Rattle.std.specs.Prelude.{◌≡◌, ℕ, ◌+◌, ◌^◌, ◌<◌, ◌⊎◌, Bool, List, [], ◌∷◌, ◌++◌}
use Rattle.cspf_judge.specs.declared.early_end.JudgeError.{JudgeError}
use Rattle.cspf_judge.specs.declared.early_end.JudgeError.TheVariants.{Memory, Device}
use Rattle.cspf_judge.specs.Inputs.{AreBatchesOf, IsJournalRefused, AreRequestsRefused}
use Rattle.cspf_model.specs.Numbered.{NumberedChanges}
use Rattle.cspf_publish.specs.PublisherStates.{PublisherState, IsStopped}
use Rattle.cspf_publish.specs.declared.errors.ApplyError.{ApplyError}
use Rattle.cspf_publish.specs.declared.errors.ApplyError.TheVariants as error
use Rattle.cspf_rows.specs.Records.{Records}
use Rattle.cspf_stream.specs.declared.batch_refusal.BatchRefusal.TheVariants as refusal
use Rattle.cspf_stream.specs.Lines.{refused_batch_line}
use Rattle.cspf_work.specs.declared.serve_error.ServeError.{ServeError}
use Rattle.cspf_work.specs.declared.serve_error.ServeError.TheVariants as serve_error

-- the line of a batch that isn't published because of its own fault; for other errors no line is
-- written
abbrev pub IsOwnFaultLine : ApplyError → ℕ → List ℕ → Type 0
IsOwnFaultLine error.Stopped number line = ⊥
IsOwnFaultLine error.Exhausted number line = line ≡ refused_batch_line number refusal.Exhausted
IsOwnFaultLine (error.WrongNumber expected) number line = line ≡ refused_batch_line number (refusal.WrongNumber expected)
IsOwnFaultLine (error.Refused why) number line = line ≡ refused_batch_line number (refusal.Unfit why)
IsOwnFaultLine error.Memory number line = ⊥
IsOwnFaultLine (error.Journal written) number line = ⊥

-- The error of a run if a batch isn't published, but the batch itself has no fault. A batch with a
-- fault has a line instead of an error.
abbrev pub IsFaultBeyond : ApplyError → JudgeError → Type 0
IsFaultBeyond error.Stopped e = e ≡ Device
IsFaultBeyond error.Exhausted e = ⊥
IsFaultBeyond (error.WrongNumber expected) e = ⊥
IsFaultBeyond (error.Refused why) e = ⊥
IsFaultBeyond error.Memory e = e ≡ Memory
IsFaultBeyond (error.Journal written) e = e ≡ Device

-- The error by which a run ends at a batch. Memory was refused, or a device failed. If the journal
-- failed, the publisher is stopped. If the writer of the lines failed, the batch is published.
abbrev pub IsPublishingFault : {W : Type 0} → PublisherState W → PublisherState W → NumberedChanges → JudgeError → Type 0
IsPublishingFault before after b e =
    (e ≡ Memory)
    ⊎ ((e ≡ Device) × (IsStopped after ⊎ (after.batches ≡ before.batches ++ b ∷ [])))

-- the line refuses the journal, or it refuses the requests after the journal was accepted
abbrev pub AreStreamsRefused : Bool → Records → Records → List ℕ → Type 0
AreStreamsRefused accept_torn journal requests line =
    IsJournalRefused accept_torn journal line
    ⊎ ((batches : List NumberedChanges) × AreBatchesOf accept_torn journal batches × AreRequestsRefused requests line)

-- The requests are answered in parts. The first error is from the part that begins at the index
-- `first` of all requests. The second error is the error of the run. In the error `Unaccounted` the
-- index of a request in its part becomes the index in the whole list.
abbrev pub IsErrorOfPart : ℕ → ServeError → ServeError → Type 0
IsErrorOfPart first serve_error.Memory e = e ≡ serve_error.Memory
IsErrorOfPart first serve_error.NoEntry e = e ≡ serve_error.NoEntry
IsErrorOfPart first serve_error.NoWorker e = e ≡ serve_error.NoWorker
IsErrorOfPart first (serve_error.Missing index) e = e ≡ serve_error.Missing index
IsErrorOfPart first (serve_error.Twice index) e = e ≡ serve_error.Twice index
IsErrorOfPart first (serve_error.Unaccounted index version) e =
    first + index < 2 ^ 64 → e ≡ serve_error.Unaccounted (first + index) version
