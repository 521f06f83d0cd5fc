-- Defines the output of a run that writes the batches which make a journal's last database from the
-- empty database.
use Rattle.std.specs.Prelude.{◌≡◌, ℕ, ◌⊎◌, Bool, List, Option, IfSome}
use Rattle.cspf_rows.specs.Records.{Records, rows_of}
use Rattle.cspf_model.specs.Refusals.{IsFirstUnfit}
use Rattle.cspf_model.specs.declared.refusal.Refusal.{Refusal}
use Rattle.cspf_model.specs.Numbered.{NumberedChanges}
use Rattle.cspf_model.specs.Changes.{AreLawful, database_after}
use Rattle.cspf_rows.specs.JournalLaws.{journal_text}
use Rattle.cspf_snapshot.specs.Snapshots.{IsSnapshot}
use Rattle.cspf_judge.specs.EarlyEnds.{HasBegun, Writes}
use Rattle.cspf_judge.specs.Inputs.{AreBatchesOf, IsJournalRefused}
use Rattle.cspf_stream.specs.Lines.{refused_batch_line}
use Rattle.cspf_stream.specs.declared.batch_refusal.BatchRefusal.TheVariants.{Unfit}

-- Each batch of the journal fits the database of the batches before it. The batches `making` are a snapshot of the
-- last database.
pub record IsSnapshotOf (accept_torn : Bool) (records : Records) (making : List NumberedChanges) : Type 0 where
  pub batches : List NumberedChanges
  pub read : AreBatchesOf accept_torn records batches
  pub lawful : AreLawful batches
  pub snapshot : IsSnapshot (database_after batches) making

-- a batch of the journal doesn't fit the database of the batches before it, and the line refuses
-- this batch
pub record IsJournalUnfit (accept_torn : Bool) (records : Records) (line : List ℕ) : Type 0 where
  pub batches : List NumberedChanges
  pub read : AreBatchesOf accept_torn records batches
  pub number : ℕ
  pub why : Refusal
  pub first : IsFirstUnfit batches number why
  pub line_is : line ≡ refused_batch_line number (Unfit why)

-- the line refuses the journal: it is too long, it is torn, or it has a batch that doesn't fit
abbrev pub IsSnapshotRefused : Bool → Records → List ℕ → Type 0
IsSnapshotRefused accept_torn records line =
    IsJournalRefused accept_torn records line ⊎ IsJournalUnfit accept_torn records line

-- the batches of the snapshot are written, and the status is 0
pub record IsSnapshotWritten (accept_torn : Bool) (records : Records) (lines : List ℕ) (status : ℕ) : Type 0 where
  pub making : List NumberedChanges
  pub snapshot : IsSnapshotOf accept_torn records making
  pub text : lines ≡ journal_text making
  pub accepted : status ≡ 0

-- the batches of the snapshot are written, or the line that refuses the journal is written and the status is 2
abbrev pub IsSnapshotRun : Bool → Records → List ℕ → ℕ → Type 0
IsSnapshotRun accept_torn records lines status =
    IsSnapshotWritten accept_torn records lines status
    ⊎ (IsSnapshotRefused accept_torn records lines × (status ≡ 2))

-- if the bytes of the journal are known, the lines of its snapshot run are written, with this status
abbrev pub WritesSnapshot : Bool → Option (List ℕ) → Option (List ℕ) → Option (List ℕ) → ℕ → Type 0
WritesSnapshot accept_torn journal old new status =
    IfSome journal (λ bytes. Writes old new (λ lines. IsSnapshotRun accept_torn (rows_of bytes) lines status))

-- nothing was written, or a prefix of the lines of a snapshot run
abbrev pub HasBegunSnapshot : Bool → Option (List ℕ) → Option (List ℕ) → Option (List ℕ) → Type 0
HasBegunSnapshot accept_torn journal old new =
    IfSome journal (λ bytes. HasBegun old new (λ lines. (status : ℕ) × IsSnapshotRun accept_torn (rows_of bytes) lines status))
