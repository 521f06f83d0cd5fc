-- If a journal is refused, also for a batch that doesn't fit, the line of the refusal is the output
-- of the snapshot run.
use Rattle.std.proofs.Common.{◌≡◌, ℕ, Bool, Option, Some, None, List, Result, Ok, Err, IfOk, IfSome, OnErr, inl, inr, refl}
use Rattle.cspf_rows.specs.JournalLaws.{journal_text}
use Rattle.cspf_rows.specs.Records.{rows_of}
use Rattle.cspf_db.specs.declared.replay.UnfitBatch.{UnfitBatch}
use Rattle.cspf_model.specs.Numbered.{NumberedChanges}
use Rattle.cspf_model.specs.Refusals.{IsFirstUnfit}
use Rattle.cspf_judge.specs.EarlyEnds.{IfRefused, HasBegun, IsRefusalBegun, IsRefusalWritten, Writes, WritesFront, unfit_end}
use Rattle.cspf_judge.specs.Inputs.{AreBatchesOf}
use Rattle.cspf_judge.specs.LineTexts.{judge_line_text}
use Rattle.cspf_judge.specs.SnapshotRun.{IsSnapshotOf, IsSnapshotRefused, IsSnapshotRun}
use Rattle.cspf_judge.specs.declared.early_end.EarlyEnd.{EarlyEnd}
use Rattle.cspf_judge.specs.declared.early_end.EarlyEnd.TheVariants as early_end
use Rattle.cspf_judge.specs.declared.early_end.JudgeError.{JudgeError}

-- if a journal is refused and the line of the refusal is written, this line is the output of the
-- run
pub refusal_written : (accept_torn : Bool) (result : Result ℕ JudgeError) (journal old new : Option (List ℕ)) (end : EarlyEnd)
    → IfRefused end (λ line. IfSome journal (λ bytes. IsSnapshotRefused accept_torn (rows_of bytes) line))
    → IfOk result (λ status. status ≡ 2) → IfOk result (λ status. IsRefusalWritten end old new)
    → IfOk result (λ status. IfSome journal (λ bytes. Writes old new (λ lines. IsSnapshotRun accept_torn (rows_of bytes) lines status)))
refusal_written accept_torn (Err e) journal old new end is is_status text = tt
refusal_written accept_torn (Ok status) None old new end is is_status text = tt
refusal_written accept_torn (Ok status) (Some bytes) old new (early_end.Refused line) is is_status text =
    (judge_line_text line, inr (is, is_status), text)
refusal_written accept_torn (Ok status) (Some bytes) old new (early_end.Failed error) is is_status text = absurd text

pub refusal_begun : {T : Type 0} (accept_torn : Bool) (result : Result T JudgeError) (journal old new : Option (List ℕ)) (end : EarlyEnd)
    → IfRefused end (λ line. IfSome journal (λ bytes. IsSnapshotRefused accept_torn (rows_of bytes) line))
    → OnErr result (IsRefusalBegun end old new)
    → OnErr result (IfSome journal (λ bytes. HasBegun old new (λ lines. (status : ℕ) × IsSnapshotRun accept_torn (rows_of bytes) lines status)))
refusal_begun accept_torn (Ok x) journal old new end is begun = tt
refusal_begun accept_torn (Err e) None old new end is begun = tt
refusal_begun accept_torn (Err e) (Some bytes) old new (early_end.Refused line) is begun = inr (judge_line_text line, (2, inr (is, refl)), begun)
refusal_begun accept_torn (Err e) (Some bytes) old new (early_end.Failed error) is begun = inl begun

pub snapshot_begun : (accept_torn : Bool) (journal old new : Option (List ℕ)) (making : List NumberedChanges)
    → IfSome journal (λ bytes. IsSnapshotOf accept_torn (rows_of bytes) making) → WritesFront old new (journal_text making)
    → IfSome journal (λ bytes. HasBegun old new (λ lines. (status : ℕ) × IsSnapshotRun accept_torn (rows_of bytes) lines status))
snapshot_begun accept_torn None old new making is begun = tt
snapshot_begun accept_torn (Some bytes) old new making is begun =
    inr (journal_text making, (0, inl (record { making = making; snapshot = is; text = refl; accepted = refl })), begun)

-- if a batch doesn't fit, the line that refuses this batch refuses the journal
pub unfit_refused : (accept_torn : Bool) (journal : Option (List ℕ)) (batches : List NumberedChanges) (unfit : UnfitBatch) (end : EarlyEnd)
    → end ≡ unfit_end unfit → IfSome journal (λ bytes. AreBatchesOf accept_torn (rows_of bytes) batches)
    → IsFirstUnfit batches unfit.number unfit.refusal
    → IfRefused end (λ line. IfSome journal (λ bytes. IsSnapshotRefused accept_torn (rows_of bytes) line))
unfit_refused accept_torn None batches unfit end is read first = rw is tt
unfit_refused accept_torn (Some bytes) batches unfit end is read first =
    rw is (inr (record { batches = batches; read = read; number = unfit.number; why = unfit.refusal; first = first; line_is = refl }))
