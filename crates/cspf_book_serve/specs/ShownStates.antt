-- Private: what the code keeps of what it has written and published.
use Rattle.std.specs.Prelude.{◌≡◌, ℕ, ◌<◌, true, Option, List, take, length}
use Rattle.std.specs.Io.KnownBytes.{Appends}
use mathlib.Core.List.{IsPrefix}
use Rattle.cspf_model.specs.Numbered.{NumberedChanges}
use Rattle.cspf_publish.specs.PublisherStates.{PublisherState}
use Rattle.cspf_publish.specs.declared.errors.ApplyError.{ApplyError}
use Rattle.cspf_publish.specs.declared.errors.ApplyError.TheVariants as error
use Rattle.cspf_rows.specs.BatchText.{batch_text}
use Rattle.cspf_book_run.specs.Keeping.{KeepSpec}
use Rattle.cspf_book_run.specs.declared.write_fault.WriteFault.{WriteFault}
use Rattle.cspf_book_run.specs.declared.write_fault.WriteFault.TheVariants as fault
use Rattle.cspf_book_serve.specs.declared.shown.Shown.{Shown}
use Rattle.cspf_book_serve.specs.ShownTexts.{ShownState, as_next}
use Rattle.cspf_serve.specs.Counted.{IsPublished}
use Rattle.cspf_serve.specs.Updates.{AreNowCounted}

-- how many bytes of a batch's text were written to the journal before this error
abbrev pub written_of : ApplyError → ℕ
written_of (error.Journal written) = written
written_of other = 0

module _ {J K : Type 0} (recorded : J → Option (List ℕ)) (kept : K → Option (List ℕ)) where
  -- The row's text is written, and the batch is published.
  pub record IsShownBy (old : Shown J K) (text : List ℕ) (b : NumberedChanges) (new : Shown J K) : Type 0 where
    pub going : new.stopped ≡ old.stopped
    pub written : Appends (kept old.keep) (kept new.keep) text
    pub published : IsPublished recorded old.counted.publisher new.counted.publisher (as_next old.counted.publisher.batches b)
    pub source : new.counted.publisher.source ≡ old.counted.publisher.source
    pub counted : AreNowCounted new.counted.publisher.batches old.counted.steps.steps new.counted.steps.steps

  -- A write of the row's text fails.
  pub record IsKeepCut (old : Shown J K) (text : List ℕ) (written : ℕ) (new : Shown J K) : Type 0 where
    pub stops : new.stopped ≡ true
    pub part : written < length text
    pub front : Appends (kept old.keep) (kept new.keep) (take written text)
    pub same : new.counted ≡ old.counted

  -- The row's text is written, and a write to the journal fails.
  pub record IsJournalCut (old : Shown J K) (text : List ℕ) (b : NumberedChanges) (written : ℕ) (new : Shown J K) : Type 0 where
    pub stops : new.stopped ≡ true
    pub whole : Appends (kept old.keep) (kept new.keep) text
    pub part : written < length (batch_text (as_next old.counted.publisher.batches b))
    pub front : Appends (recorded old.counted.publisher.journal) (recorded new.counted.publisher.journal) (take written (batch_text (as_next old.counted.publisher.batches b)))
    pub batches : new.counted.publisher.batches ≡ old.counted.publisher.batches
    pub source : new.counted.publisher.source ≡ old.counted.publisher.source
    pub steps : new.counted.steps ≡ old.counted.steps

  abbrev pub IsUnshownBy : Shown J K → List ℕ → NumberedChanges → WriteFault → Shown J K → Type 0
  IsUnshownBy old text b (fault.Keep written) new = IsKeepCut old text written new
  IsUnshownBy old text b (fault.Journal written) new = IsJournalCut old text b written new

  -- how the code keeps texts and publishes batches
  abbrev pub shown_spec : KeepSpec (Shown J K)
  shown_spec = record {
    stopped = λ s. s.stopped;
    keeps = IsShownBy;
    fails = IsUnshownBy;
  }

  -- The code has written and published what the state `s` says, since the publisher was `first` and
  -- `keep` was `start`.
  pub record Shows (first : PublisherState J) (start : K) (k : Shown J K) (s : ShownState) : Type 0 where
    pub source : k.counted.publisher.source ≡ first.source
    pub batches : k.counted.publisher.batches ≡ s.published
    pub stopped : k.stopped ≡ s.stopped
    pub journal : Appends (recorded first.journal) (recorded k.counted.publisher.journal) s.text
    pub written : Appends (kept start) (kept k.keep) s.kept
    pub steps : IsPrefix s.steps k.counted.steps.steps
