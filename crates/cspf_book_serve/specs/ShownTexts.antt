-- What a server with a book writes and publishes for each accepted row.
use Rattle.std.specs.Prelude.{◌≡◌, ℕ, ◌+◌, ◌<◌, Bool, true, List, [], ◌∷◌, ◌++◌, take, length}
use Rattle.cspf_journal.specs.declared.log_step.LogStep.{LogStep}
use Rattle.cspf_model.specs.Numbered.{NumberedChanges}
use Rattle.cspf_rows.specs.BatchText.{batch_text}
use Rattle.cspf_book_run.specs.Keeping.{KeepSpec}
use Rattle.cspf_book_run.specs.declared.write_fault.WriteFault.{WriteFault}
use Rattle.cspf_book_run.specs.declared.write_fault.WriteFault.TheVariants as fault
use Rattle.cspf_serve.specs.Updates.{AreNowCounted}

-- what a server with a book has written and published
pub record ShownState : Type 0 where
  -- the published batches
  pub published : List NumberedChanges
  -- whether a write has failed; after that no row is accepted
  pub stopped : Bool
  -- the text that was written to the writer `keep`
  pub kept : List ℕ
  -- the text that was written to the journal
  pub text : List ℕ
  -- the steps of the journal up to the step that counts the last published batch as published
  pub steps : List LogStep

-- the batch with the number of the next published batch
abbrev pub as_next : List NumberedChanges → NumberedChanges → NumberedChanges
as_next published b = record b { number = length published + 1 }

-- The row's text is written to `keep`, and the batch's text to the journal. The batch is published,
-- and the journal's steps count it as published.
pub record IsShownNext (s : ShownState) (said : List ℕ) (b : NumberedChanges) (t : ShownState) : Type 0 where
  pub kept : t.kept ≡ s.kept ++ said
  pub text : t.text ≡ s.text ++ batch_text (as_next s.published b)
  pub published : t.published ≡ s.published ++ as_next s.published b ∷ []
  pub going : t.stopped ≡ s.stopped
  pub counted : AreNowCounted t.published s.steps t.steps

-- A write fails, and nothing is published. If it is a write to `keep`, the journal is unchanged. If
-- it is a write to the journal, the whole text of the row is in `keep`. In each case, a part of the
-- text that is written then is there, and never all of it.
abbrev pub IsUnshown : ShownState → List ℕ → NumberedChanges → WriteFault → ShownState → Type 0
IsUnshown s text b (fault.Keep written) t =
    (written < length text) × (t ≡ record s { stopped = true; kept = s.kept ++ take written text })
IsUnshown s text b (fault.Journal written) t =
    (written < length (batch_text (as_next s.published b)))
    × (t ≡ record s { stopped = true; kept = s.kept ++ text; text = s.text ++ take written (batch_text (as_next s.published b)) })

-- how the texts of accepted rows are kept, and their batches published
abbrev pub shown_texts : KeepSpec ShownState
shown_texts = record { stopped = λ s. s.stopped; keeps = IsShownNext; fails = IsUnshown }
