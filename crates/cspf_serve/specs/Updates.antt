-- Defines the lines for a stream of updates that is read while clients ask. A run over one stream
-- of the same rows has the same lines, except after a fault of the journal or of memory. The number
-- of rows has no limit.
use Rattle.std.specs.Prelude.{◌≡◌, ℕ, ◌<◌, ◌≤◌, ◌⊎◌, Bool, true, false, List, [], ◌++◌, take, length, Result, Ok}
use mathlib.Core.List.{IsPrefix}
use Rattle.cspf_journal.specs.declared.log_step.LogStep.{LogStep}
use Rattle.cspf_model.specs.Numbered.{NumberedChanges}
use Rattle.cspf_publish.specs.JournalSteps.{count_of}
use Rattle.cspf_publish.specs.declared.errors.ApplyError.{ApplyError}
use Rattle.cspf_publish.specs.declared.errors.ApplyError.TheVariants as error
use Rattle.cspf_rows.specs.BatchText.{batch_text}
use Rattle.cspf_rows.specs.declared.row.Row.{Row}
use Rattle.cspf_rows.specs.declared.row.Row.TheVariants as row
use Rattle.cspf_rows.specs.declared.row_error.RowError.{RowError}
use Rattle.cspf_serve.specs.LiveWords.{unpublished_line}
use Rattle.cspf_solve.specs.Script.{RunState, start, at_next_row, after_refused_batch, open_batch, IsAccepted, IsEndAnswered, IsRowAnswered}

-- the state of a run of updates between two rows
pub record UpdatesState : Type 0 where
  -- the state that a run over one stream has after the same rows; its accepted batches are the
  -- published batches
  pub run : RunState
  -- whether the journal had a fault; after a fault nothing more is published
  pub stopped : Bool
  -- the text that was written to the journal
  pub text : List ℕ
  -- the steps of the journal up to the step that counts the last published batch as published
  pub steps : List LogStep

-- the state before the first row
abbrev pub no_updates : UpdatesState
no_updates = record { run = start; stopped = false; text = []; steps = [] }

-- the steps `before` are a prefix of the steps `after`, and the steps `after` count these batches
-- as published
pub record AreNowCounted (batches : List NumberedChanges) (before after : List LogStep) : Type 0 where
  pub later : IsPrefix before after
  pub counted : length batches ≤ count_of after

-- The state after a fault. The fault kept a batch from being published. If memory was refused, the
-- journal is unchanged. If the journal failed, it has a prefix of the batch's text, and nothing
-- more is written to it.
abbrev pub IsLeftByFault : UpdatesState → ℕ → ApplyError → UpdatesState → Type 0
IsLeftByFault s number error.Stopped t = ⊥
IsLeftByFault s number error.Exhausted t = ⊥
IsLeftByFault s number (error.WrongNumber expected) t = ⊥
IsLeftByFault s number (error.Refused why) t = ⊥
IsLeftByFault s number error.Memory t =
    t ≡ record { run = after_refused_batch s.run; stopped = false; text = s.text; steps = s.steps }
IsLeftByFault s number (error.Journal written) t =
    (written < length (batch_text (open_batch s.run number)))
    × (t ≡ record {
      run = after_refused_batch s.run;
      stopped = true;
      text = s.text ++ take written (batch_text (open_batch s.run number));
      steps = s.steps;
    })

-- A run over one stream would accept the batch, but a fault kept it from being published. The line
-- names the fault.
pub record IsUnpublished (s : UpdatesState) (number count : ℕ) (line : List ℕ) (t : UpdatesState) : Type 0 where
  pub accepted : IsAccepted s.run number count
  pub why : ApplyError
  pub left : IsLeftByFault s number why t
  pub line_is : line ≡ unpublished_line number why

-- The `end` row is answered as in a run over one stream: its batch is refused or published. If the
-- batch is published, its text is in the journal, and the journal's steps count it as published.
pub record IsAsInScript (s : UpdatesState) (number count : ℕ) (line : List ℕ) (t : UpdatesState) : Type 0 where
  pub answered : IsEndAnswered s.run number count line t.run
  pub going : t.stopped ≡ false
  pub published : IsAccepted s.run number count → t.text ≡ s.text ++ batch_text (open_batch s.run number)
  pub counted : IsAccepted s.run number count → AreNowCounted t.run.accepted s.steps t.steps
  pub refused : (IsAccepted s.run number count → ⊥) → t ≡ record { run = t.run; stopped = false; text = s.text; steps = s.steps }

-- after a fault of the journal, each batch is refused
abbrev pub IsRefusedBehindFault : UpdatesState → ℕ → List ℕ → UpdatesState → Type 0
IsRefusedBehindFault s number line t =
    (line ≡ unpublished_line number error.Stopped)
    × (t ≡ record { run = after_refused_batch s.run; stopped = true; text = s.text; steps = s.steps })

-- an `end` row is answered; the flag says whether the journal had a fault before this row
abbrev pub IsEndUpdate : Bool → UpdatesState → ℕ → ℕ → List ℕ → UpdatesState → Type 0
IsEndUpdate true s number count line t = IsRefusedBehindFault s number line t
IsEndUpdate false s number count line t = IsAsInScript s number count line t ⊎ IsUnpublished s number count line t

-- a row other than an `end` row is answered as in a run over one stream
pub record IsOtherUpdate (s : UpdatesState) (r : Result Row RowError) (line : List ℕ) (t : UpdatesState) : Type 0 where
  pub answered : IsRowAnswered s.run r line t.run
  pub same : t ≡ record { run = t.run; stopped = s.stopped; text = s.text; steps = s.steps }

-- the state after the next row is read, and before it is answered
abbrev pub at_next_update : UpdatesState → UpdatesState
at_next_update s = record s { run = at_next_row s.run }

-- the row is answered by this line, and `t` is the state after it; `s.run.rows` is the row's number
abbrev pub IsUpdateAnswered : UpdatesState → Result Row RowError → List ℕ → UpdatesState → Type 0
IsUpdateAnswered s (Ok (row.End number count)) line t = IsEndUpdate s.stopped s number count line t
IsUpdateAnswered s other line t = IsOtherUpdate s other line t

-- Memory is refused at a row, so the line of this row is missing. No batch is published without its
-- line. The state is as before, or it changes as the missing line would have said: open changes
-- (without their `end` row) are dropped, or the journal has a fault.
abbrev pub IsUpdateLost : UpdatesState → Result Row RowError → UpdatesState → Type 0
IsUpdateLost s row t = (t ≡ s) ⊎ ((line : List ℕ) × IsUpdateAnswered s row line t × (t.run.accepted ≡ s.run.accepted))
