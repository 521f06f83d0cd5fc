-- Defines the values by which contracts describe journals, and what is true when a batch isn't
-- recorded.
use Rattle.std.specs.Prelude.{◌≡◌, ℕ, ◌<◌, Bool, true, List, length, take, Option}
use Rattle.std.specs.Io.KnownBytes.{Appends}
use Rattle.logbook.specs.Pages.{Book}
use Rattle.cspf_model.specs.Numbered.{NumberedChanges}
use Rattle.cspf_rows.specs.BatchText.{batch_text}
use Rattle.cspf_journal.specs.declared.not_recorded.NotRecorded.{NotRecorded}
use Rattle.cspf_journal.specs.declared.not_recorded.NotRecorded.TheVariants.{Lost, Writer}

-- A journal without batches: the identity of its list of batches (the list's source), and its
-- writer.
pub record NewJournalState (W : Type 0) : Type 0 where
  pub source : Book
  pub writer : W

-- A journal: the batches whose whole texts the writer has, and the identity of the list of these
-- batches (the list's source). Also the writer, and whether the writer failed in the text of a
-- later batch.
pub record JournalState (W : Type 0) : Type 0 where
  pub batches : List NumberedChanges
  pub source : Book
  pub stopped : Bool
  pub writer : W

-- Why a batch isn't recorded. `j` is the journal before the call and `j'` after it. On `Lost` the
-- shared list has more batches than this journal recorded, and nothing has changed. If the writer
-- failed, it has a strict prefix of the batch's text, and the journal never records again.
abbrev pub IsNotRecorded : {W : Type 0} → (W → Option (List ℕ)) → JournalState W → JournalState W → NumberedChanges → NotRecorded → Type 0
IsNotRecorded contents j j' b Lost = j' ≡ j
IsNotRecorded contents j j' b (Writer written) =
    (j'.stopped ≡ true) × (written < length (batch_text b))
    × Appends (contents j.writer) (contents j'.writer) (take written (batch_text b))
