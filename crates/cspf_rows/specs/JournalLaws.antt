-- Laws of journals: the text that is written for batches is read as these batches.
use Rattle.std.specs.Prelude.{◌≡◌, ◌≤◌, ◌<◌, ◌^◌, ℕ, List, length}
use Rattle.std.specs.List.{flat_map, AllByRecursion}
use Rattle.cspf_model.specs.declared.batch.Change.{Change}
use Rattle.cspf_model.specs.declared.batch.Change.TheVariants as change
use Rattle.cspf_model.specs.Numbered.{NumberedChanges, AreNumberedFrom}
use Rattle.cspf_rows.specs.declared.limits.TheConstants.{MOST_ROWS}
use Rattle.cspf_rows.specs.declared.journal.Rest.{Rest}
use Rattle.cspf_rows.specs.declared.journal.Rest.TheVariants as rest
use Rattle.cspf_rows.specs.Written.{IsLinkInRange}
use Rattle.cspf_rows.specs.Records.{rows_of}
use Rattle.cspf_rows.specs.BatchText.{batch_text, batch_records}
use Rattle.cspf_rows.specs.Journal.{journal_rows, IsJournal}

-- each address, metric and group of a change is below 2^32, and each bandwidth is below 2^64
abbrev pub IsChangeInRange : Change → Type 0
IsChangeInRange (change.Put link) = IsLinkInRange link × (link.group < 2 ^ 32)
IsChangeInRange (change.Remove from local) = (from < 2 ^ 32) × (local < 2 ^ 32)
IsChangeInRange (change.Node router transit) = router < 2 ^ 32

-- the numbers of each change of the batches are in the ranges of `IsChangeInRange`
abbrev pub AreInRange : List NumberedChanges → Type 0
AreInRange batches = AllByRecursion (λ batch. AllByRecursion IsChangeInRange batch.changes) batches

-- the texts of batches, one after the other
abbrev pub journal_text : List NumberedChanges → List ℕ
journal_text batches = flat_map batch_text batches

-- The numbers of each change are in range. The batches are numbered 1, 2, 3 and so on, and have at
-- most `MOST_ROWS` rows together.
pub record AreWritable (batches : List NumberedChanges) : Type 0 where
  pub in_range : AreInRange batches
  pub numbers : AreNumberedFrom 1 batches
  pub few : length (journal_rows batches) ≤ MOST_ROWS

-- the text of a list of batches is cut into exactly the records of these batches
abbrev pub AreTextsCut : Type 0
AreTextsCut = (batches : List NumberedChanges) → AreWritable batches → rows_of (journal_text batches) ≡ flat_map batch_records batches

-- the text of a list of batches is read as a clean journal of exactly these batches
abbrev pub AreJournalsReadBack : Type 0
AreJournalsReadBack = (batches : List NumberedChanges) → AreWritable batches → IsJournal (rows_of (journal_text batches)) batches rest.Clean

-- A journal has only one reading: if the same records are read as two lists of batches, the two
-- lists are the same. Both readings are clean, or both are torn.
abbrev pub IsOneJournal : Type 0
IsOneJournal =
    (records : List (List (List ℕ))) (batches others : List NumberedChanges) (rest other : Rest)
    → IsJournal records batches rest → IsJournal records others other → (batches ≡ others) × (rest ≡ other)
