-- How the code stores the state of a run, and how the answer to one row changes this state.
use Rattle.std.specs.Prelude.{◌≡◌, ℕ, ◌+◌, ◌<◌, ◌≤◌}
use Rattle.cspf_rows.specs.declared.limits.TheConstants.{MOST_ROWS}
use Rattle.cspf_stream.specs.OpenChanges.{AreOpen}
use Rattle.cspf_stream.specs.RowCounts.{GrowsByOneAtMost}
use Rattle.cspf_stream.specs.declared.rows.Rows.{Rows}
use Rattle.cspf_book.specs.PlacedRoutes.{ConnectsItsEnds}
use Rattle.cspf_book_run.specs.declared.book_row.BookRow.{BookRow}
use Rattle.cspf_book_run.specs.declared.book_row.BookRow.TheVariants as book_row
use Rattle.cspf_book_run.specs.declared.book_rows.BookRows.{BookRows}
use Rattle.cspf_book_run.specs.BookScript.{BookRunState}
use Rattle.cspf_book_run.specs.BookSinks.{BookSinkState}

-- A claim that is true of each row that is read. In a `place` or `offer` row, the setup priority is
-- 7 and the holding priority is at most 7. In a `held` row, the setup priority is 7, and the route
-- leads from the head-end to the tail-end.
abbrev pub IsReadable : BookRow → Type 0
IsReadable (book_row.Place q hold) = (q.setup ≡ 7) × (hold < 8)
IsReadable (book_row.Offer q hold) = (q.setup ≡ 7) × (hold < 8)
IsReadable (book_row.Held p) = (p.request.setup ≡ 7) × ConnectsItsEnds p
IsReadable other = Unit {0}

-- The code's rows store the state `s` of the run.
pub record KeepsBook {S : Type 0} (k : Rows (BookSinkState S)) (s : BookRunState) : Type 0 where
  pub book : k.sink.book ≡ s.book
  pub batches : k.sink.batches ≡ s.batches
  pub skipped : k.sink.skipped ≡ s.skipped
  pub changes : AreOpen k.changes s.changes
  pub answers : k.answers ≡ s.answers
  pub refused : k.refused ≡ s.refused

-- If `old` stores a state `s` of the run, `new` stores a state `t` such that `Step s t` holds.
abbrev pub BookLeads : {S : Type 0} → Rows (BookSinkState S) → Rows (BookSinkState S) → (BookRunState → BookRunState → Type 0) → Type 0
BookLeads old new Step = (s : BookRunState) → KeepsBook old s → (t : BookRunState) × KeepsBook new t × Step s t

-- The count of rows grows by 1, and each other count grows by at most 1.
pub record CountsBookRow {S : Type 0} (old new : BookRows S) : Type 0 where
  pub rows : new.read ≡ old.read + 1
  pub others : GrowsByOneAtMost old.rows new.rows

-- The next row is row `place`, counted from 1. All rows before it were read, and each other count
-- is below `place`.
pub record IsBookBefore {S : Type 0} (place : ℕ) (k : BookRows S) : Type 0 where
  pub rows : k.read + 1 ≡ place
  pub count : k.rows.changes.count < place
  pub answers : k.rows.answers < place
  pub refused : k.rows.refused < place

-- At the end of a run, the counts of rows, answers and refusals are at most 1,000,000 each.
pub record AreBookCounts {S : Type 0} (k : BookRows S) : Type 0 where
  pub rows : k.read ≤ MOST_ROWS
  pub answers : k.rows.answers ≤ MOST_ROWS
  pub refused : k.rows.refused ≤ MOST_ROWS
