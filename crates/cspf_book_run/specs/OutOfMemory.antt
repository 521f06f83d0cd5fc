-- The rows of a server's book at which memory is refused. Such a row is refused by `memory`, and the
-- rows after it are answered.
use Rattle.std.specs.Prelude.{◌≡◌, ◌⊎◌, ℕ, Bool, true, false, List, Result, Ok, Err}
use Rattle.cspf_rows.specs.declared.row.Row.{Row}
use Rattle.cspf_rows.specs.declared.row.Row.TheVariants as base
use Rattle.cspf_stream.specs.Lines.{refused_batch_line}
use Rattle.cspf_stream.specs.declared.batch_refusal.BatchRefusal.TheVariants as refusal
use Rattle.cspf_book.specs.Placements.{id_of}
use Rattle.cspf_book_run.specs.BookLines.{refused_place_line, refused_release_line}
use Rattle.cspf_book_run.specs.BookRowWords.{refused_book_row_line}
use Rattle.cspf_book_run.specs.BookScript.{BookRunState, after_refusal, after_refused_base_batch}
use Rattle.cspf_book_run.specs.PlacementLines.{refused_held_line, refused_offer_line}
use Rattle.cspf_book_run.specs.declared.book_row.BookRow.{BookRow}
use Rattle.cspf_book_run.specs.declared.book_row.BookRow.TheVariants as book_row
use Rattle.cspf_book_run.specs.declared.book_row_error.BookRowError.{BookRowError}
use Rattle.cspf_book_run.specs.declared.book_row_error.BookRowError.TheVariants as unread
use Rattle.cspf_book_run.specs.declared.held_refusal.HeldRefusal.TheVariants as unheld
use Rattle.cspf_book_run.specs.declared.refusals.PlaceRefusal.TheVariants as unplaced
use Rattle.cspf_book_run.specs.declared.refusals.ReleaseRefusal.TheVariants as unreleased
use Rattle.cspf_book_run.specs.declared.row_name.RowName.{RowName}
use Rattle.cspf_book_run.specs.declared.row_name.RowName.TheVariants as name

-- what a row of the base is called in the line that refuses it by `memory`
abbrev pub base_name_of : Row → RowName
base_name_of (base.End number count) = name.Batch number
base_name_of other = name.Row

-- what a row is called in the line that refuses it by `memory`
abbrev pub row_name_of : BookRow → RowName
row_name_of (book_row.Base row) = base_name_of row
row_name_of (book_row.Place q hold) = name.Place q.id
row_name_of (book_row.Release id) = name.Release id
row_name_of (book_row.Held p) = name.Held (id_of p)
row_name_of (book_row.Offer q hold) = name.Offer q.id
row_name_of (book_row.Show id) = name.Row
row_name_of (book_row.Left from local) = name.Row

-- whether the row with this name is an end row
abbrev pub is_batch_name : RowName → Bool
is_batch_name (name.Batch number) = true
is_batch_name other = false

-- the line that refuses the row with this name by `memory`; `place` is the number of the row, counted
-- from 1
abbrev pub memory_line : ℕ → RowName → List ℕ
memory_line place name.Row = refused_book_row_line place unread.Memory
memory_line place (name.Batch number) = refused_batch_line number refusal.Memory
memory_line place (name.Place id) = refused_place_line id unplaced.Memory
memory_line place (name.Release id) = refused_release_line id unreleased.Memory
memory_line place (name.Held id) = refused_held_line id unheld.Memory
memory_line place (name.Offer id) = refused_offer_line id unplaced.Memory

-- The state after the row with this name is refused by `memory`. The book is unchanged. If the row is
-- an end row, the changes since the last end row are dropped.
abbrev pub after_memory : BookRunState → RowName → BookRunState
after_memory s (name.Batch number) = after_refused_base_batch s
after_memory s other = after_refusal s

-- what a row is called, if its fields are read in this way
abbrev pub name_as_read : Result BookRow BookRowError → RowName
name_as_read (Err error) = name.Row
name_as_read (Ok row) = row_name_of row

-- Row `place`, counted from 1, is refused by `memory`. If memory is refused before its fields are read,
-- it is called by its number.
pub record IsRefusedByMemory (place : ℕ) (s : BookRunState) (row : Result BookRow BookRowError) (line : List ℕ) (t : BookRunState) : Type 0 where
  pub called : RowName
  pub name : (called ≡ name.Row) ⊎ (called ≡ name_as_read row)
  pub line_is : line ≡ memory_line place called
  pub after : t ≡ after_memory s called
