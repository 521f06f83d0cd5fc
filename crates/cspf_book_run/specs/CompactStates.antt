-- Private: how the code answers the rows of which a compact stream is made.
use Rattle.std.specs.Prelude.{◌≡◌, ◌<◌, ℕ, false, List, []}
use Rattle.std.specs.List.{AllByRecursion}
use Rattle.cspf_book.specs.PlacedRoutes.{ArePlaced}
use Rattle.cspf_stream.specs.declared.error.StreamStop.{StreamStop}
use Rattle.cspf_stream.specs.declared.error.StreamStop.TheVariants as stream_stop
use Rattle.cspf_book_run.specs.declared.book_rows.BookRows.{BookRows}
use Rattle.cspf_book_run.specs.declared.compact_run.CompactRows.{CompactRows}
use Rattle.cspf_book_run.specs.declared.compact_stop.CompactStop.{CompactStop}
use Rattle.cspf_book_run.specs.declared.compact_stop.CompactStop.TheVariants as stop
use Rattle.cspf_book_run.specs.declared.keeper.KeepsNothing.{KeepsNothing}
use Rattle.cspf_book_run.specs.BookScript.{book_answers}
use Rattle.cspf_book_run.specs.BookStates.{IsBookBefore, BookLeads}
use Rattle.cspf_book_run.specs.Compacts.{IsCompact, CompactsMakeBooks}
use Rattle.cspf_book_run.specs.HeldRows.{IsPlacementInRange}
use Rattle.cspf_book_run.specs.KeptStates.{IsBookLast}

-- The next row is row `place`, counted from 1.
pub record IsCompactBefore (place : ℕ) (k : CompactRows) : Type 0 where
  pub rows : IsBookBefore place k.rows

-- Row `place` is answered, and isn't refused. Nothing is written.
pub record IsRowTaken (place : ℕ) (old : CompactRows) (fields : List (List ℕ)) (line : List ℕ) (new : CompactRows) : Type 0 where
  pub quiet : line ≡ []
  pub lead : BookLeads old.rows.rows new.rows.rows (λ s t. (said : List ℕ) × book_answers place s fields said t)
  pub none : new.rows.rows.refused ≡ 0

-- Row `place` is refused by this line.
pub record IsCompactRefusal (place : ℕ) (old : CompactRows) (fields : List (List ℕ)) (line : List ℕ) (new : CompactRows) : Type 0 where
  pub lead : BookLeads old.rows.rows new.rows.rows (λ s t. book_answers place s fields line t)
  pub some : 0 < new.rows.rows.refused

-- why the run stops at row `place`
abbrev pub IsCompactFault : CompactStop → ℕ → CompactRows → List (List ℕ) → CompactRows → Type 0
IsCompactFault (stop.Stream why) place old fields new = Unit {0}
IsCompactFault (stop.Refused row line) place old fields new = (row ≡ place) × IsCompactRefusal place old fields line.items new
IsCompactFault (stop.Unended line) place old fields new = ⊥

-- why no compact stream is made, if the answers to the rows stop so
abbrev pub compact_stop_of : StreamStop CompactStop → CompactStop
compact_stop_of (stream_stop.Stream why) = stop.Stream why
compact_stop_of (stream_stop.Answer why) = why

-- The text is the compact stream of the book, which makes the base and the placements of the book.
pub record IsBookCompact (k : BookRows KeepsNothing) (text : List ℕ) : Type 0 where
  pub placed : ArePlaced k.rows.sink.book.placements
  pub range : AllByRecursion IsPlacementInRange k.rows.sink.book.placements
  pub compact : IsCompact k.rows.sink.book.base k.rows.sink.book.placements text
  pub make : CompactsMakeBooks

-- memory is refused, or a read fails
abbrev pub IsReadingStop : CompactStop → Type 0
IsReadingStop (stop.Stream why) = Unit {0}
IsReadingStop (stop.Refused row line) = ⊥
IsReadingStop (stop.Unended line) = ⊥

-- why no compact stream is made after the last row
abbrev pub IsOpenStop : CompactRows → CompactStop → Type 0
IsOpenStop k (stop.Stream why) = Unit {0}
IsOpenStop k (stop.Refused row line) = ⊥
IsOpenStop k (stop.Unended line) = (0 < k.rows.rows.changes.count) × IsBookLast k.rows false line.items
