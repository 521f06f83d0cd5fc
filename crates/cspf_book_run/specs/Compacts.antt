-- The compact stream of rows that makes the base and the placements of a book, and the run that
-- makes it of a stream.
use Rattle.std.specs.Prelude.{◌≡◌, ◌<◌, ◌≤◌, ◌+◌, ℕ, List, [], ◌∷◌, ◌++◌, length, Option, IfSome}
use Rattle.std.specs.List.{flat_map, AllByRecursion}
use Rattle.cspf_model.specs.Database.{Database}
use Rattle.cspf_model.specs.Numbered.{NumberedChanges}
use Rattle.cspf_rows.specs.JournalLaws.{journal_text, AreInRange}
use Rattle.cspf_rows.specs.Records.{rows_of}
use Rattle.cspf_snapshot.specs.Snapshots.{IsSnapshot}
use Rattle.cspf_stream.specs.Lines.{unended_line}
use Rattle.cspf_book.specs.declared.placement.Placement.{Placement}
use Rattle.cspf_book.specs.BookState.{BookState}
use Rattle.cspf_book.specs.PlacedRoutes.{ArePlaced}
use Rattle.cspf_book_run.specs.BookScript.{BookRunState, book_answers, AreBookRowsAnswered}
use Rattle.cspf_book_run.specs.declared.book_rows.BookRows.{BookRows}
use Rattle.cspf_book_run.specs.declared.compact_stop.CompactStop.{CompactStop}
use Rattle.cspf_book_run.specs.declared.compact_stop.CompactStop.TheVariants as stop
use Rattle.cspf_book_run.specs.BookStates.{KeepsBook}
use Rattle.cspf_book_run.specs.HeldRows.{held_text, IsWritable}

-- The text is a snapshot of the base, and then the `held` row of each placement, in their order. The
-- numbers of the snapshot's changes are in the ranges of their types.
pub record IsCompact (base : Database) (placements : List Placement) (text : List ℕ) : Type 0 where
  pub making : List NumberedChanges
  pub snapshot : IsSnapshot base making
  pub range : AreInRange making
  pub whole : text ≡ journal_text making ++ flat_map held_text placements

-- A run over the rows of the text makes this base and these placements. The run refuses no row, and
-- at its end no changes are open. Its version is at most 5 more than the number of placements.
pub record MakesBook (text : List ℕ) (d : Database) (ps : List Placement) : Type 0 where
  pub lines : List ℕ
  pub after : BookRunState
  pub answered : AreBookRowsAnswered (rows_of text) lines after
  pub base : after.book.base ≡ d
  pub placements : after.book.placements ≡ ps
  pub changes : after.changes ≡ []
  pub refused : after.refused ≡ 0
  pub version : after.book.version ≤ 5 + length ps

-- The compact stream of a book makes its base and its placements.
abbrev pub CompactsMakeBooks : Type 0
CompactsMakeBooks =
    (s : BookState) (text : List ℕ) → ArePlaced s.placements → AllByRecursion IsWritable s.placements → IsCompact s.base s.placements text
    → MakesBook text s.base s.placements

-- All of the rows are answered, and none is refused.
abbrev pub AreAllTaken : List (List (List ℕ)) → BookRunState → Type 0
AreAllTaken rows after = (lines : List ℕ) × AreBookRowsAnswered rows lines after × (after.refused ≡ 0)

-- The code's rows store the state after all of the rows, in which no change is open. If the rows are
-- known, none of them is refused.
abbrev pub IsBookRead : {S : Type 0} → Option (List (List (List ℕ))) → BookRows S → Type 0
IsBookRead all k = (after : BookRunState) × KeepsBook k.rows after × (after.changes ≡ []) × IfSome all (λ rows. AreAllTaken rows after)

-- The text is the compact stream of the book that a run over the rows makes. The run refuses no
-- row, and at its end no changes are open. A run over the text makes the same base and placements.
pub record IsCompaction (rows : List (List (List ℕ))) (text : List ℕ) : Type 0 where
  pub after : BookRunState
  pub taken : AreAllTaken rows after
  pub ended : after.changes ≡ []
  pub compact : IsCompact after.book.base after.book.placements text
  pub same : MakesBook text after.book.base after.book.placements

-- The row with this number, counted from 1, is refused by this line. No row before it is refused.
pub record IsFirstRefused (rows : List (List (List ℕ))) (row : ℕ) (line : List ℕ) : Type 0 where
  pub done : List (List (List ℕ))
  pub fields : List (List ℕ)
  pub rest : List (List (List ℕ))
  pub split : rows ≡ done ++ fields ∷ rest
  pub place : row ≡ length done + 1
  pub before : BookRunState
  pub taken : AreAllTaken done before
  pub after : BookRunState
  pub answered : book_answers row before fields line after
  pub refused : 0 < after.refused

-- No row is refused, and at the end of the rows changes are open. The line says how many.
pub record AreUnended (rows : List (List (List ℕ))) (line : List ℕ) : Type 0 where
  pub after : BookRunState
  pub taken : AreAllTaken rows after
  pub some : 0 < length after.changes
  pub said : line ≡ unended_line (length after.changes)

-- why no compact stream is made of the rows
abbrev pub IsCompactStop : CompactStop → List (List (List ℕ)) → Type 0
IsCompactStop (stop.Stream why) rows = Unit {0}
IsCompactStop (stop.Refused row line) rows = IsFirstRefused rows row line.items
IsCompactStop (stop.Unended line) rows = AreUnended rows line.items
