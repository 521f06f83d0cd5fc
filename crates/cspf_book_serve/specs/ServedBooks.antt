-- The run of a server with a book: its beginning, the answers to its rows, and the database of each
-- published version.
use Rattle.std.specs.Prelude.{◌≡◌, ℕ, ◌-◌, ◌<◌, ◌≤◌, ◌⊎◌, false, Option, Some, IfSome, List, [], take, length, Result}
use Rattle.std.specs.List.{flat_map}
use Rattle.std.specs.Option.{option_map}
use Rattle.std.specs.Io.KnownBytes.{Appends}
use mathlib.Core.List.{IsPrefix}
use Rattle.cspf_client.specs.declared.client.Client.{Client}
use Rattle.cspf_client.specs.Sessions.{ReopensOf}
use Rattle.cspf_db.specs.Index.{links_of}
use Rattle.cspf_model.specs.Changes.{database_after}
use Rattle.cspf_model.specs.Numbered.{NumberedChanges}
use Rattle.cspf_questions.specs.declared.kinds.QuestionKinds.{QuestionKinds}
use Rattle.cspf_rows.specs.JournalLaws.{journal_text}
use Rattle.cspf_rows.specs.Records.{rows_of}
use Rattle.cspf_snapshot.specs.Snapshots.{IsSnapshot}
use Rattle.cspf_stream.specs.Lines.{last_line}
use Rattle.cspf_stream.specs.RowAnswers.{AnswersOf, AreAnswered}
use Rattle.cspf_stream.specs.StreamStops.{FailsOf}
use Rattle.cspf_stream.specs.declared.error.StreamError.{StreamError}
use Rattle.std.specs.declared.alloc.AllocError.{AllocError}
use Rattle.cspf_book.specs.BookState.{BookState}
use Rattle.cspf_book.specs.Effective.{effective}
use Rattle.cspf_book.specs.OverLinks.{over_on}
use Rattle.cspf_book_run.specs.BookLines.{over_line}
use Rattle.cspf_book_run.specs.BookRows.{book_row_of}
use Rattle.cspf_book_run.specs.BookScript.{BookRunState, going_on, name_of}
use Rattle.cspf_book_run.specs.Compacts.{AreAllTaken, IsCompactStop}
use Rattle.cspf_book_run.specs.KeptStates.{IsAnsweredOrOut, IsKeepLost}
use Rattle.cspf_serve.specs.PublishingRuns.{IsStreamRun, IsStatusOf}
use Rattle.cspf_serve.specs.ServedRun.{AreServedFrom, AreStepsOfRun}
use Rattle.cspf_serve.specs.declared.serving.served_run.Served.{Served}
use Rattle.cspf_book_serve.specs.declared.error.ServedBookError.{ServedBookError}
use Rattle.cspf_book_serve.specs.declared.error.ServedBookError.TheVariants as error
use Rattle.cspf_book_serve.specs.ShownTexts.{ShownState, shown_texts}

abbrev Rows : Type 0
Rows = List (List (List ℕ))

-- the state of a run between two rows
pub record ServedBookState : Type 0 where
  -- the book, the open changes, and the counts of answers and refusals
  pub run : BookRunState
  -- what was written and published
  pub shown : ShownState

-- How a row with these fields is answered, and what is written and published for it. If memory is
-- refused, the row is refused by `memory`. Then nothing is published for it, and nothing is written or
-- one of its writes failed.
abbrev pub served_book_answers : AnswersOf ServedBookState
served_book_answers place s fields line t = IsAnsweredOrOut shown_texts place s.run fields (book_row_of fields) line t.run s.shown t.shown

-- Memory is refused at the row with these fields, and also for the line that refuses it by `memory`.
-- The book, the open changes and the counts after the row aren't specified, because no row follows.
abbrev pub served_book_fails : AllocError → FailsOf ServedBookState
served_book_fails fault place s fields t = IsKeepLost shown_texts s.run fields (book_row_of fields) s.shown t.shown

-- ---- the beginning

-- The book that a server begins with is that of earlier rows. None of them is refused, and at their
-- end no change is open.
pub record IsBeginning (begin : Option (List ℕ)) (begun : BookRunState) : Type 0 where
  pub taken : IfSome begin (λ bytes. AreAllTaken (rows_of bytes) begun)
  pub ended : begun.changes ≡ []

-- The batches that are published before the first row are the snapshot of the effective database.
pub record IsBegunBy (begun : BookRunState) (making : List NumberedChanges) : Type 0 where
  pub snapshot : IsSnapshot (effective begun.book.base begun.book.placements) making
  pub few : length making ≤ begun.book.version

-- The effective database of the book is published, and the lines don't count the other versions of
-- the book.
pub record IsServerBegun (s : BookState) (skipped : ℕ) (making : List NumberedChanges) : Type 0 where
  pub snapshot : IsSnapshot (effective s.base s.placements) making
  pub few : length making ≤ s.version
  pub skips : skipped ≡ s.version - length making

-- The state before the first row of the updates. Lines name the book's version by how many batches
-- are published.
abbrev pub first_served : BookRunState → List NumberedChanges → ServedBookState
first_served begun making = record {
  run = going_on begun (begun.book.version - length making);
  shown = record { published = making; stopped = false; kept = []; text = journal_text making; steps = [] };
}

-- The lines that are written before the first row: an `over` line for each link and priority at which
-- the placements count more bandwidth than the link has.
abbrev pub begin_lines : BookState → List ℕ
begin_lines s = flat_map over_line (flat_map (over_on s.placements) (links_of s.base))

-- ---- the databases of the published versions

-- The last published version is the version of the book, as lines name it. Its database is the
-- effective database of the book.
pub record ShowsBook (s : ServedBookState) : Type 0 where
  pub skips : s.run.skipped ≤ s.run.book.version
  pub version : name_of s.run s.run.book.version ≡ length s.shown.published
  pub database : database_after s.shown.published ≡ effective s.run.book.base s.run.book.placements

-- The first rows of the updates, answered one after the other, lead to the state `s`. There the book
-- has the version `v`, and the database of the published version `v` is the effective database of
-- this book.
pub record IsPublishedBook (first : ServedBookState) (all : Option Rows) (published : List NumberedChanges) (v : ℕ) : Type 0 where
  pub done : Rows
  pub lines : List ℕ
  pub s : ServedBookState
  pub begins : IfSome all (λ rows. IsPrefix done rows)
  pub answered : AreAnswered served_book_answers 1 first done lines s
  pub version : name_of s.run s.run.book.version ≡ v
  pub first_batches : s.shown.published ≡ take v published
  pub database : database_after (take v published) ≡ effective s.run.book.base s.run.book.placements

-- Each published version's database is the effective database of the book after the accepted rows up
-- to it.
abbrev pub ArePublishedBooks : ServedBookState → Option Rows → List NumberedChanges → Type 0
ArePublishedBooks first all published =
    (v : ℕ) → length first.shown.published ≤ v → v ≤ length published → IsPublishedBook first all published v

-- ---- the run

-- All rows of the updates are answered, and then the last line is written. It counts the open
-- changes. Or the updates stop at an error.
abbrev pub IsServedBookRun : Result (Unit {0}) StreamError → Option Rows → ServedBookState → ServedBookState → Option (List ℕ) → Option (List ℕ) → Type 0
IsServedBookRun ended all first after old new =
    IsStreamRun served_book_answers served_book_fails (λ s line. line ≡ last_line false s.run.changes) ended all first after old new

-- The updates had refusals, or changes are open at their end.
abbrev pub HasRefusals : ServedBookState → Type 0
HasRefusals s = (0 < s.run.refused) ⊎ (0 < length s.run.changes)

-- A server begins with the book of earlier rows, and publishes its effective database. Then it writes
-- the `over` lines of the beginning, and answers the rows of the updates. The texts of the accepted
-- rows are appended to `keep`, and those of the published batches to the journal. Each published
-- version's database is the effective database of the book after the accepted rows up to it. The
-- answers to each client are computed from prefixes of the published batches. If memory is refused at
-- a row of the updates, the status says nothing of their refusals, since the counts aren't specified.
pub record IsServedBook {W J K Q V : Type 0} (kinds : QuestionKinds) (begin updates : Option (List ℕ)) (said : W → Option (List ℕ)) (kept : K → Option (List ℕ)) (recorded : J → Option (List ℕ)) (bytes : Q → Option (List ℕ)) (contents : V → Option (List ℕ)) (reopens : ReopensOf Q V) (writer : W) (keep : K) (journal : J) (clients : List (Client Q V)) (served : Served W J V) (keep_after : K) : Type 0 where
  pub begun : BookRunState
  pub beginning : IsBeginning begin begun
  pub making : List NumberedChanges
  pub begun_by : IsBegunBy begun making
  pub mid : Option (List ℕ)
  pub over_said : Appends (said writer) mid (begin_lines begun.book)
  pub after : ServedBookState
  pub updates_run : IsServedBookRun served.updates (option_map rows_of updates) (first_served begun making) after mid (said served.said)
  pub published_books : ArePublishedBooks (first_served begun making) (option_map rows_of updates) after.shown.published
  pub journal_grown : Appends (recorded journal) (recorded served.journal) after.shown.text
  pub keep_grown : Appends (kept keep) (kept keep_after) after.shown.kept
  pub steps_of_run : AreStepsOfRun after.shown.published after.shown.steps served.steps
  pub clients_served : AreServedFrom kinds bytes contents reopens after.shown.published served.steps 1 clients served.clients.items
  pub status_is : IsStatusOf (HasRefusals after) served.clients.items served.status

-- The beginning is refused because of its rows.
abbrev pub IsBeginFault : Option (List ℕ) → ServedBookError → Type 0
IsBeginFault begin (error.Begin why) = IfSome begin (λ bytes. IsCompactStop why (rows_of bytes))
IsBeginFault begin other = Unit {0}

-- The beginning isn't refused because of its rows.
abbrev pub IsOtherFault : ServedBookError → Type 0
IsOtherFault (error.Begin why) = ⊥
IsOtherFault other = Unit {0}

-- Rows keep that the server shows the book, and each version that they publish is one of the book.
abbrev pub RowsShowBooks : Type 0
RowsShowBooks =
    (first after : ServedBookState) (rows : Rows) (lines : List ℕ) → ShowsBook first → AreAnswered served_book_answers 1 first rows lines after
    → ShowsBook after × ArePublishedBooks first (Some rows) after.shown.published
