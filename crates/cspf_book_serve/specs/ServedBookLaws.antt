-- Laws of each run of a server with a book: what the placements count at each published version, which
-- book the texts of accepted rows restore, and how old a reply to a client may be.
use Rattle.std.specs.Prelude.{◌≡◌, ℕ, suc, ◌<◌, ◌⊎◌, true, false, Option, List, [], ◌∷◌, ◌++◌, take, length}
use Rattle.cspf_model.specs.Database.{IsLinkOf}
use Rattle.cspf_model.specs.Numbered.{NumberedChanges}
use Rattle.cspf_model.specs.declared.link.Link.{Link}
use Rattle.cspf_stream.specs.RowAnswers.{AreAnswered}
use Rattle.cspf_client.specs.Sessions.{ReopensOf}
use Rattle.cspf_client.specs.declared.client.Client.{Client}
use Rattle.cspf_questions.specs.declared.kinds.QuestionKinds.{QuestionKinds}
use Rattle.cspf_serve.specs.NumberedPairs.{AreNumberedPairs}
use Rattle.cspf_serve.specs.ServedLaws.{HasFreshSessions}
use Rattle.cspf_serve.specs.declared.serving.served_run.Served.{Served}
use Rattle.cspf_book.specs.BookState.{BookState}
use Rattle.cspf_book.specs.Laws.{IsCovered}
use Rattle.cspf_book_run.specs.BookScript.{BookRunState, book_answers}
use Rattle.cspf_book_run.specs.BookScriptLaws.{CoversSince, IsSaidOver}
use Rattle.cspf_book_run.specs.Compacts.{AreAllTaken}
use Rattle.cspf_book_run.specs.Kept.{kept_of}
use Rattle.cspf_book_run.specs.KeptLaws.{RemakesBehind, kept_or_out_answers}
use Rattle.cspf_book_run.specs.declared.write_fault.WriteFault.{WriteFault}
use Rattle.cspf_book_run.specs.declared.write_fault.WriteFault.TheVariants as fault
use Rattle.cspf_book_serve.specs.ServedBooks.{ServedBookState, served_book_answers, first_served, begin_lines, IsPublishedBook, IsServedBook}

abbrev Rows : Type 0
Rows = List (List (List ℕ))

-- ---- what the placements count

-- Each link of the base is covered at each priority, or the lines of the beginning include its
-- `over` line. A link is covered if the placements count at most its unreserved bandwidth.
abbrev pub BeginningsSayOver : Type 0
BeginningsSayOver =
    (s : BookState) (l : Link) (priority : ℕ) → IsLinkOf s.base l → priority < 8 → IsCovered s.placements l priority ⊎ IsSaidOver (begin_lines s) l priority

-- `CoversSince` holds for each state of a run, the lines of the rows that are answered next, and the
-- state after these rows, even if a write fails at one of them. So a covered link stays covered, or
-- its `over` line is among these lines.
abbrev pub ServedRowsCoverSince : Type 0
ServedRowsCoverSince =
    (place : ℕ) (s t : ServedBookState) (rows : Rows) (lines : List ℕ) → AreAnswered served_book_answers place s rows lines t → CoversSince s.run lines t.run

-- At each published version, each link of the base is covered at each priority, or the lines that
-- were written up to this version include its `over` line.
abbrev pub PublishedBooksAreCovered : Type 0
PublishedBooksAreCovered =
    (begun : BookRunState) (making : List NumberedChanges) (all : Option Rows) (published : List NumberedChanges) (v : ℕ) (at : IsPublishedBook (first_served begun making) all published v)
    (l : Link) (priority : ℕ) → IsLinkOf at.s.run.book.base l → priority < 8
    → IsCovered at.s.run.book.placements l priority ⊎ IsSaidOver (begin_lines begun.book ++ at.lines) l priority

-- ---- which book is restored

-- What is in `keep` behind the texts of the accepted rows, if this write failed at a row with the
-- text `whole`. If it was a write to `keep`, this is a part of the row's text, and never all of it. If
-- it was a write to the journal, it is the whole text of the row. In this case a run over the earlier
-- rows, the texts and this end makes the book that the row would have made.
abbrev pub IsEndBy : WriteFault → Rows → ℕ → List ℕ → List ℕ → List ℕ → BookRunState → Type 0
IsEndBy (fault.Keep written) earlier most text whole end next = (written < length whole) × (end ≡ take written whole)
IsEndBy (fault.Journal written) earlier most text whole end next = (end ≡ whole) × RemakesBehind earlier (text ++ end) most next

-- A write fails at the row with the fields `fields`. If the row were accepted, `next` would be the
-- state after it. The book is that of the rows before it, which have the texts `text`.
pub record IsCutRow (earlier : Rows) (first : BookRunState) (rows : Rows) (text end : List ℕ) (t : BookRunState) : Type 0 where
  pub done : Rows
  pub fields : List (List ℕ)
  pub rest : Rows
  pub split : rows ≡ done ++ fields ∷ rest
  pub before : BookRunState
  pub kept : AreAnswered kept_or_out_answers 1 first done text before
  pub book : t.book ≡ before.book
  pub line : List ℕ
  pub next : BookRunState
  pub accepted : book_answers (suc (length done)) before fields line next
  pub why : WriteFault
  pub is : IsEndBy why earlier (suc (length done)) text (kept_of before fields next) end next

-- What is in `keep` behind the texts of the accepted rows: nothing if no write has failed.
abbrev pub IsKeptEnd : Rows → BookRunState → Rows → List ℕ → List ℕ → ServedBookState → Type 0
IsKeptEnd earlier first rows text end t =
    ((t.shown.stopped ≡ false) × (end ≡ [])) ⊎ ((t.shown.stopped ≡ true) × IsCutRow earlier first rows text end t.run)

-- Let a run begin with the book of earlier rows, and answer some rows. Then a run over the earlier
-- rows and the texts of the accepted rows, which are in `keep`, ends with the same book. If a write
-- has failed, `keep` may have more behind these texts (`IsKeptEnd`).
abbrev pub ServedKeptIsTheBook : Type 0
ServedKeptIsTheBook =
    (earlier rows : Rows) (begun : BookRunState) (making : List NumberedChanges) (lines : List ℕ) (t : ServedBookState) → AreAllTaken earlier begun → begun.changes ≡ []
    → AreAnswered served_book_answers 1 (first_served begun making) rows lines t
    → (text : List ℕ) × (end : List ℕ) × (t.shown.kept ≡ text ++ end) × RemakesBehind earlier text (length rows) t.run
    × IsKeptEnd earlier (first_served begun making).run rows text end t

-- ---- how old a reply may be

-- The version of each reply to a client is at least the number of batches that were published before
-- its row was read. This is seen from the list of the journal's steps that the run returns, and holds
-- of each session of each client.
abbrev pub ServedBookRepliesAreFresh : Type 0 → Type 0 → Type 0 → {Q V : Type 0} → ReopensOf Q V → Type 0
ServedBookRepliesAreFresh W J K {Q} {V} reopens =
    (kinds : QuestionKinds) (begin updates : Option (List ℕ)) (said : W → Option (List ℕ)) (kept : K → Option (List ℕ)) (recorded : J → Option (List ℕ)) (bytes : Q → Option (List ℕ)) (contents : V → Option (List ℕ))
    (writer : W) (keep : K) (journal : J) (clients : List (Client Q V)) (served : Served W J V) (keep_after : K)
    → (run : IsServedBook kinds begin updates said kept recorded bytes contents reopens writer keep journal clients served keep_after)
    → AreNumberedPairs (HasFreshSessions kinds bytes contents reopens run.after.shown.published served.steps) 1 clients served.clients.items
