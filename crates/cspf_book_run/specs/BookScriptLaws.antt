-- Laws of each run of a book.
use Rattle.std.specs.Prelude.{◌≡◌, ◌<◌, ◌^◌, ◌⊎◌, ◌↔◌, ℕ, true, false, List, ◌++◌, length, Contains, slice_index}
use Rattle.std.specs.List.{AllByRecursion}
use Rattle.cspf_model.specs.declared.batch.Change.TheVariants.{Put}
use Rattle.cspf_model.specs.declared.link.Link.{Link}
use Rattle.cspf_model.specs.Database.{Key, key_of, IsLinkOf}
use Rattle.cspf_rows.specs.JournalLaws.{IsChangeInRange}
use Rattle.cspf_rows.specs.Written.{IsLinkInRange}
use Rattle.cspf_stream.specs.RowAnswers.{AreAnswered}
use Rattle.cspf_solve.specs.declared.summary.Summary.{Summary}
use Rattle.cspf_book.specs.Placements.{counted}
use Rattle.cspf_book.specs.BookState.{BookState}
use Rattle.cspf_book.specs.OverLinks.{over_at}
use Rattle.cspf_book.specs.Laws.{IsCovered}
use Rattle.cspf_book_run.specs.BookLines.{over_line}
use Rattle.cspf_book_run.specs.BookScript.{BookRunState, AreBaseLines, book_answers, changers}
use Rattle.cspf_book_run.specs.KeptRuns.{KeptRunState, IsBookRun}

-- In both states no write to `keep`, the writer of accepted rows, has failed. Or one has failed in
-- both, and the same number of bytes was written to `keep`.
abbrev pub HaveKeptAlike : KeptRunState → KeptRunState → Type 0
HaveKeptAlike s t =
    ((s.stopped ≡ false) × (t.stopped ≡ false)) ⊎ ((s.stopped ≡ true) × (t.stopped ≡ true) × (length s.kept ≡ length t.kept))

-- The rows of a run determine its lines, what it writes to `keep`, and its summary, if no write to
-- `keep` fails. If one fails, the rows determine them together with the number of bytes that were
-- written to `keep`.
abbrev pub BooksHaveOneReply : Type 0
BooksHaveOneReply =
    (rows : List (List (List ℕ))) (first second kept other : List ℕ) (a b : Summary)
    → (one : IsBookRun rows first kept a) → (two : IsBookRun rows second other b) → HaveKeptAlike one.after two.after
    → (first ≡ second) × (kept ≡ other) × (a ≡ b)

-- Each link of the base is covered at each priority: the placements count on it at most its
-- unreserved bandwidth.
abbrev pub IsBookCovered : BookState → Type 0
IsBookCovered s = (l : Link) (priority : ℕ) → IsLinkOf s.base l → priority < 8 → IsCovered s.placements l priority

-- These lines include the `over` line of the link and the priority. An `over` line reports too
-- little bandwidth.
abbrev pub IsSaidOver : List ℕ → Link → ℕ → Type 0
IsSaidOver lines l priority =
    (before : List ℕ) × (after : List ℕ) × (lines ≡ before ++ over_line (over_at l priority) ++ after)

-- The claim for a state `s`, a later state `t`, and the lines that are written between them.
-- Suppose that a link of the base in `t` is covered in `s`, or isn't in the base in `s`. Then the
-- link is covered in `t`, or its `over` line was written in between, and a base batch was accepted
-- or a placement restored. An `over` line reports too little bandwidth.
abbrev pub CoversSince : BookRunState → List ℕ → BookRunState → Type 0
CoversSince s lines t =
    (l : Link) (priority : ℕ) → IsLinkOf t.book.base l → priority < 8
    → (IsLinkOf s.book.base l → IsCovered s.book.placements l priority)
    → IsCovered t.book.placements l priority ⊎ ((changers s < changers t) × IsSaidOver lines l priority)

-- `CoversSince` holds for each state of a run, the lines of the rows that are answered next, and
-- the state after these rows. So a covered link stays covered, or its `over` line is among these
-- lines. Other links and earlier lines don't matter.
abbrev pub RowsCoverSince : Type 0
RowsCoverSince =
    (place : ℕ) (s t : BookRunState) (rows : List (List (List ℕ))) (lines : List ℕ)
    → AreAnswered book_answers place s rows lines t → CoversSince s lines t

-- One of the changes since the last end row sets a link with the key of `l`. At this priority, the
-- new link has less unreserved bandwidth than the placements count on its key.
abbrev pub IsPutShort : BookRunState → Link → ℕ → Type 0
IsPutShort s l priority =
    (m : Link) × Contains s.changes (Put m) × (key_of m ≡ key_of l) × (slice_index m.free priority < counted s.book.placements (key_of m) priority)

-- These lines have the `over` line of a link and a priority exactly if one of the changes sets this
-- link with too little bandwidth (`IsPutShort`). The changes are the changes since the last end
-- row.
abbrev pub SaysOverExactly : BookRunState → List ℕ → Type 0
SaysOverExactly s lines =
    (l : Link) (priority : ℕ) → l.from < 2 ^ 32 → l.local < 2 ^ 32 → priority < 8 → IsSaidOver lines l priority ↔ IsPutShort s l priority

-- The lines of an accepted base batch include exactly the `over` lines of the links that the batch
-- sets with too little bandwidth (`SaysOverExactly`). The numbers of the batch's changes have to be
-- in the ranges of their types.
abbrev pub BaseLinesAreExact : Type 0
BaseLinesAreExact =
    (s : BookRunState) (number : ℕ) (lines : List ℕ) → AllByRecursion IsChangeInRange s.changes → AreBaseLines s number lines
    → SaysOverExactly s lines

-- As long as no base batch is accepted and no placement is restored, no `over` line is written. An
-- `over` line reports too little bandwidth.
abbrev pub OnlyChangersSayOver : Type 0
OnlyChangersSayOver =
    (place : ℕ) (s t : BookRunState) (rows : List (List (List ℕ))) (lines : List ℕ)
    → AreAnswered book_answers place s rows lines t → changers t ≡ changers s
    → (l : Link) (priority : ℕ) → ¬ IsSaidOver lines l priority

-- The numbers of the base's links, and of the changes since the last end row, are in the ranges of
-- their types. If no placement was restored, the bandwidth that the placements count is below 2 ^ 64
-- at each key and priority. A restored placement isn't compared with the base's bandwidths.
pub record IsBookInRange (s : BookRunState) : Type 0 where
  pub base : (l : Link) → IsLinkOf s.book.base l → IsLinkInRange l
  pub changes : AllByRecursion IsChangeInRange s.changes
  pub sums : s.restored ≡ 0 → (k : Key) (priority : ℕ) → priority < 8 → counted s.book.placements k priority < 2 ^ 64

-- If the numbers of a state are in range (`IsBookInRange`), they are in range after any rows. This
-- is true even after base batches that lower the bandwidth of links.
abbrev pub RowsKeepRange : Type 0
RowsKeepRange =
    (place : ℕ) (s t : BookRunState) (rows : List (List (List ℕ))) (lines : List ℕ)
    → AreAnswered book_answers place s rows lines t → IsBookInRange s → IsBookInRange t
