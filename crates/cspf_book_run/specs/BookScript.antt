-- Which lines a book writes for a stream of rows, as long as no write to `keep`, the writer of
-- accepted rows, fails. The stream and the lines are lists of bytes. `KeptRuns.antt` defines a
-- whole run, in which a write may fail.
use Rattle.std.specs.Prelude.{◌≡◌, ℕ, ◌+◌, ◌-◌, ◌<◌, ◌≤◌, ◌⊎◌, Bool, IsTrue, List, [], ◌∷◌, ◌++◌, Option, Some, None, Result, Ok, Err}
use Rattle.std.specs.List.{flat_map}
use Rattle.cspf_model.specs.declared.batch.Change.{Change}
use Rattle.cspf_book_run.specs.declared.limits.TheConstants.{MOST_PLACING_VERSIONS}
use Rattle.cspf_model.specs.declared.request.Request.{Request}
use Rattle.cspf_model.specs.Best.{Answer, IsBestAnswer}
use Rattle.cspf_model.specs.Changes.{after_changes, no_links}
use Rattle.cspf_model.specs.Database.{Key}
use Rattle.cspf_model.specs.Numbered.{NumberedChanges}
use Rattle.cspf_ero.specs.ReplyLine.{IsReply}
use Rattle.cspf_stream.specs.declared.batch_refusal.BatchRefusal.{BatchRefusal}
use Rattle.cspf_stream.specs.EndRows.{IsBatchAccepted, IsBatchRefusal}
use Rattle.cspf_stream.specs.Lines.{refused_batch_line}
use Rattle.cspf_stream.specs.RowAnswers.{AnswersOf, AreAnswered}
use Rattle.cspf_rows.specs.Steps.{step_of}
use Rattle.cspf_rows.specs.declared.step.Step.{Step}
use Rattle.cspf_rows.specs.declared.step.Step.TheVariants as step
use Rattle.cspf_solve.specs.declared.summary.Summary.{Summary}
use Rattle.cspf_solve.specs.Script.{unended_count}
use Rattle.cspf_book.specs.declared.error.PlaceError.TheVariants.{Full, TooManyLinks, Twice, TooLong}
use Rattle.cspf_book.specs.declared.error.RestoreError.TheVariants as unrestored
use Rattle.cspf_book.specs.declared.link_figures.LinkFigures.{LinkFigures}
use Rattle.cspf_book.specs.declared.placement.Placement.{Placement}
use Rattle.cspf_book.specs.LinkFigures.{figures_at}
use Rattle.cspf_book.specs.Placements.{has_id, id_of, others, placement_of}
use Rattle.cspf_book.specs.Restoring.{MayBeAdded, after_restoring, IsRestoreError}
use Rattle.cspf_book.specs.Effective.{effective}
use Rattle.cspf_book.specs.BookState.{BookState, effective_beside, HasRoomFor, IsAnswerPlaced, IsPlaceError}
use Rattle.cspf_book.specs.LostRoutes.{AreLost}
use Rattle.cspf_book.specs.OverLinks.{over, made_over}
use Rattle.cspf_book_run.specs.BookLines.{over_line, lost_line, base_line, IsPlaceReply, released_line, refused_place_line, refused_release_line}
use Rattle.cspf_book_run.specs.BookRows.{book_row_of}
use Rattle.cspf_book_run.specs.BookRowWords.{refused_book_row_line}
use Rattle.cspf_book_run.specs.PlacementLines.{held_line, refused_held_line, IsOfferReply, refused_offer_line, show_line, refused_show_line, left_line, refused_left_line}
use Rattle.cspf_book_run.specs.declared.book_row.BookRow.{BookRow}
use Rattle.cspf_book_run.specs.declared.book_row.BookRow.TheVariants as book_row
use Rattle.cspf_book_run.specs.declared.book_row_error.BookRowError.{BookRowError}
use Rattle.cspf_book_run.specs.declared.held_refusal.HeldRefusal.{HeldRefusal}
use Rattle.cspf_book_run.specs.declared.held_refusal.HeldRefusal.TheVariants as unheld
use Rattle.cspf_book_run.specs.declared.refusals.PlaceRefusal.{PlaceRefusal}
use Rattle.cspf_book_run.specs.declared.refusals.PlaceRefusal.TheVariants as unplaced
use Rattle.cspf_book_run.specs.declared.refusals.ReleaseRefusal.{ReleaseRefusal}
use Rattle.cspf_book_run.specs.declared.refusals.ReleaseRefusal.TheVariants as unreleased

-- the state of a run between two rows
pub record BookRunState : Type 0 where
  -- the book: the base, the version of the book, and the placements
  pub book : BookState
  -- how many base batches were accepted
  pub batches : ℕ
  -- how many placements were restored by `held` rows
  pub restored : ℕ
  -- the open changes: the changes after the last end row
  pub changes : List Change
  -- how many requests were answered, from `ask`, `place` and `offer` rows together
  pub answers : ℕ
  -- how many refusals there were: of rows that couldn't be read, of batches, and of rows about placements
  pub refused : ℕ
  -- how many of the book's first versions aren't counted where lines name a version
  pub skipped : ℕ

-- The state before the first row: version 0, the empty base, no placements and no open changes. Each
-- version is counted.
abbrev pub book_start : BookRunState
book_start = record {
  book = record { base = no_links; version = 0; placements = [] };
  batches = 0;
  restored = 0;
  changes = [];
  answers = 0;
  refused = 0;
  skipped = 0;
}

-- The state before the first row of a run that goes on with the book of the state `s`. The first
-- `skipped` versions of the book aren't counted where lines name a version.
abbrev pub going_on : BookRunState → ℕ → BookRunState
going_on s skipped = record s { changes = []; answers = 0; refused = 0; skipped = skipped }

-- the number by which lines name this version of the book
abbrev pub name_of : BookRunState → ℕ → ℕ
name_of s version = version - s.skipped

-- how many base batches were accepted and placements restored, taken together
abbrev pub changers : BookRunState → ℕ
changers s = s.batches + s.restored

-- the base batch that has this number and the open changes, which are the changes since the last
-- end row
abbrev pub open_base_batch : BookRunState → ℕ → NumberedChanges
open_base_batch s number = record { number = number; changes = s.changes }

-- the state after the refusal of a row: the book is unchanged, and so are the changes since the
-- last end row
abbrev pub after_refusal : BookRunState → BookRunState
after_refusal s = record s { refused = s.refused + 1 }

-- the state after a change: the change is appended to the changes since the last end row
abbrev pub after_open_change : BookRunState → Change → BookRunState
after_open_change s c = record s { changes = s.changes ++ c ∷ [] }

-- The state after an accepted base batch: the changes since the last end row are applied to the
-- base. The placements are unchanged.
abbrev pub after_base_batch : BookRunState → BookRunState
after_base_batch s = record s {
  book = record {
    base = after_changes s.book.base s.changes;
    version = s.book.version + 1;
    placements = s.book.placements;
  };
  batches = s.batches + 1;
  changes = [];
}

-- the state after a refused base batch: the changes since the last end row are dropped, and the
-- book is unchanged
abbrev pub after_refused_base_batch : BookRunState → BookRunState
after_refused_base_batch s = record s { changes = []; refused = s.refused + 1 }

-- the state after a request is answered: one more answer is counted, and `book` is the book after
-- the answer
abbrev pub after_answer : BookRunState → BookState → BookRunState
after_answer s book = record s { book = book; answers = s.answers + 1 }

-- the state after the release of the placement with this id
abbrev pub after_release : BookRunState → ℕ → BookRunState
after_release s id = record s {
  book = record {
    base = s.book.base;
    version = s.book.version + 1;
    placements = others id s.book.placements;
  };
}

-- the state after a placement is restored
abbrev pub after_held : BookRunState → Placement → BookRunState
after_held s p = record s { book = after_restoring s.book p; restored = s.restored + 1 }

-- The changes since the last end row are accepted as the base batch with this number and count. The
-- number of the next base batch counts base batches alone.
abbrev pub IsBaseAccepted : BookRunState → ℕ → ℕ → Type 0
IsBaseAccepted s number count = IsBatchAccepted s.book.version (s.batches + 1) s.changes s.book.base number count

-- The lines of an accepted base batch. First comes an `over` line for each link and priority at
-- which the placements count more bandwidth than the link has. Then comes a `lost` line for each
-- placement that loses its route. The line of the batch is last.
abbrev pub AreBaseLines : BookRunState → ℕ → List ℕ → Type 0
AreBaseLines s number lines =
    (ids : List ℕ) × AreLost s.book.base (after_changes s.book.base s.changes) s.book.placements ids
    × (lines ≡ flat_map over_line (over s.book.placements s.changes) ++ flat_map lost_line ids ++ base_line number (name_of s (s.book.version + 1)))

-- An end row is answered by the lines of its batch, or by the line that refuses the batch.
abbrev pub IsBaseEndAnswered : BookRunState → ℕ → ℕ → List ℕ → BookRunState → Type 0
IsBaseEndAnswered s number count line after =
    (IsBaseAccepted s number count × AreBaseLines s number line × (after ≡ after_base_batch s))
    ⊎ ((why : BatchRefusal) × (¬ IsBaseAccepted s number count)
    × IsBatchRefusal s.book.version (s.batches + 1) s.changes s.book.base number count why
    × (line ≡ refused_batch_line number why) × (after ≡ after_refused_base_batch s))

-- An `ask` row is answered with the best answer in the effective database. This is the base with
-- the bandwidth that the placements leave on its links.
abbrev pub IsAskAnswered : BookRunState → Request → List ℕ → BookRunState → Type 0
IsAskAnswered s q line after =
    (answer : Answer) × IsBestAnswer (effective s.book.base s.book.placements) q answer
    × IsReply q.id (name_of s s.book.version) answer line × (after ≡ after_answer s s.book)

-- Why a request isn't placed. The first of these reasons that applies is given. `Stopped` and `Failed`
-- never apply here, because no write fails.
abbrev pub IsPlaceRefusal : BookRunState → Request → PlaceRefusal → Type 0
IsPlaceRefusal s q unplaced.Exhausted = MOST_PLACING_VERSIONS ≤ s.book.version
IsPlaceRefusal s q unplaced.Full = (s.book.version < MOST_PLACING_VERSIONS) × IsPlaceError s.book q Full
IsPlaceRefusal s q unplaced.Links = (s.book.version < MOST_PLACING_VERSIONS) × IsPlaceError s.book q TooManyLinks
IsPlaceRefusal s q unplaced.Twice = (s.book.version < MOST_PLACING_VERSIONS) × IsPlaceError s.book q Twice
IsPlaceRefusal s q unplaced.Long = (s.book.version < MOST_PLACING_VERSIONS) × IsPlaceError s.book q TooLong
IsPlaceRefusal s q other = ⊥

-- A `place` row is answered with the best answer in the effective database, in which the request's
-- earlier placement isn't counted. If the answer is a route, the request is placed along this
-- route. The line has the version of the book after the row. Before the row, the book has room for
-- one more placement and one more version.
pub record IsPlaceAnswered (s : BookRunState) (q : Request) (hold : ℕ) (line : List ℕ) (book : BookState) : Type 0 where
  pub room : s.book.version < MOST_PLACING_VERSIONS
  pub few : HasRoomFor s.book q.id
  pub answer : Answer
  pub best : IsBestAnswer (effective_beside s.book q.id) q answer
  pub placed : IsAnswerPlaced s.book q hold answer book
  pub reply : IsPlaceReply q.id (name_of s book.version) answer line

-- A `place` row is answered, or it is refused and the book is unchanged.
abbrev pub IsPlaceTaken : BookRunState → Request → ℕ → List ℕ → BookRunState → Type 0
IsPlaceTaken s q hold line after =
    (IsPlaceAnswered s q hold line after.book × (after ≡ after_answer s after.book))
    ⊎ ((why : PlaceRefusal) × IsPlaceRefusal s q why × (line ≡ refused_place_line q.id why) × (after ≡ after_refusal s))

-- Why no placement with this id is released. The first of these reasons that applies is given.
-- `Stopped` and `Failed` never apply here, because no write fails.
abbrev pub IsReleaseRefusal : BookRunState → ℕ → ReleaseRefusal → Type 0
IsReleaseRefusal s id unreleased.Exhausted = MOST_PLACING_VERSIONS ≤ s.book.version
IsReleaseRefusal s id unreleased.Absent = (s.book.version < MOST_PLACING_VERSIONS) × (¬ IsTrue (has_id id s.book.placements))
IsReleaseRefusal s id other = ⊥

-- A `release` row releases a placement, or it is refused and the book is unchanged.
abbrev pub IsReleaseTaken : BookRunState → ℕ → List ℕ → BookRunState → Type 0
IsReleaseTaken s id line after =
    ((s.book.version < MOST_PLACING_VERSIONS) × IsTrue (has_id id s.book.placements)
    × (line ≡ released_line id (name_of s (s.book.version + 1))) × (after ≡ after_release s id))
    ⊎ ((why : ReleaseRefusal) × IsReleaseRefusal s id why × (line ≡ refused_release_line id why) × (after ≡ after_refusal s))

-- Why a placement isn't restored. The first of these reasons that applies is given. `Stopped` and
-- `Failed` never apply here, because no write fails.
abbrev pub IsHeldRefusal : BookRunState → Placement → HeldRefusal → Type 0
IsHeldRefusal s p unheld.Exhausted = MOST_PLACING_VERSIONS ≤ s.book.version
IsHeldRefusal s p unheld.SameId = (s.book.version < MOST_PLACING_VERSIONS) × IsRestoreError s.book.placements p unrestored.SameId
IsHeldRefusal s p unheld.Full = (s.book.version < MOST_PLACING_VERSIONS) × IsRestoreError s.book.placements p unrestored.Full
IsHeldRefusal s p unheld.Long = (s.book.version < MOST_PLACING_VERSIONS) × IsRestoreError s.book.placements p unrestored.TooLong
IsHeldRefusal s p unheld.Twice = (s.book.version < MOST_PLACING_VERSIONS) × IsRestoreError s.book.placements p unrestored.Twice
IsHeldRefusal s p unheld.Links = (s.book.version < MOST_PLACING_VERSIONS) × IsRestoreError s.book.placements p unrestored.TooManyLinks
IsHeldRefusal s p other = ⊥

-- The lines of a restored placement. First comes an `over` line for each link and priority at which
-- it makes the placements count more bandwidth than the link has. The placement's own line is last.
abbrev pub held_lines : BookRunState → Placement → List ℕ
held_lines s p =
    flat_map over_line (made_over s.book.base s.book.placements p) ++ held_line (id_of p) (name_of s (s.book.version + 1))

-- A `held` row restores its placement, or it is refused and the book is unchanged.
abbrev pub IsHeldTaken : BookRunState → Placement → List ℕ → BookRunState → Type 0
IsHeldTaken s p line after =
    ((s.book.version < MOST_PLACING_VERSIONS) × MayBeAdded s.book.placements p
    × (line ≡ held_lines s p) × (after ≡ after_held s p))
    ⊎ ((why : HeldRefusal) × IsHeldRefusal s p why × (line ≡ refused_held_line (id_of p) why) × (after ≡ after_refusal s))

-- An `offer` row is answered as a `place` row of the same request would be, but the line has the
-- present version of the book. `placed` is the book that the `place` row would make.
pub record IsOfferAnswered (s : BookRunState) (q : Request) (hold : ℕ) (line : List ℕ) : Type 0 where
  pub room : s.book.version < MOST_PLACING_VERSIONS
  pub few : HasRoomFor s.book q.id
  pub answer : Answer
  pub best : IsBestAnswer (effective_beside s.book q.id) q answer
  pub placed : BookState
  pub may : IsAnswerPlaced s.book q hold answer placed
  pub reply : IsOfferReply q.id (name_of s s.book.version) answer line

-- An `offer` row is answered, or it is refused for the reason for which a `place` row of the same
-- request would be. The book is unchanged.
abbrev pub IsOfferTaken : BookRunState → Request → ℕ → List ℕ → BookRunState → Type 0
IsOfferTaken s q hold line after =
    (IsOfferAnswered s q hold line × (after ≡ after_answer s s.book))
    ⊎ ((why : PlaceRefusal) × IsPlaceRefusal s q why × (line ≡ refused_offer_line q.id why) × (after ≡ after_refusal s))

-- A `show` row shows the placement with this id. It is refused if there is none.
abbrev pub IsShown : BookRunState → ℕ → Option Placement → List ℕ → BookRunState → Type 0
IsShown s id (Some p) line after = (line ≡ show_line (name_of s s.book.version) p) × (after ≡ s)
IsShown s id None line after = (line ≡ refused_show_line id) × (after ≡ after_refusal s)

-- A `left` row shows the figures of the base's link with this key. It is refused if there is none.
abbrev pub IsLeftShown : BookRunState → Key → Option LinkFigures → List ℕ → BookRunState → Type 0
IsLeftShown s k (Some figures) line after = (line ≡ left_line k.0 k.1 (name_of s s.book.version) figures) × (after ≡ s)
IsLeftShown s k None line after = (line ≡ refused_left_line k.0 k.1) × (after ≡ after_refusal s)

-- A row of the base is answered with this line: a change, an end row or a request. `after` is the
-- state after the row.
abbrev pub IsBookStepAnswered : BookRunState → Step → List ℕ → BookRunState → Type 0
IsBookStepAnswered s (step.Change c) line after = (line ≡ []) × (after ≡ after_open_change s c)
IsBookStepAnswered s (step.End number count) line after = IsBaseEndAnswered s number count line after
IsBookStepAnswered s (step.Ask q) line after = IsAskAnswered s q line after

-- A row whose fields could be read is answered with this line. `after` is the state after the row.
abbrev pub IsBookRowTaken : BookRunState → BookRow → List ℕ → BookRunState → Type 0
IsBookRowTaken s (book_row.Base row) line after = IsBookStepAnswered s (step_of row) line after
IsBookRowTaken s (book_row.Place q hold) line after = IsPlaceTaken s q hold line after
IsBookRowTaken s (book_row.Release id) line after = IsReleaseTaken s id line after
IsBookRowTaken s (book_row.Held p) line after = IsHeldTaken s p line after
IsBookRowTaken s (book_row.Offer q hold) line after = IsOfferTaken s q hold line after
IsBookRowTaken s (book_row.Show id) line after = IsShown s id (placement_of id s.book.placements) line after
IsBookRowTaken s (book_row.Left from local) line after =
    IsLeftShown s (from, local) (figures_at s.book.base s.book.placements (from, local)) line after

-- Row `place`, counted from 1, is answered with these lines. `after` is the state after the row.
abbrev pub IsBookRowAnswered : ℕ → BookRunState → Result BookRow BookRowError → List ℕ → BookRunState → Type 0
IsBookRowAnswered place s (Err error) line after = (line ≡ refused_book_row_line place error) × (after ≡ after_refusal s)
IsBookRowAnswered place s (Ok row) line after = IsBookRowTaken s row line after

-- how a row with these fields is answered
abbrev pub book_answers : AnswersOf BookRunState
book_answers place s fields line after = IsBookRowAnswered place s (book_row_of fields) line after

-- The rows are answered one after the other, from the first state to the state `after`.
abbrev pub AreBookRowsAnswered : List (List (List ℕ)) → List ℕ → BookRunState → Type 0
AreBookRowsAnswered rows lines after = AreAnswered book_answers 1 book_start rows lines after

-- the summary of a run that has read this many rows and whose last state is `s`
abbrev pub book_summary_of : ℕ → BookRunState → Bool → Summary
book_summary_of rows s too_many = record {
  rows = rows;
  version = name_of s s.book.version;
  answers = s.answers;
  refused = s.refused + unended_count too_many s.changes;
  too_many = too_many;
}
