-- Each version that a server with a book publishes shows the book after the accepted rows up to it.
use Rattle.std.proofs.Common.{◌≡◌, ℕ, suc, ◌+◌, ◌≤◌, ◌⊎◌, Bool, List, [], ◌∷◌, ◌++◌, length, length-append, take, take_at, Option, Some, None, IfSome, Result, Ok, Err, inl, inr, refl, sym, ap, subst, ◌∙◌, append_assoc, append-nil, arith}
use Rattle.std.proofs.lemmas.Bool.{cases_lt}
use Rattle.std.proofs.lemmas.List.{length_push}
use mathlib.Core.List.{IsPrefix}
use Rattle.cspf_model.specs.Changes.{after_changes, database_after}
use Rattle.cspf_model.specs.Database.{Database}
use Rattle.cspf_model.specs.Numbered.{NumberedChanges}
use Rattle.cspf_model.proofs.Databases.LastChanges.{one_more_batch}
use Rattle.cspf_rows.specs.Steps.{step_of}
use Rattle.cspf_rows.specs.declared.step.Step.{Step}
use Rattle.cspf_rows.specs.declared.step.Step.TheVariants as step
use Rattle.cspf_stream.specs.RowAnswers.{AreAnswered, AreAllAnswered}
use Rattle.cspf_stream.specs.StreamStops.{HasStopped, IsStreamStopped, NeverFails, StopsInRow, StopsBetween}
use Rattle.cspf_stream.specs.declared.error.StreamError.{StreamError}
use Rattle.cspf_stream.specs.declared.error.StreamError.TheVariants as error
use Rattle.cspf_stream.specs.declared.error.StreamStop.{StreamStop}
use Rattle.cspf_stream.specs.declared.error.StreamStop.TheVariants as stop
use Rattle.std.specs.declared.alloc.AllocError.{AllocError}
use Rattle.cspf_book.specs.BookState.{BookState}
use Rattle.cspf_book.specs.Effective.{effective}
use Rattle.cspf_book.specs.Leading.{LeadsTo}
use Rattle.cspf_book.specs.LinkFigures.{figures_at}
use Rattle.cspf_book.specs.Placements.{placement_of}
use Rattle.cspf_book_run.specs.BookRows.{book_row_of}
use Rattle.cspf_book_run.specs.BookScript.{BookRunState, name_of, IsBookStepAnswered, IsBookRowTaken}
use Rattle.cspf_book_run.specs.KeptRuns.{by_fault}
use Rattle.cspf_book_run.specs.KeptStates.{IsAnsweredDone, IsAnsweredOrOut, IsKeepLost}
use Rattle.cspf_book_run.specs.declared.book_row.BookRow.{BookRow}
use Rattle.cspf_book_run.specs.declared.book_row.BookRow.TheVariants as book_row
use Rattle.cspf_book_run.specs.declared.book_row_error.BookRowError.{BookRowError}
use Rattle.cspf_book_run.specs.declared.write_fault.WriteFault.{WriteFault}
use Rattle.cspf_book_run.specs.declared.write_fault.WriteFault.TheVariants as fault
use Rattle.cspf_book_run.proofs.Looks.{shown_looks, left_looks, look_same}
use Rattle.cspf_book_serve.proofs.SameBooks.{HasSameBook, memory_has_same, same_from, unkept_has_same, stopped_has_same}
use Rattle.cspf_book_serve.specs.ShownTexts.{ShownState, shown_texts, as_next, IsUnshown}
use Rattle.cspf_book_serve.specs.ServedBooks.{ServedBookState, served_book_answers, served_book_fails, IsBegunBy, first_served, ShowsBook, ArePublishedBooks, IsServedBookRun, RowsShowBooks}

abbrev Rows : Type 0
Rows = List (List (List ℕ))

-- ---- one row, without what is kept

skipped_step : (s : BookRunState) (st : Step) (line : List ℕ) (t : BookRunState) → IsBookStepAnswered s st line t → t.skipped ≡ s.skipped
skipped_step s (step.Change c) line t (quiet, is) = ap (λ (x : BookRunState). x.skipped) is
skipped_step s (step.End number count) line t (inl (accepted, lines, is)) = ap (λ (x : BookRunState). x.skipped) is
skipped_step s (step.End number count) line t (inr (why, unfit, refusal, said, is)) = ap (λ (x : BookRunState). x.skipped) is
skipped_step s (step.Ask q) line t (answer, best, reply, is) = ap (λ (x : BookRunState). x.skipped) is

skipped_taken : (s : BookRunState) (row : BookRow) (line : List ℕ) (t : BookRunState) → IsBookRowTaken s row line t → t.skipped ≡ s.skipped
skipped_taken s (book_row.Base row) line t a = skipped_step s (step_of row) line t a
skipped_taken s (book_row.Place q hold) line t (inl (a, is)) = ap (λ (x : BookRunState). x.skipped) is
skipped_taken s (book_row.Place q hold) line t (inr (why, refusal, said, is)) = ap (λ (x : BookRunState). x.skipped) is
skipped_taken s (book_row.Release id) line t (inl (room, there, said, is)) = ap (λ (x : BookRunState). x.skipped) is
skipped_taken s (book_row.Release id) line t (inr (why, refusal, said, is)) = ap (λ (x : BookRunState). x.skipped) is
skipped_taken s (book_row.Held p) line t (inl (room, may, said, is)) = ap (λ (x : BookRunState). x.skipped) is
skipped_taken s (book_row.Held p) line t (inr (why, refusal, said, is)) = ap (λ (x : BookRunState). x.skipped) is
skipped_taken s (book_row.Offer q hold) line t (inl (a, is)) = ap (λ (x : BookRunState). x.skipped) is
skipped_taken s (book_row.Offer q hold) line t (inr (why, refusal, said, is)) = ap (λ (x : BookRunState). x.skipped) is
skipped_taken s (book_row.Show id) line t a = look_same (λ (x : BookRunState). x.skipped) s t refl (shown_looks s t id (placement_of id s.book.placements) line a)
skipped_taken s (book_row.Left from local) line t a =
    look_same (λ (x : BookRunState). x.skipped) s t refl (left_looks s t (from, local) (figures_at s.book.base s.book.placements (from, local)) line a)

-- ---- one row

-- Neither the book nor the list of published batches changes.
abbrev NoneIsPublished : ServedBookState → ServedBookState → Type 0
NoneIsPublished s t = (t.run.book ≡ s.run.book) × (t.shown.published ≡ s.shown.published)

-- The book goes to its next version, and the batch of this version is published.
abbrev OneIsPublished : ServedBookState → ServedBookState → Type 0
OneIsPublished s t = (b : NumberedChanges) × LeadsTo s.run.book b t.run.book × (t.shown.published ≡ s.shown.published ++ as_next s.shown.published b ∷ [])

-- The states before and after a row: at most one batch is published.
record PublishesAtMostOne (s t : ServedBookState) : Type 0 where
  skipped : t.run.skipped ≡ s.run.skipped
  published : NoneIsPublished s t ⊎ OneIsPublished s t

unshown_publishes_none : (s : ShownState) (text : List ℕ) (b : NumberedChanges) (why : WriteFault) (t : ShownState) → IsUnshown s text b why t → t.published ≡ s.published
unshown_publishes_none s text b (fault.Keep written) t (few, is) = ap (λ (x : ShownState). x.published) is
unshown_publishes_none s text b (fault.Journal written) t (few, is) = ap (λ (x : ShownState). x.published) is

publishes_none : (s t : ServedBookState) → HasSameBook s.run t.run → t.shown.published ≡ s.shown.published → PublishesAtMostOne s t
publishes_none s t same none = record { skipped = same.skipped; published = inl (same.book, none) }

row_publishes : (place : ℕ) (s t : ServedBookState) (fields : List (List ℕ)) (row : Result BookRow BookRowError) (line : List ℕ)
    → IsAnsweredDone shown_texts place s.run fields row line t.run s.shown t.shown → PublishesAtMostOne s t
row_publishes place s t fields (Err e) line (a, same) = publishes_none s t (same_from s.run t.run _ a.1 refl refl refl refl) (ap (λ (x : ShownState). x.published) same)
row_publishes place s t fields (Ok row) line (inl (going, taken, (inl kept))) =
    record { skipped = skipped_taken s.run row line t.run taken; published = inl (kept.0, ap (λ (x : ShownState). x.published) kept.1) }
row_publishes place s t fields (Ok row) line (inl (going, taken, (inr kept))) =
    record { skipped = skipped_taken s.run row line t.run taken; published = inr (kept.0, kept.1, kept.2.published) }
row_publishes place s t fields (Ok row) line (inr (inl f)) =
    publishes_none s t (unkept_has_same (by_fault f.why) s.run t.run row line f.refused) (unshown_publishes_none s.shown _ f.cut_off.0 f.why t.shown f.cut_off.2)
row_publishes place s t fields (Ok row) line (inr (inr (stopped, a, same))) =
    publishes_none s t (stopped_has_same s.run t.run row line a) (ap (λ (x : ShownState). x.published) same)

lost_publishes_none : (r : BookRunState) (s t : ShownState) (fields : List (List ℕ)) (row : Result BookRow BookRowError) → IsKeepLost shown_texts r fields row s t → t.published ≡ s.published
lost_publishes_none r s t fields (Err e) same = ap (λ (x : ShownState). x.published) same
lost_publishes_none r s t fields (Ok row) (inl same) = ap (λ (x : ShownState). x.published) same
lost_publishes_none r s t fields (Ok row) (inr (line, after, f)) = unshown_publishes_none s _ f.cut_off.0 f.why t f.cut_off.2

said_publishes : (place : ℕ) (s t : ServedBookState) (fields : List (List ℕ)) (row : Result BookRow BookRowError) (line : List ℕ)
    → IsAnsweredOrOut shown_texts place s.run fields row line t.run s.shown t.shown → PublishesAtMostOne s t
said_publishes place s t fields row line (inl done) = row_publishes place s t fields row line done
said_publishes place s t fields row line (inr (out, lost)) = publishes_none s t (memory_has_same place s.run t.run row line out) (lost_publishes_none s.run s.shown t.shown fields row lost)

none_keeps : (s t : ServedBookState) → t.run.skipped ≡ s.run.skipped → NoneIsPublished s t → ShowsBook s → ShowsBook t
none_keeps s t skipped (same, none) k =
    let version : t.run.book.version ≡ s.run.book.version = ap (λ (x : BookState). x.version) same in
    let many : length t.shown.published ≡ length s.shown.published = ap length none in
    record {
      skips = omega (arith, k.skips, skipped, version);
      version = omega (arith, k.version, skipped, version, many);
      database = ap database_after none ∙ k.database ∙ sym (ap (λ (x : BookState). effective x.base x.placements) same);
    }

one_keeps : (s t : ServedBookState) → t.run.skipped ≡ s.run.skipped → OneIsPublished s t → ShowsBook s → ShowsBook t
one_keeps s t skipped (b, leads, one) k =
    let many : length t.shown.published ≡ length s.shown.published + 1 = ap length one ∙ length_push s.shown.published (as_next s.shown.published b) in
    record {
      skips = omega (arith, k.skips, skipped, leads.version);
      version = omega (arith, k.skips, k.version, skipped, leads.version, many);
      database =
          ap database_after one
          ∙ one_more_batch s.shown.published (as_next s.shown.published b)
          ∙ ap (λ (d : Database). after_changes d b.changes) k.database
          ∙ leads.makes;
    }

row_keeps : (s t : ServedBookState) → PublishesAtMostOne s t → ShowsBook s → ShowsBook t
row_keeps s t row k = elim row.published [
  | inl none ↦ none_keeps s t row.skipped none k
  | inr one ↦ one_keeps s t row.skipped one k
]

-- After the row, the published batches are those before it and at most one more.
record HasAtMostOneMore (s t : ServedBookState) : Type 0 where
  more : List NumberedChanges
  whole : t.shown.published ≡ s.shown.published ++ more
  few : length more ≤ 1

row_grows : (s t : ServedBookState) → NoneIsPublished s t ⊎ OneIsPublished s t → HasAtMostOneMore s t
row_grows s t (inl none) = record { more = []; whole = none.1 ∙ sym (append-nil s.shown.published); few = omega arith }
row_grows s t (inr one) = record { more = as_next s.shown.published one.0 ∷ []; whole = one.2; few = omega arith }

-- ---- all rows

-- The first of these rows, answered from the state `first` on, lead to a state in which the book has
-- the version `v`. The database of the published version `v` is the effective database of this book.
record IsVersionOf (place : ℕ) (first : ServedBookState) (rows : Rows) (published : List NumberedChanges) (v : ℕ) : Type 0 where
  done : Rows
  lines : List ℕ
  s : ServedBookState
  begins : IsPrefix done rows
  answered : AreAnswered served_book_answers place first done lines s
  version : name_of s.run s.run.book.version ≡ v
  first_batches : s.shown.published ≡ take v published
  database : database_after (take v published) ≡ effective s.run.book.base s.run.book.placements

-- The rows keep what is published, and each version that they publish is one of the book.
record PublishBooks (place : ℕ) (first : ServedBookState) (rows : Rows) (after : ServedBookState) : Type 0 where
  shows : ShowsBook after
  more : List NumberedChanges
  whole : after.shown.published ≡ first.shown.published ++ more
  each : (v : ℕ) → length first.shown.published ≤ v → v ≤ length after.shown.published → IsVersionOf place first rows after.shown.published v

-- The last version that is published before the rows is that of the book before them.
version_before : (place : ℕ) (first : ServedBookState) (rows : Rows) (published more : List NumberedChanges) (v : ℕ) → ShowsBook first → published ≡ first.shown.published ++ more → length first.shown.published ≡ v
    → IsVersionOf place first rows published v
unfolding AreAnswered
version_before place first rows published more v k whole is =
    let front : first.shown.published ≡ take v published = sym (ap (take v) whole ∙ take_at first.shown.published more v is) in
    record {
      done = [];
      lines = [];
      s = first;
      begins = (rows, refl);
      answered = (refl, refl);
      version = k.version ∙ is;
      first_batches = front;
      database = sym (ap database_after front) ∙ k.database;
    }

-- A version that is published at a later row.
version_later : (place : ℕ) (first next : ServedBookState) (fields : List (List ℕ)) (line : List ℕ) (rows : Rows) (published : List NumberedChanges) (v : ℕ) → served_book_answers place first fields line next
    → IsVersionOf (suc place) next rows published v → IsVersionOf place first (fields ∷ rows) published v
unfolding AreAnswered
version_later place first next fields line rows published v a d = record {
  done = fields ∷ d.done;
  lines = line ++ d.lines;
  s = d.s;
  begins = (d.begins.0, ap (λ (x : Rows). fields ∷ x) d.begins.1);
  answered = (line, next, d.lines, a, refl, d.answered);
  version = d.version;
  first_batches = d.first_batches;
  database = d.database;
}

rows_publish : (place : ℕ) (first after : ServedBookState) (rows : Rows) (lines : List ℕ) → ShowsBook first → AreAnswered served_book_answers place first rows lines after → PublishBooks place first rows after
unfolding AreAnswered
rows_publish place first after [] lines k (quiet, same) =
    let whole : after.shown.published ≡ first.shown.published ++ [] = ap (λ (x : ServedBookState). x.shown.published) same ∙ sym (append-nil first.shown.published) in
    let many : length after.shown.published ≡ length first.shown.published = ap (λ (x : ServedBookState). length x.shown.published) same in
    record {
      shows = subst ShowsBook (sym same) k;
      more = [];
      whole = whole;
      each = λ v from to. version_before place first [] after.shown.published [] v k whole (omega (arith, from, to, many));
    }
rows_publish place first after (fields ∷ rows) lines k (line, next, others, a, is, rest) =
    let row = said_publishes place first next fields (book_row_of fields) line a in
    let further = rows_publish (suc place) next after rows others (row_keeps first next row k) rest in
    let grows = row_grows first next row.published in
    let whole : after.shown.published ≡ first.shown.published ++ (grows.more ++ further.more) =
    further.whole ∙ ap (λ (x : List NumberedChanges). x ++ further.more) grows.whole ∙ append_assoc first.shown.published grows.more further.more in
    let many : length next.shown.published ≡ length first.shown.published + length grows.more = ap length grows.whole ∙ length-append first.shown.published grows.more in
    record {
      shows = further.shows;
      more = grows.more ++ further.more;
      whole = whole;
      each = λ v from to. elim (cases_lt (length first.shown.published) v) [
        | inl later ↦ version_later place first next fields line rows after.shown.published v a (further.each v (omega (arith, later, many, grows.few)) to)
        | inr here ↦ version_before place first (fields ∷ rows) after.shown.published (grows.more ++ further.more) v k whole (omega (arith, from, here))
      ];
    }

prefix_of_prefix : (front done rows : Rows) → IsPrefix front done → IsPrefix done rows → IsPrefix front rows
prefix_of_prefix front done rows a b = (a.0 ++ b.0, sym (append_assoc front a.0 b.0) ∙ ap (λ (x : Rows). x ++ b.0) a.1 ∙ b.1)

prefix_of_all : (all : Option Rows) (front done : Rows) → IsPrefix front done → IfSome all (λ rows. IsPrefix done rows) → IfSome all (λ rows. IsPrefix front rows)
prefix_of_all None front done a b = tt
prefix_of_all (Some rows) front done a b = prefix_of_prefix front done rows a b

-- If a prefix of the rows of a stream is answered, each version that is published then is one of the
-- book.
published_by : (all : Option Rows) (first after : ServedBookState) (done : Rows) (lines : List ℕ) → ShowsBook first → IfSome all (λ rows. IsPrefix done rows) → AreAnswered served_book_answers 1 first done lines after
    → ArePublishedBooks first all after.shown.published
published_by all first after done lines k begins answered =
    let publish = rows_publish 1 first after done lines k answered in
    λ v from to.
    let d = publish.each v from to in
    record {
      done = d.done;
      lines = d.lines;
      s = d.s;
      begins = prefix_of_all all d.done done d.begins begins;
      answered = d.answered;
      version = d.version;
      first_batches = d.first_batches;
      database = d.database;
    }

pub rows_show_books : RowsShowBooks
rows_show_books first after rows lines k answered = (
  (rows_publish 1 first after rows lines k answered).shows,
  published_by (Some rows) first after rows lines k ([], append-nil rows) answered,
)

-- ---- a whole run

answered_with : (place at : ℕ) (first before after : ServedBookState) (done : Rows) (fields : List (List ℕ)) (lines line : List ℕ) → at ≡ place + length done → AreAnswered served_book_answers place first done lines before
    → served_book_answers at before fields line after → AreAnswered served_book_answers place first (done ++ fields ∷ []) (lines ++ line) after
unfolding AreAnswered
answered_with place at first before after [] fields lines line is (quiet, same) a =
    let here : at ≡ place = omega (arith, is) in
    let answers = subst (λ (x : ServedBookState). served_book_answers place x fields line after) same (subst (λ (n : ℕ). served_book_answers n before fields line after) here a) in
    (line, after, [], answers, ap (λ (x : List ℕ). x ++ line) quiet ∙ sym (append-nil line), (refl, refl))
answered_with place at first before after (row ∷ done) fields lines line is (said, next, more, one, whole, rest) a =
    let later : at ≡ suc place + length done = omega (arith, is) in
    (said, next, more ++ line, one, ap (λ (x : List ℕ). x ++ line) whole ∙ append_assoc said more line, answered_with (suc place) at next before after done fields more line later rest a)

whole_begins : (all : Option Rows) (done : Rows) → IfSome all (λ rows. rows ≡ done) → IfSome all (λ rows. IsPrefix done rows)
whole_begins None done is = tt
whole_begins (Some rows) done is = ([], append-nil done ∙ sym is)

split_begins : (all : Option Rows) (done rest : Rows) → IfSome all (λ rows. rows ≡ done ++ rest) → IfSome all (λ rows. IsPrefix done rows)
split_begins None done rest is = tt
split_begins (Some rows) done rest is = (rest, sym is)

next_begins : (all left : Option Rows) (done rest : Rows) (fields : List (List ℕ)) → IfSome all (λ rows. (rows ≡ done ++ (fields ∷ rest)) × (left ≡ Some rest)) → IfSome all (λ rows. IsPrefix (done ++ fields ∷ []) rows)
next_begins None left done rest fields is = tt
next_begins (Some rows) left done rest fields is = (rest, append_assoc done (fields ∷ []) rest ∙ sym is.0)

row_begins : (all left : Option Rows) (done rest : Rows) (fields : List (List ℕ)) → IfSome all (λ rows. (rows ≡ done ++ (fields ∷ rest)) × (left ≡ Some rest)) → IfSome all (λ rows. IsPrefix done rows)
row_begins None left done rest fields is = tt
row_begins (Some rows) left done rest fields is = (fields ∷ rest, sym is.0)

module _ (all left : Option Rows) (first after : ServedBookState) (old new : Option (List ℕ)) (shows : ShowsBook first) where
  -- All rows of the stream are answered.
  books_of_all : (mid : Option (List ℕ)) → AreAllAnswered served_book_answers all first after old mid → ArePublishedBooks first all after.shown.published
  books_of_all mid a = published_by all first after a.done a.lines shows (whole_begins all a.done a.whole) a.answered

  -- The stream stops between two rows.
  books_between : StopsBetween served_book_answers all first after old new → ArePublishedBooks first all after.shown.published
  books_between a = published_by all first after a.done a.lines shows (split_begins all a.done a.rest a.split) a.answered

  -- A row is answered, and the stream stops before its line is written whole.
  books_in_row : (why : StreamError) (a : StopsInRow served_book_answers NeverFails why all left first after old new) (line : List ℕ) → served_book_answers (suc (length a.done)) a.before a.fields line after
      → ArePublishedBooks first all after.shown.published
  books_in_row why a line says =
      let place : suc (length a.done) ≡ 1 + length a.done = omega arith in
      published_by all first after (a.done ++ a.fields ∷ []) (a.lines ++ line) shows (next_begins all left a.done a.rest a.fields a.split)
      (answered_with 1 (suc (length a.done)) first a.before after a.done a.fields a.lines line place a.answered says)

  -- Memory is refused at a row.
  books_unsaid : (why : AllocError) → StopsInRow served_book_answers (served_book_fails why) error.Memory all left first after old new → ArePublishedBooks first all after.shown.published
  books_unsaid why a =
      let before = published_by all first a.before a.done a.lines shows (row_begins all left a.done a.rest a.fields a.split) a.answered in
      subst (ArePublishedBooks first all) (sym (lost_publishes_none a.before.run a.before.shown after.shown a.fields (book_row_of a.fields) a.stops.0)) before

  books_stopped : (why : StreamError) (failed : Bool) → HasStopped served_book_answers NeverFails why all left failed first after old new → ArePublishedBooks first all after.shown.published
  books_stopped error.Memory failed (inl (fails, a)) = books_between a
  books_stopped error.Memory failed (inr a) = absurd a.stops.0
  books_stopped error.Read failed (fails, a) = books_between a
  books_stopped error.Write failed a = books_in_row error.Write a a.stops.0 a.stops.1
  books_stopped error.Flush failed a = books_in_row error.Flush a a.stops.0 a.stops.1
  books_stopped error.TooManyRows failed a = published_by all first after a.done a.lines shows (split_begins all a.done (a.fields ∷ a.rest) a.split) a.answered

  books_at_stop : (why : StreamStop AllocError) (failed : Bool) → IsStreamStopped served_book_answers served_book_fails why all left failed first after old new → ArePublishedBooks first all after.shown.published
  books_at_stop (stop.Stream why) failed a = books_stopped why failed a
  books_at_stop (stop.Answer why) failed a = books_unsaid why a

-- Each version that a run publishes is one of the book.
pub run_books : (ended : Result (Unit {0}) StreamError) (all : Option Rows) (first after : ServedBookState) (old new : Option (List ℕ)) → ShowsBook first → IsServedBookRun ended all first after old new
    → ArePublishedBooks first all after.shown.published
run_books ended all first after old new shows (inl (mid, answered, put)) = books_of_all all None first after old new shows mid answered
run_books ended all first after old new shows (inr (why, left, failed, is, stopped)) = books_at_stop all left first after old new shows why failed stopped

-- Before the first row, the published batches are the snapshot of the book's effective database.
pub first_shows : (begun : BookRunState) (making : List NumberedChanges) → IsBegunBy begun making → ShowsBook (first_served begun making)
first_shows begun making is = record {
  skips = omega arith;
  version = omega (arith, is.few);
  database = is.snapshot.database;
}
