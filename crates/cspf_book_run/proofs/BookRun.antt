-- How the answers of the code make up the lines and the summary of a run of a book, and how such a
-- run stops.
use Rattle.std.proofs.Common.{◌≡◌, ◌==◌, ℕ, suc, ◌+◌, ◌<◌, Bool, true, false, cond, List, [], ◌∷◌, ◌++◌, take, length, Option, Some, None, IfSome, Result, Ok, Err, inl, inr, refl, sym, ap, subst, ◌∙◌, append-nil, eq-eqb, arith}
use Rattle.std.proofs.KnownBytes.{Appends-nil, Appends-trans}
use Rattle.std.proofs.lemmas.Bool.{cases_Bool}
use Rattle.cspf_book_run.proofs.BookSteps.{another_version}
use Rattle.cspf_book.specs.BookState.{BookState}
use Rattle.std.specs.Io.KnownBytes.{Appends}
use Rattle.std.specs.declared.alloc.AllocError.{AllocError}
use Rattle.cspf_rows.specs.Records.{rows_of}
use Rattle.cspf_book_run.specs.declared.book_row_error.BookRowError.{BookRowError}
use Rattle.cspf_stream.specs.RowAnswers.{AreAnswered}
use Rattle.cspf_stream.specs.Runs.{IsPrefixAnswered, HasRun, FailsAtRow, IsRunStopped}
use Rattle.cspf_stream.specs.Runs as run
use Rattle.cspf_stream.specs.StreamStops.{FailsOf}
use Rattle.cspf_stream.specs.declared.error.RunStop.{RunStop}
use Rattle.cspf_stream.specs.declared.error.RunStop.TheVariants as run_stop
use Rattle.cspf_stream.proofs.Going.{none_answered}
use Rattle.cspf_stream.proofs.Running.{carried}
use Rattle.cspf_solve.specs.OutputAtError.{solve_error_of}
use Rattle.cspf_solve.specs.declared.summary.Summary.{Summary}
use Rattle.cspf_solve.specs.declared.error.SolveError.{SolveError}
use Rattle.cspf_solve.specs.declared.error.SolveError.TheVariants as error
use Rattle.cspf_book_run.specs.declared.book_row.BookRow.{BookRow}
use Rattle.cspf_book_run.specs.declared.book_rows.BookRows.{BookRows}
use Rattle.cspf_book_run.specs.declared.keeper.Keeping.{Keeping}
use Rattle.cspf_book_run.specs.BookRows.{book_row_of}
use Rattle.cspf_book_run.specs.BookScript.{BookRunState, book_start, book_summary_of, IsBookRowAnswered}
use Rattle.cspf_book_run.specs.BookOutput.{AreFirstBookRows, IsBookBegun, IsNextBookText, IsBookOutputAtError}
use Rattle.cspf_book_run.specs.BookStates.{KeepsBook, IsBookBefore, AreBookCounts}
use Rattle.cspf_book_run.specs.Kept.{kept_of, text_of_row}
use Rattle.cspf_book_run.specs.Keeping.{IsTextCutOff, IsWriteFailed, writer_spec}
use Rattle.cspf_book_run.specs.KeptRuns.{KeptRunState, kept_start, kept_run_answers, AreKeptRowsAnswered, IsRowCut, IsRowCutOff, IsAnsweredStopped, IsBookRun}
use Rattle.cspf_book_run.specs.KeptStates.{IsRowFailed, IsAnsweredDone, IsAnsweredLost, IsBookAnswer, IsBookAnswerLost, IsBookLast}
use Rattle.cspf_book_run.specs.declared.write_fault.WriteFault.{WriteFault}
use Rattle.cspf_book_run.specs.declared.write_fault.WriteFault.TheVariants as fault

abbrev Rows : Type 0
Rows = List (List (List ℕ))

abbrev no_bytes : List ℕ
no_bytes = []

-- ---- one row

-- If the fields are read as `row` and the book has the next version, the text of the row is what goes
-- to the writer `keep`.
kept_whole : (s t : BookRunState) (fields : List (List ℕ)) (row : BookRow) → book_row_of fields ≡ Ok row → t.book.version ≡ s.book.version + 1 → text_of_row s fields (Ok row) ≡ kept_of s fields t
kept_whole s t fields row read rises = rw (another_version s.book.version t.book.version rises) (rw read refl)

-- A write to the writer `keep` failed.
abbrev pub IsCutAt : {K : Type 0} → (K → Option (List ℕ)) → WriteFault → Keeping K → List ℕ → Keeping K → Type 0
IsCutAt contents why old text new = (written : ℕ) × (why ≡ fault.Keep written) × IsTextCutOff contents written old text new

pub keep_fault : {K : Type 0} (contents : K → Option (List ℕ)) (why : WriteFault) (old : Keeping K) (text : List ℕ) (new : Keeping K) → IsWriteFailed contents old text why new → IsCutAt contents why old text new
keep_fault contents (fault.Keep written) old text new is = (written, refl, is)
keep_fault contents (fault.Journal written) old text new is = absurd is

-- If the book is unchanged, nothing goes to the writer `keep`.
kept_none : (s t : BookRunState) (fields : List (List ℕ)) → t.book ≡ s.book → no_bytes ≡ kept_of s fields t
kept_none s t fields same = rw (eq-eqb t.book.version s.book.version (ap (λ (b : BookState). b.version) same)) refl

no_text_at_all : (b : Bool) → no_bytes ≡ cond b no_bytes no_bytes
no_text_at_all true = refl
no_text_at_all false = refl

-- A row that couldn't be read has no text for the writer `keep`.
unread_text : (s t : BookRunState) (fields : List (List ℕ)) (e : BookRowError) → book_row_of fields ≡ Err e → no_bytes ≡ kept_of s fields t
unread_text s t fields e read = rw read (no_text_at_all (t.book.version == s.book.version))

module _ {K : Type 0} (contents : K → Option (List ℕ)) (place : ℕ) (s : KeptRunState) (fields : List (List ℕ)) where
  -- What is written for a row, and the answer to it.
  record IsRowSaid (line : List ℕ) (t : BookRunState) (old new : Keeping K) : Type 0 where
    stopped : Bool
    more : List ℕ
    stops : new.stopped ≡ stopped
    written : Appends (contents old.keep) (contents new.keep) more
    answered : kept_run_answers place s fields line (record { run = t; stopped = stopped; kept = s.kept ++ more })

  as_read : (line : List ℕ) (t : BookRunState) (row : Result BookRow BookRowError) → book_row_of fields ≡ row → IsBookRowAnswered place s.run row line t
      → IsBookRowAnswered place s.run (book_row_of fields) line t
  as_read line t row read a = subst (λ (r : Result BookRow BookRowError). IsBookRowAnswered place s.run r line t) (sym read) a

  stopped_as_read : (line : List ℕ) (t : BookRunState) (row : Result BookRow BookRowError) → book_row_of fields ≡ row → IsAnsweredStopped place s.run row line t
      → IsAnsweredStopped place s.run (book_row_of fields) line t
  stopped_as_read line t row read a = subst (λ (r : Result BookRow BookRowError). IsAnsweredStopped place s.run r line t) (sym read) a

  nothing_more : (line : List ℕ) (t : BookRunState) (old new : Keeping K) → new ≡ old → (stopped : Bool) → old.stopped ≡ stopped
      → kept_run_answers place s fields line (record { run = t; stopped = stopped; kept = s.kept ++ [] }) → IsRowSaid line t old new
  nothing_more line t old new same stopped is a = record {
    stopped = stopped;
    more = [];
    stops = ap (λ (k : Keeping K). k.stopped) same ∙ is;
    written = subst (λ (k : Keeping K). Appends (contents old.keep) (contents k.keep) []) (sym same) (Appends-nil (contents old.keep));
    answered = a;
  }

  -- the state after a row whose text was cut off
  abbrev stopped_at : BookRunState → List ℕ → KeptRunState
  stopped_at t more = record { run = t; stopped = true; kept = s.kept ++ more }

  -- the write to `keep` that fails at a row
  abbrev pub cut_of : (line : List ℕ) (t : BookRunState) (row : BookRow) (old new : Keeping K) (f : IsRowFailed (writer_spec contents) s.run fields row line t old new)
      → IsCutAt contents f.why old (text_of_row s.run fields (Ok row)) new
  cut_of line t row old new f = keep_fault contents f.why old (text_of_row s.run fields (Ok row)) new f.cut_off.2

  -- The write of the row's text fails, and the row is refused.
  pub cut_off_row : (line : List ℕ) (t : BookRunState) (row : BookRow) (old new : Keeping K) → book_row_of fields ≡ Ok row → old.stopped ≡ s.stopped
      → (f : IsRowFailed (writer_spec contents) s.run fields row line t old new) → IsRowCutOff place s fields line (stopped_at t (take (cut_of line t row old new f).0 (text_of_row s.run fields (Ok row))))
  cut_off_row line t row old new read stands f = (
    sym stands ∙ f.going,
    refl,
    (cut_of line t row old new f).0,
    record {
      lines = f.lines;
      next = f.next;
      accepted = as_read f.lines f.next (Ok row) read f.accepted;
      part = subst (λ (x : List ℕ). (cut_of line t row old new f).0 < length x) (kept_whole s.run f.next fields row read f.cut_off.1.version) (cut_of line t row old new f).2.part;
      row = row;
      read = read;
      refused = subst (λ (why : WriteFault). IsRowCut why s.run row line t) (cut_of line t row old new f).1 f.refused;
    },
    ap (λ (x : List ℕ). s.kept ++ take (cut_of line t row old new f).0 x) (kept_whole s.run f.next fields row read f.cut_off.1.version),
  )

  said : (line : List ℕ) (t : BookRunState) (row : Result BookRow BookRowError) (old new : Keeping K) → book_row_of fields ≡ row → old.stopped ≡ s.stopped
      → IsAnsweredDone (writer_spec contents) place s.run fields row line t old new → IsRowSaid line t old new
  said line t (Err e) old new read stands (a, same) = elim (cases_Bool s.stopped) [
    | inl stopped ↦ nothing_more line t old new same true (stands ∙ stopped) (inr (inr (stopped, refl, stopped_as_read line t (Err e) read a, append-nil s.kept)))
    | inr going ↦
        nothing_more line t old new same false (stands ∙ going) (inl (going, refl, as_read line t (Err e) read a, ap (λ (x : List ℕ). s.kept ++ x) (unread_text s.run t fields e read)))
  ]
  said line t (Ok row) old new read stands (inl (going, taken, inl (unchanged, same))) =
      nothing_more line t old new same false going (inl (sym stands ∙ going, refl, as_read line t (Ok row) read taken, ap (λ (x : List ℕ). s.kept ++ x) (kept_none s.run t fields unchanged)))
  said line t (Ok row) old new read stands (inl (going, taken, inr (batch, leads, written))) = record {
    stopped = false;
    more = text_of_row s.run fields (Ok row);
    stops = written.same ∙ going;
    written = written.written;
    answered = inl (sym stands ∙ going, refl, as_read line t (Ok row) read taken, ap (λ (x : List ℕ). s.kept ++ x) (kept_whole s.run t fields row read leads.version));
  }
  said line t (Ok row) old new read stands (inr (inl f)) = record {
    stopped = true;
    more = take (cut_of line t row old new f).0 (text_of_row s.run fields (Ok row));
    stops = (cut_of line t row old new f).2.stops;
    written = (cut_of line t row old new f).2.front;
    answered = inr (inl (cut_off_row line t row old new read stands f));
  }
  said line t (Ok row) old new read stands (inr (inr (stops, a, same))) =
      nothing_more line t old new same true stops (inr (inr (sym stands ∙ stops, refl, stopped_as_read line t (Ok row) read a, append-nil s.kept)))

-- ---- all rows

module _ {K : Type 0} (contents : K → Option (List ℕ)) (k : BookRows (Keeping K)) (fresh : KeepsBook k.rows book_start) (going : k.rows.sink.keeping.stopped ≡ false) (first : IsBookBefore 1 k) where
  abbrev keep_of : BookRows (Keeping K) → Option (List ℕ)
  keep_of b = contents b.rows.sink.keeping.keep

  abbrev Fails : AllocError → FailsOf (BookRows (Keeping K))
  Fails fault = IsBookAnswerLost (writer_spec contents)

  -- before the row with this number the code is in this state of the run
  record IsBookAt (place : ℕ) (b : BookRows (Keeping K)) (s : KeptRunState) : Type 0 where
    keeps : KeepsBook b.rows s.run
    stopped : b.rows.sink.keeping.stopped ≡ s.stopped
    before : IsBookBefore place b
    written : Appends (keep_of k) (keep_of b) s.kept

  one_row : (place : ℕ) (b b' : BookRows (Keeping K)) (s : KeptRunState) (fields : List (List ℕ)) (line : List ℕ) → IsBookAt place b s → IsBookAnswer (writer_spec contents) place b fields line b'
      → (t : KeptRunState) × IsBookAt (suc place) b' t × kept_run_answers place s fields line t
  one_row place b b' s fields line at a =
      let led = a.lead s.run at.keeps in
      let d = said contents place s fields line led.0 (book_row_of fields) b.rows.sink.keeping b'.rows.sink.keeping refl at.stopped led.2 in
      let before : IsBookBefore (suc place) b' = record {
        rows = omega (arith, at.before.rows, a.counts.rows);
        count = omega (arith, at.before.count, a.counts.others.count);
        answers = omega (arith, at.before.answers, a.counts.others.answers);
        refused = omega (arith, at.before.refused, a.counts.others.refused);
      } in (
        record { run = led.0; stopped = d.stopped; kept = s.kept ++ d.more },
        record { keeps = led.1; stopped = d.stops; before = before; written = Appends-trans (keep_of k) (keep_of b) (keep_of b') s.kept d.more at.written d.written },
        d.answered,
      )

  led : (b : BookRows (Keeping K)) (done : Rows) (lines : List ℕ) → AreAnswered (IsBookAnswer (writer_spec contents)) 1 k done lines b
      → (t : KeptRunState) × IsBookAt (1 + length done) b t × AreKeptRowsAnswered done lines t
  led b done lines a =
      carried (IsBookAnswer (writer_spec contents)) kept_run_answers IsBookAt one_row 1 k b kept_start done lines
      (record { keeps = fresh; stopped = going; before = first; written = Appends-nil (keep_of k) }) a

  pub counted_run : (too_many : Bool) (all : Option (List (List (List ℕ)))) (b : BookRows (Keeping K)) (old new : Option (List ℕ)) → HasRun (IsBookAnswer (writer_spec contents)) IsBookLast 1000000 too_many all k b old new → AreBookCounts b
  counted_run too_many all b old new run =
      let before = (led b run.done run.lines run.answered).1.before in
      record {
        rows = omega (arith, before.rows, run.few);
        answers = omega (arith, before.answers, run.few);
        refused = omega (arith, before.refused, run.few);
      }

  -- the lines and the summary of a run that ends, and what is written to the writer `keep`
  pub run_ends : (too_many : Bool) (all : Option (List (List (List ℕ)))) (b : BookRows (Keeping K)) (old new : Option (List ℕ)) (summary : Summary) → HasRun (IsBookAnswer (writer_spec contents)) IsBookLast 1000000 too_many all k b old new
      → ((s : BookRunState) → KeepsBook b.rows s → summary ≡ book_summary_of b.read s too_many)
      → IfSome all (λ rows. (lines : List ℕ) × (kept : List ℕ) × IsBookRun rows lines kept summary × Appends old new lines
      × Appends (contents k.rows.sink.keeping.keep) (contents b.rows.sink.keeping.keep) kept)
  run_ends too_many None b old new summary run is = tt
  run_ends too_many (Some rows) b old new summary run is =
      let c = led b run.done run.lines run.answered in
      let read : b.read ≡ length run.done = omega (arith, c.1.before.rows) in (
        run.lines ++ run.text,
        c.0.kept,
        record {
          replies = run.lines;
          after = c.0;
          answered = rw run.first.0 c.2;
          whole = rw (run.first.1, run.ends c.0.run c.1.keeps) refl;
          whole_kept = refl;
          counts = is c.0.run c.1.keeps ∙ ap (λ n. book_summary_of n c.0.run too_many) read ∙ rw (run.first.0, run.first.1) refl;
        },
        run.written,
        c.1.written,
      )

  begun : (b : BookRows (Keeping K)) (rows : Rows) (old new : Option (List ℕ)) (a : IsPrefixAnswered (IsBookAnswer (writer_spec contents)) 1000000 (Some rows) k b old new)
      → (t : KeptRunState) × IsBookAt (1 + length a.done) b t × AreFirstBookRows rows a.done a.rest a.lines t
  begun b rows old new a =
      let c = led b a.done a.lines a.answered in
      (c.0, c.1, record { split = a.split; few = a.few; answered = c.2 })

  abbrev IsHalted : SolveError → Option Rows → Option (List ℕ) → Option (List ℕ) → Option (List ℕ) → Type 0
  IsHalted fault all old new keep =
      IfSome all (λ rows. (out : List ℕ) × (kept : List ℕ) × IsBookOutputAtError fault rows out kept × Appends old new out × Appends (keep_of k) keep kept)

  -- What has been written after a prefix of the rows.
  abbrev HasBegun : Rows → Option (List ℕ) → Option (List ℕ) → Option (List ℕ) → Type 0
  HasBegun rows old new keep = (out : List ℕ) × (kept : List ℕ) × IsBookBegun rows out kept × Appends old new out × Appends (keep_of k) keep kept

  by_rows : (b : BookRows (Keeping K)) (rows : Rows) (old new : Option (List ℕ)) → IsPrefixAnswered (IsBookAnswer (writer_spec contents)) 1000000 (Some rows) k b old new → HasBegun rows old new (keep_of b)
  by_rows b rows old new a =
      let c = begun b rows old new a in
      (a.lines, c.0.kept, record { done = a.done; rest = a.rest; after = c.0; first = c.2; whole_kept = refl }, a.written, c.1.written)

  -- the run stops because memory is refused between two rows
  stops_between : (all : Option Rows) (b : BookRows (Keeping K)) (old new : Option (List ℕ)) → IsPrefixAnswered (IsBookAnswer (writer_spec contents)) 1000000 all k b old new → IsHalted error.Memory all old new (keep_of b)
  stops_between None b old new a = tt
  stops_between (Some rows) b old new a = let h = by_rows b rows old new a in (h.0, h.1, inl h.2, h.3, h.4)

  stops_reading : (all : Option Rows) (b : BookRows (Keeping K)) (old new : Option (List ℕ)) → IsPrefixAnswered (IsBookAnswer (writer_spec contents)) 1000000 all k b old new → IsHalted error.Read all old new (keep_of b)
  stops_reading None b old new a = tt
  stops_reading (Some rows) b old new a = by_rows b rows old new a

  next_text : (place : ℕ) (b b' : BookRows (Keeping K)) (s : KeptRunState) (done rest : Rows) (text : List ℕ) → IsBookAt place b s → place ≡ suc (length done)
      → run.IsNextOutput (IsBookAnswer (writer_spec contents)) IsBookLast 1000000 done b rest text b'
      → (t : KeptRunState) × IsNextBookText done s rest text t × Appends (keep_of k) (keep_of b') t.kept
  next_text place b b' s done [] text at is next =
      (s, (next.0 s.run at.keeps, refl), subst (λ (x : BookRows (Keeping K)). Appends (keep_of k) (keep_of x) s.kept) (sym next.1) at.written)
  next_text place b b' s done (fields ∷ rest) text at is (inl next) =
      let one = one_row (suc (length done)) b b' s fields text (subst (λ (n : ℕ). IsBookAt n b s) is at) next.1 in
      (one.0, inl (next.0, one.2), one.1.written)
  next_text place b b' s done (fields ∷ rest) text at is (inr next) =
      (s, inr (next.0, next.1 s.run at.keeps, refl), subst (λ (x : BookRows (Keeping K)). Appends (keep_of k) (keep_of x) s.kept) (sym next.2) at.written)

  -- The answer to a row fails because memory is refused. If a write to the writer `keep` failed at
  -- this row, the first bytes of the row's text are written.
  module _ (rows : Rows) (b b' : BookRows (Keeping K)) (old new : Option (List ℕ)) (a : IsPrefixAnswered (IsBookAnswer (writer_spec contents)) 1000000 (Some rows) k b old new) (fields : List (List ℕ)) (more : Rows)
      (next : a.rest ≡ fields ∷ more) (few : length a.done < 1000000) where
    same_keep : b'.rows.sink.keeping ≡ b.rows.sink.keeping → IsHalted error.Memory (Some rows) old new (keep_of b')
    same_keep same =
        let h = by_rows b rows old new a in
        (h.0, h.1, inl h.2, h.3, subst (λ (x : Keeping K). Appends (keep_of k) (contents x.keep) h.1) (sym same) h.4)

    unsaid : (s : KeptRunState) → IsBookAt (1 + length a.done) b s → AreFirstBookRows rows a.done a.rest a.lines s → (line : List ℕ) (t : BookRunState) (row : BookRow) → book_row_of fields ≡ Ok row
        → IsRowFailed (writer_spec contents) s.run fields row line t b.rows.sink.keeping b'.rows.sink.keeping → IsHalted error.Memory (Some rows) old new (keep_of b')
    unsaid s at begins line t row read f =
        let cut = cut_of contents (suc (length a.done)) s fields line t row b.rows.sink.keeping b'.rows.sink.keeping f in
        let text = take cut.0 (text_of_row s.run fields (Ok row)) in (
          a.lines,
          s.kept ++ text,
          inr (record {
            done = a.done;
            fields = fields;
            rest = more;
            before = s;
            first = subst (λ (rest : Rows). AreFirstBookRows rows a.done rest a.lines s) next begins;
            few = few;
            line = line;
            after = record { run = t; stopped = true; kept = s.kept ++ text };
            cut_off = cut_off_row contents (suc (length a.done)) s fields line t row b.rows.sink.keeping b'.rows.sink.keeping read at.stopped f;
            whole_kept = refl;
          }),
          a.written,
          Appends-trans (keep_of k) (keep_of b) (keep_of b') s.kept text at.written cut.2.front,
        )

    lost_at_row : (s : KeptRunState) → IsBookAt (1 + length a.done) b s → AreFirstBookRows rows a.done a.rest a.lines s → (row : Result BookRow BookRowError) → book_row_of fields ≡ row
        → IsAnsweredLost (writer_spec contents) fields row b.rows b'.rows → IsHalted error.Memory (Some rows) old new (keep_of b')
    lost_at_row s at begins (Err e) read lost = same_keep (lost s.run at.keeps).1
    lost_at_row s at begins (Ok row) read lost = elim (lost s.run at.keeps).1 [
      | inl same ↦ same_keep same
      | inr (line, t, f) ↦ unsaid s at begins line t row read f
    ]

  stops_at_row : (fault : AllocError) (all : Option Rows) (b : BookRows (Keeping K)) (old new : Option (List ℕ)) → FailsAtRow (IsBookAnswer (writer_spec contents)) (Fails fault) 1000000 all k b old new
      → IsHalted error.Memory all old new (keep_of b)
  stops_at_row fault None b old new a = tt
  stops_at_row fault (Some rows) b old new a =
      let c = begun a.before rows old new a.begun in
      lost_at_row rows a.before b old new a.begun a.fields a.more a.next a.few c.0 c.1 c.2 (book_row_of a.fields) refl a.failed

  -- the output of a run that stops
  pub run_stops : (why : RunStop AllocError) (all : Option (List (List (List ℕ)))) (failed : Bool) (b : BookRows (Keeping K)) (old new : Option (List ℕ))
      → IsRunStopped (IsBookAnswer (writer_spec contents)) Fails IsBookLast 1000000 why all failed k b old new
      → IfSome all (λ rows. (out : List ℕ) × (kept : List ℕ) × IsBookOutputAtError (solve_error_of why) rows out kept × Appends old new out
      × Appends (contents k.rows.sink.keeping.keep) (contents b.rows.sink.keeping.keep) kept)
  run_stops run_stop.Memory all failed b old new a = stops_between all b old new a
  run_stops run_stop.Read all failed b old new a = stops_reading all b old new a.1
  run_stops (run_stop.Answer fault) all failed b old new a = stops_at_row fault all b old new a
  run_stops (run_stop.Write written) None failed b old new a = tt
  run_stops (run_stop.Write written) (Some rows) failed b old new a =
      let r = a.begun in
      let c = begun a.before rows old a.mid r in
      let next = next_text (1 + length r.done) a.before b c.0 r.done r.rest a.text c.1 (omega arith) a.next in (
        r.lines ++ take a.size a.text,
        next.0.kept,
        (
          record {
            done = r.done;
            rest = r.rest;
            lines = r.lines;
            before = c.0;
            first = c.2;
            text = a.text;
            after = next.0;
            next = next.1;
            size = a.size;
            part = a.part;
            whole = refl;
            whole_kept = refl;
          },
          a.bytes,
        ),
        a.written,
        next.2,
      )

  pub read_failed : (why : RunStop AllocError) (all : Option (List (List (List ℕ)))) (failed : Bool) (b : BookRows (Keeping K)) (old new : Option (List ℕ))
      → IsRunStopped (IsBookAnswer (writer_spec contents)) Fails IsBookLast 1000000 why all failed k b old new → solve_error_of why ≡ error.Read → failed ≡ true
  read_failed run_stop.Read all failed b old new a is = a.0
  read_failed other all failed b old new a is = absurd (cc is)

-- A run that stops before its first row has written no lines, and nothing to the accepted rows'
-- writer `keep`.
pub halted_at_start : (bytes old keep : Option (List ℕ))
    → IfSome bytes (λ text. (out : List ℕ) × (kept : List ℕ) × IsBookOutputAtError error.Memory (rows_of text) out kept × Appends old old out × Appends keep keep kept)
halted_at_start None old keep = tt
halted_at_start (Some text) old keep = (
  [],
  [],
  inl (record {
    done = [];
    rest = rows_of text;
    after = kept_start;
    first = record { split = refl; few = omega arith; answered = none_answered kept_run_answers 1 kept_start };
    whole_kept = refl;
  }),
  Appends-nil old,
  Appends-nil keep,
)
