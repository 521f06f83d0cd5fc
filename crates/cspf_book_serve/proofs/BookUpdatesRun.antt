-- The rows of a server's book are answered as the specification says, given the state that the code
-- keeps.
use Rattle.std.proofs.Common.{◌≡◌, ◌↔◌, ℕ, zero, suc, Bool, ◌+◌, ◌<◌, ◌⊎◌, true, false, List, [], ◌∷◌, ◌++◌, take, length, Option, Result, Ok, Err, inl, inr, refl, sym, ap, subst, ◌∙◌, append-nil, arith}
use Rattle.std.proofs.KnownBytes.{Appends-nil, Appends-trans}
use Rattle.std.specs.Option.{option_map}
use Rattle.std.specs.Io.KnownBytes.{Appends}
use Rattle.std.specs.declared.alloc.AllocError.{AllocError}
use mathlib.Core.List.{IsPrefix}
use Rattle.cspf_journal.specs.declared.log_step.LogStep.{LogStep}
use Rattle.cspf_model.specs.Numbered.{NumberedChanges}
use Rattle.cspf_rows.specs.BatchText.{batch_text}
use Rattle.cspf_rows.specs.JournalLaws.{journal_text}
use Rattle.cspf_rows.specs.Records.{rows_of}
use Rattle.cspf_publish.specs.PublisherStates.{PublisherState}
use Rattle.cspf_questions.specs.declared.kinds.QuestionKinds.{QuestionKinds}
use Rattle.cspf_client.specs.declared.client.Client.{Client}
use Rattle.cspf_client.specs.Sessions.{ReopensOf}
use Rattle.cspf_client.proofs.Prefixes.{IsPrefix-trans}
use Rattle.cspf_stream.specs.Lines.{last_line}
use Rattle.cspf_stream.specs.RowAnswers.{AreAnswered, AreAllAnswered}
use Rattle.cspf_stream.specs.StreamStops.{FailsOf, NeverFails, StopsBetween, StopsInRow, IsRowStopped, HasMoreThan, IsStreamStopped}
use Rattle.cspf_stream.specs.declared.error.StreamError.{StreamError}
use Rattle.cspf_stream.specs.declared.error.StreamError.TheVariants as error
use Rattle.cspf_stream.specs.declared.error.StreamStop.{StreamStop}
use Rattle.cspf_stream.specs.declared.error.StreamStop.TheVariants as stop
use Rattle.cspf_stream.specs.declared.limits.TheConstants.{MOST_STREAM_ROWS}
use Rattle.cspf_stream.proofs.Running.{carried}
use Rattle.cspf_book_run.specs.BookRows.{book_row_of}
use Rattle.cspf_book_run.specs.BookScript.{BookRunState}
use Rattle.cspf_book_run.specs.BookStates.{KeepsBook}
use Rattle.cspf_book_run.specs.Kept.{text_of_row}
use Rattle.cspf_book_run.specs.KeptStates.{IsRowFailed, IsAnsweredDone, IsAnsweredOrOut, IsKeepLost, IsBookLast}
use Rattle.cspf_book_run.specs.declared.book_row.BookRow.{BookRow}
use Rattle.cspf_book_run.specs.declared.book_row_error.BookRowError.{BookRowError}
use Rattle.cspf_book_run.specs.declared.write_fault.WriteFault.{WriteFault}
use Rattle.cspf_book_run.specs.declared.write_fault.WriteFault.TheVariants as fault
use Rattle.cspf_serve.specs.Counted.{CountedState}
use Rattle.cspf_serve.specs.PublishingRuns.{IsLastPut, IsStreamRun, IsPublishingRun}
use Rattle.cspf_serve.specs.declared.serving.served_run.Served.{Served}
use Rattle.cspf_serve.proofs.ServedSteps.{status_iff}
use Rattle.cspf_book_serve.specs.BookUpdates.{IsUpdateAnswer, IsUpdateAnswerLost, book_updates_spec}
use Rattle.cspf_book_serve.specs.ServedBooks.{ServedBookState, served_book_answers, served_book_fails, IsBeginning, IsBegunBy, first_served, begin_lines, ArePublishedBooks, IsServedBookRun, HasRefusals, IsServedBook}
use Rattle.cspf_book_serve.specs.ShownStates.{shown_spec, IsShownBy, IsUnshownBy, Shows}
use Rattle.cspf_book_serve.specs.ShownTexts.{ShownState, IsShownNext, IsUnshown, shown_texts, as_next}
use Rattle.cspf_book_serve.specs.declared.book_updates.BookUpdates.{BookUpdates}
use Rattle.cspf_book_serve.specs.declared.shown.Shown.{Shown}

abbrev StreamRows : Type 0
StreamRows = List (List (List ℕ))

-- If the last line is of one kind, and each line of this kind is of another kind, the last line is of
-- the other kind.
last_follows : (ended : Result (Unit {0}) StreamError) (One Other : List ℕ → Type 0) (old new : Option (List ℕ)) → ((line : List ℕ) → One line → Other line) → IsLastPut ended One old new → IsLastPut ended Other old new
last_follows (Ok done) One Other old new follows put = (put.0, follows put.0 put.1, put.2)
last_follows (Err error.Memory) One Other old new follows put = put
last_follows (Err error.Write) One Other old new follows put = (put.0, follows put.0 put.1, put.2)
last_follows (Err error.Flush) One Other old new follows put = (put.0, follows put.0 put.1, put.2)
last_follows (Err other) One Other old new follows put = absurd put

module _ {J K : Type 0} (recorded : J → Option (List ℕ)) (kept : K → Option (List ℕ)) (first : PublisherState J) (start : K) where
  -- ---- the text of one row

  -- The code has written and published what this state says.
  abbrev ShowsOf : Shown J K → ShownState → Type 0
  ShowsOf k s = Shows recorded kept first start k s

  -- A text is kept and its batch published, as the specification says.
  sim_keeps : (k k' : Shown J K) (s : ShownState) (text : List ℕ) (b : NumberedChanges) → ShowsOf k s → IsShownBy recorded kept k text b k' → (s' : ShownState) × ShowsOf k' s' × IsShownNext s text b s'
  sim_keeps k k' s text b shows by =
      let journal : Appends (recorded k.counted.publisher.journal) (recorded k'.counted.publisher.journal) (batch_text (as_next s.published b)) =
      subst (λ (p : List NumberedChanges). Appends (recorded k.counted.publisher.journal) (recorded k'.counted.publisher.journal) (batch_text (as_next p b))) shows.batches by.published.recorded in
      let published : k'.counted.publisher.batches ≡ s.published ++ as_next s.published b ∷ [] =
      subst (λ (p : List NumberedChanges). k'.counted.publisher.batches ≡ p ++ as_next p b ∷ []) shows.batches by.published.batches in (
        record {
          published = k'.counted.publisher.batches;
          stopped = s.stopped;
          kept = s.kept ++ text;
          text = s.text ++ batch_text (as_next s.published b);
          steps = k'.counted.steps.steps;
        },
        record {
          source = by.source ∙ shows.source;
          batches = refl;
          stopped = by.going ∙ shows.stopped;
          journal = Appends-trans (recorded first.journal) (recorded k.counted.publisher.journal) (recorded k'.counted.publisher.journal) s.text (batch_text (as_next s.published b)) shows.journal journal;
          written = Appends-trans (kept start) (kept k.keep) (kept k'.keep) s.kept text shows.written by.written;
          steps = ([], append-nil k'.counted.steps.steps);
        },
        record {
          kept = refl;
          text = refl;
          published = published;
          going = refl;
          counted = record {
            later = IsPrefix-trans s.steps k.counted.steps.steps k'.counted.steps.steps shows.steps by.counted.later;
            counted = by.counted.counted;
          };
        },
      )

  -- A text isn't kept, or its batch isn't published, as the specification says.
  sim_fails : (k k' : Shown J K) (s : ShownState) (text : List ℕ) (b : NumberedChanges) (why : WriteFault) → ShowsOf k s → IsUnshownBy recorded kept k text b why k'
      → (s' : ShownState) × ShowsOf k' s' × IsUnshown s text b why s'
  sim_fails k k' s text b (fault.Keep written) shows cut = (
    record s { stopped = true; kept = s.kept ++ take written text },
    record {
      source = ap (λ (c : CountedState J). c.publisher.source) cut.same ∙ shows.source;
      batches = ap (λ (c : CountedState J). c.publisher.batches) cut.same ∙ shows.batches;
      stopped = cut.stops;
      journal = subst (λ (c : CountedState J). Appends (recorded first.journal) (recorded c.publisher.journal) s.text) (sym cut.same) shows.journal;
      written = Appends-trans (kept start) (kept k.keep) (kept k'.keep) s.kept (take written text) shows.written cut.front;
      steps = subst (λ (c : CountedState J). IsPrefix s.steps c.steps.steps) (sym cut.same) shows.steps;
    },
    (cut.part, refl),
  )
  sim_fails k k' s text b (fault.Journal written) shows cut =
      let part : List ℕ = take written (batch_text (as_next s.published b)) in
      let journal : Appends (recorded k.counted.publisher.journal) (recorded k'.counted.publisher.journal) (take written (batch_text (as_next s.published b))) =
      subst (λ (p : List NumberedChanges). Appends (recorded k.counted.publisher.journal) (recorded k'.counted.publisher.journal) (take written (batch_text (as_next p b)))) shows.batches cut.front in (
        record s { stopped = true; kept = s.kept ++ text; text = s.text ++ take written (batch_text (as_next s.published b)) },
        record {
          source = cut.source ∙ shows.source;
          batches = cut.batches ∙ shows.batches;
          stopped = cut.stops;
          journal = Appends-trans (recorded first.journal) (recorded k.counted.publisher.journal) (recorded k'.counted.publisher.journal) s.text part shows.journal journal;
          written = Appends-trans (kept start) (kept k.keep) (kept k'.keep) s.kept text shows.written cut.whole;
          steps = subst (λ (steps : List LogStep). IsPrefix s.steps steps) (ap (λ steps. steps.steps) (sym cut.steps)) shows.steps;
        },
        (subst (λ (p : List NumberedChanges). written < length (batch_text (as_next p b))) shows.batches cut.part, refl),
      )

  -- Nothing is kept.
  sim_same : (k k' : Shown J K) (s : ShownState) → ShowsOf k s → k' ≡ k → ShowsOf k' s
  sim_same k k' s shows same = subst (λ (x : Shown J K). ShowsOf x s) (sym same) shows

  -- ---- one row

  module _ (r : BookRunState) (fields : List (List ℕ)) (line : List ℕ) (t : BookRunState) (k k' : Shown J K) (s : ShownState) (shows : Shows recorded kept first start k s) where
    -- A write fails for a row, as the specification says.
    sim_failed : (row : BookRow) → IsRowFailed (shown_spec recorded kept) r fields row line t k k' → (s' : ShownState) × ShowsOf k' s' × IsRowFailed shown_texts r fields row line t s s'
    sim_failed row f =
        let d = sim_fails k k' s (text_of_row r fields (Ok row)) f.cut_off.0 f.why shows f.cut_off.2 in (
          d.0,
          d.1,
          record {
            why = f.why;
            lines = f.lines;
            next = f.next;
            going = sym shows.stopped ∙ f.going;
            accepted = f.accepted;
            cut_off = (f.cut_off.0, f.cut_off.1, d.2);
            refused = f.refused;
          },
        )

    -- A row is answered, as the specification says.
    sim_done : (place : ℕ) (row : Result BookRow BookRowError) → IsAnsweredDone (shown_spec recorded kept) place r fields row line t k k'
        → (s' : ShownState) × ShowsOf k' s' × IsAnsweredDone shown_texts place r fields row line t s s'
    sim_done place (Err e) (a, same) = (s, sim_same k k' s shows same, (a, refl))
    sim_done place (Ok row) (inl (going, taken, inl (unchanged, same))) = (s, sim_same k k' s shows same, inl (sym shows.stopped ∙ going, taken, inl (unchanged, refl)))
    sim_done place (Ok row) (inl (going, taken, inr (b, leads, by))) =
        let d = sim_keeps k k' s (text_of_row r fields (Ok row)) b shows by in
        (d.0, d.1, inl (sym shows.stopped ∙ going, taken, inr (b, leads, d.2)))
    sim_done place (Ok row) (inr (inl f)) =
        let d = sim_failed row f in
        (d.0, d.1, inr (inl d.2))
    sim_done place (Ok row) (inr (inr (stops, taken, same))) = (s, sim_same k k' s shows same, inr (inr (sym shows.stopped ∙ stops, taken, refl)))

  module _ (r : BookRunState) (fields : List (List ℕ)) (k k' : Shown J K) (s : ShownState) (shows : Shows recorded kept first start k s) where
    -- Memory is refused at a row, as the specification says.
    sim_lost : (row : Result BookRow BookRowError) → IsKeepLost (shown_spec recorded kept) r fields row k k' → (s' : ShownState) × ShowsOf k' s' × IsKeepLost shown_texts r fields row s s'
    sim_lost (Err e) same = (s, sim_same k k' s shows same, refl)
    sim_lost (Ok row) (inl same) = (s, sim_same k k' s shows same, inl refl)
    sim_lost (Ok row) (inr (line, t, f)) =
        let d = sim_failed r fields line t k k' s shows row f in
        (d.0, d.1, inr (line, t, d.2))

    -- A row is answered or refused by `memory`, as the specification says.
    sim_said : (place : ℕ) (line : List ℕ) (t : BookRunState) (row : Result BookRow BookRowError) → IsAnsweredOrOut (shown_spec recorded kept) place r fields row line t k k'
        → (s' : ShownState) × ShowsOf k' s' × IsAnsweredOrOut shown_texts place r fields row line t s s'
    sim_said place line t row (inl done) =
        let d = sim_done r fields line t k k' s shows place row done in
        (d.0, d.1, inl d.2)
    sim_said place line t row (inr (out, lost)) =
        let d = sim_lost row lost in
        (d.0, d.1, inr (out, d.2))

  -- The code keeps the state of the run, and has written and published what this state says.
  pub record IsBookAsServed (u : BookUpdates J K) (s : ServedBookState) : Type 0 where
    pub keeps : KeepsBook u.rows.rows s.run
    pub shows : Shows recorded kept first start u.rows.rows.sink.keeping s.shown

  -- the code had refusals, or changes are open
  abbrev HasRefused : BookUpdates J K → Type 0
  HasRefused u = (0 < u.rows.rows.refused) ⊎ (0 < u.rows.rows.changes.count)

  -- What is known after all rows of the updates, even if the updates stop because memory is refused.
  pub record IsBookAfter (u : BookUpdates J K) (s : ServedBookState) : Type 0 where
    pub shows : Shows recorded kept first start u.rows.rows.sink.keeping s.shown
    pub refusals : HasRefused u ↔ HasRefusals s

  one_row : (place : ℕ) (u u' : BookUpdates J K) (s : ServedBookState) (fields : List (List ℕ)) (line : List ℕ) → IsBookAsServed u s → IsUpdateAnswer recorded kept place u fields line u'
      → (t : ServedBookState) × IsBookAsServed u' t × served_book_answers place s fields line t
  one_row place u u' s fields line at a =
      let led = a.lead s.run at.keeps in
      let d = sim_said s.run fields u.rows.rows.sink.keeping u'.rows.rows.sink.keeping s.shown at.shows place line led.0 (book_row_of fields) led.2 in
      (record { run = led.0; shown = d.0 }, record { keeps = led.1; shows = d.1 }, d.2)

  -- The specification's state says whether there were refusals, as the code does.
  refusals_if : (u : BookUpdates J K) (s : ServedBookState) → KeepsBook u.rows.rows s.run → HasRefused u → HasRefusals s
  refusals_if u s keeps (inl some) = inl (omega (arith, some, keeps.refused))
  refusals_if u s keeps (inr opened) = inr (omega (arith, opened, keeps.changes.count))

  refusals_only : (u : BookUpdates J K) (s : ServedBookState) → KeepsBook u.rows.rows s.run → HasRefusals s → HasRefused u
  refusals_only u s keeps (inl some) = inl (omega (arith, some, keeps.refused))
  refusals_only u s keeps (inr opened) = inr (omega (arith, opened, keeps.changes.count))

  after_of : (u : BookUpdates J K) (s : ServedBookState) → IsBookAsServed u s → IsBookAfter u s
  after_of u s at = record { shows = at.shows; refusals = (refusals_if u s at.keeps, refusals_only u s at.keeps) }

  -- ---- memory is refused at a row

  -- If memory is refused, the state of the run isn't known. This one has as many refusals as the
  -- code counts refusals and open changes.
  abbrev unknown_run : BookUpdates J K → BookRunState → BookRunState
  unknown_run u s = record s { refused = u.rows.rows.refused + u.rows.rows.changes.count; changes = [] }

  unknown_if : (u : BookUpdates J K) (s : BookRunState) (shown : ShownState) → HasRefused u → HasRefusals (record { run = unknown_run u s; shown = shown })
  unknown_if u s shown (inl some) = inl (omega (arith, some))
  unknown_if u s shown (inr opened) = inl (omega (arith, opened))

  some_refused : (refused count : ℕ) → 0 < refused + count → (0 < refused) ⊎ (0 < count)
  some_refused zero count some = inr (omega (arith, some))
  some_refused (suc n) count some = inl (omega arith)

  unknown_only : (u : BookUpdates J K) (s : BookRunState) (shown : ShownState) → HasRefusals (record { run = unknown_run u s; shown = shown }) → HasRefused u
  unknown_only u s shown (inl some) = some_refused u.rows.rows.refused u.rows.rows.changes.count some
  unknown_only u s shown (inr opened) = absurd (omega (arith, opened))

  -- Memory is refused at a row, and only the state of the run isn't known.
  one_lost : (why : AllocError) (place : ℕ) (u u' : BookUpdates J K) (s : ServedBookState) (fields : List (List ℕ)) → IsBookAsServed u s → IsUpdateAnswerLost recorded kept place u fields u'
      → (t : ServedBookState) × IsBookAfter u' t × served_book_fails why place s fields t
  one_lost why place u u' s fields at lost =
      let d = sim_lost s.run fields u.rows.rows.sink.keeping u'.rows.rows.sink.keeping s.shown at.shows (book_row_of fields) (lost s.run at.keeps).1 in (
        record { run = unknown_run u' s.run; shown = d.0 },
        record { shows = d.1; refusals = (unknown_if u' s.run d.0, unknown_only u' s.run d.0) },
        d.2,
      )

  -- ---- all rows

  led : (u u' : BookUpdates J K) (s : ServedBookState) (done : StreamRows) (lines : List ℕ) → IsBookAsServed u s → AreAnswered (IsUpdateAnswer recorded kept) 1 u done lines u'
      → (t : ServedBookState) × IsBookAsServed u' t × AreAnswered served_book_answers 1 s done lines t
  led u u' s done lines at a = carried (IsUpdateAnswer recorded kept) served_book_answers (λ place. IsBookAsServed) one_row 1 u u' s done lines at a

  module _ (all left : Option StreamRows) (failed : Bool) (u u' : BookUpdates J K) (s : ServedBookState) (at : IsBookAsServed u s) (old new : Option (List ℕ)) where
    book_all : AreAllAnswered (IsUpdateAnswer recorded kept) all u u' old new → (t : ServedBookState) × IsBookAsServed u' t × AreAllAnswered served_book_answers all s t old new
    book_all a =
        let d = led u u' s a.done a.lines at a.answered in
        (d.0, d.1, record { done = a.done; lines = a.lines; whole = a.whole; answered = d.2; written = a.written })

    book_between : StopsBetween (IsUpdateAnswer recorded kept) all u u' old new → (t : ServedBookState) × IsBookAfter u' t × StopsBetween served_book_answers all s t old new
    book_between a =
        let d = led u u' s a.done a.lines at a.answered in
        (d.0, after_of u' d.0 d.1, record { done = a.done; rest = a.rest; lines = a.lines; split = a.split; answered = d.2; written = a.written })

    book_more : HasMoreThan (IsUpdateAnswer recorded kept) MOST_STREAM_ROWS all u u' old new → (t : ServedBookState) × IsBookAfter u' t × HasMoreThan served_book_answers MOST_STREAM_ROWS all s t old new
    book_more a =
        let d = led u u' s a.done a.lines at a.answered in
        (d.0, after_of u' d.0 d.1, record { done = a.done; fields = a.fields; rest = a.rest; lines = a.lines; count = a.count; split = a.split; answered = d.2; written = a.written })

    -- How one row stops.
    abbrev RowStops : (code : FailsOf (BookUpdates J K)) (spec : FailsOf ServedBookState) → StreamError → Type 0
    RowStops code spec why = (place : ℕ) (fields : List (List ℕ)) (b : BookUpdates J K) (c : ServedBookState) (mid : Option (List ℕ)) → IsBookAsServed b c
        → IsRowStopped (IsUpdateAnswer recorded kept) code why place fields b u' mid new
        → (t : ServedBookState) × IsBookAfter u' t × IsRowStopped served_book_answers spec why place fields c t mid new

    in_row : (code : FailsOf (BookUpdates J K)) (spec : FailsOf ServedBookState) (why : StreamError) → RowStops code spec why → StopsInRow (IsUpdateAnswer recorded kept) code why all left u u' old new
        → (t : ServedBookState) × IsBookAfter u' t × StopsInRow served_book_answers spec why all left s t old new
    in_row code spec why row a =
        let d = led u a.before s a.done a.lines at a.answered in
        let last = row (suc (length a.done)) a.fields a.before d.0 a.mid d.1 a.stops in (
          last.0,
          last.1,
          record {
            done = a.done;
            fields = a.fields;
            rest = a.rest;
            lines = a.lines;
            before = d.0;
            mid = a.mid;
            split = a.split;
            answered = d.2;
            written = a.written;
            stops = last.2;
          },
        )

    row_lost : (why : AllocError) → RowStops (IsUpdateAnswerLost recorded kept) (served_book_fails why) error.Memory
    row_lost why place fields b c mid is stops =
        let d = one_lost why place b u' c fields is stops.0 in
        (d.0, d.1, (d.2, stops.1))

    row_write : RowStops NeverFails NeverFails error.Write
    row_write place fields b c mid is stops =
        let d = one_row place b u' c fields stops.0 is stops.1 in
        (d.0, after_of u' d.0 d.1, (stops.0, d.2, stops.2))

    row_flush : RowStops NeverFails NeverFails error.Flush
    row_flush place fields b c mid is stops =
        let d = one_row place b u' c fields stops.0 is stops.1 in
        (d.0, after_of u' d.0 d.1, (stops.0, d.2, stops.2))

    -- The rows stop in between, as the specification says.
    book_stopped : (why : StreamStop AllocError) → IsStreamStopped (IsUpdateAnswer recorded kept) (λ (fault : AllocError). IsUpdateAnswerLost recorded kept) why all left failed u u' old new
        → (t : ServedBookState) × IsBookAfter u' t × IsStreamStopped served_book_answers served_book_fails why all left failed s t old new
    book_stopped (stop.Answer why) a = in_row (IsUpdateAnswerLost recorded kept) (served_book_fails why) error.Memory (row_lost why) a
    book_stopped (stop.Stream error.Memory) (inl a) =
        let d = book_between a.1 in
        (d.0, d.1, inl (a.0, d.2))
    book_stopped (stop.Stream error.Memory) (inr a) = absurd a.stops.0
    book_stopped (stop.Stream error.Read) a =
        let d = book_between a.1 in
        (d.0, d.1, (a.0, d.2))
    book_stopped (stop.Stream error.Write) a = in_row NeverFails NeverFails error.Write row_write a
    book_stopped (stop.Stream error.Flush) a = in_row NeverFails NeverFails error.Flush row_flush a
    book_stopped (stop.Stream error.TooManyRows) a = book_more a

  -- All rows of the updates are answered as the specification says.
  pub book_run : (ended : Result (Unit {0}) StreamError) (all : Option (List (List (List ℕ)))) (u u' : BookUpdates J K) (s : ServedBookState) (old new : Option (List ℕ)) → IsBookAsServed u s
      → IsStreamRun (IsUpdateAnswer recorded kept) (λ (fault : AllocError). IsUpdateAnswerLost recorded kept) (book_updates_spec recorded kept).last ended all u u' old new
      → (t : ServedBookState) × IsBookAfter u' t × IsServedBookRun ended all s t old new
  book_run ended all u u' s old new at (inl (mid, answered, put)) =
      let d = book_all all all false u u' s at old mid answered in (
        d.0,
        after_of u' d.0 d.1,
        inl (
          mid,
          d.2,
          last_follows ended (λ line. IsBookLast u'.rows false line) (λ line. line ≡ last_line false d.0.run.changes) mid new (λ line is. is d.0.run d.1.keeps) put,
        ),
      )
  book_run ended all u u' s old new at (inr (why, left, failed, is, stopped)) =
      let d = book_stopped all left failed u u' s at old new why stopped in
      (d.0, d.1, inr (why, left, failed, is, d.2))

  -- ---- before the first row

  -- If the publisher has published the batches of the beginning, and nothing was written to `keep`, the
  -- code has written and published what the first state says.
  pub first_shown : (k : Shown J K) (begun : BookRunState) (making : List NumberedChanges) → k.counted.publisher.source ≡ first.source → k.counted.publisher.batches ≡ making → k.stopped ≡ false
      → Appends (recorded first.journal) (recorded k.counted.publisher.journal) (journal_text making) → k.keep ≡ start → Shows recorded kept first start k (first_served begun making).shown
  first_shown k begun making source batches going journal same = record {
    source = source;
    batches = batches;
    stopped = going;
    journal = journal;
    written = subst (λ (x : K). Appends (kept start) (kept x) []) (sym same) (Appends-nil (kept start));
    steps = (k.counted.steps.steps, refl);
  }

  -- ---- the whole run

  -- A run in which the rows of a server's book are answered, after its beginning was published and the
  -- beginning's `over` lines were written, is as `IsServedBook` says.
  pub served_book : {W Q V : Type 0} (kinds : QuestionKinds) (begin updates : Option (List ℕ)) (said : W → Option (List ℕ)) (bytes : Q → Option (List ℕ)) (contents : V → Option (List ℕ)) (reopens : ReopensOf Q V)
      (writer0 writer : W) (before : BookUpdates J K) (clients : List (Client Q V)) (served : Served W J V) (rest : K) (begun : BookRunState) (making : List NumberedChanges) → IsBookAsServed before (first_served begun making)
      → IsBeginning begin begun → IsBegunBy begun making → Appends (said writer0) (said writer) (begin_lines begun.book)
      → ((after : ServedBookState) → IsServedBookRun served.updates (option_map rows_of updates) (first_served begun making) after (said writer) (said served.said)
      → ArePublishedBooks (first_served begun making) (option_map rows_of updates) after.shown.published)
      → IsPublishingRun (book_updates_spec recorded kept) (IsUpdateAnswer recorded kept) (λ (fault : AllocError). IsUpdateAnswerLost recorded kept) kinds updates said bytes contents reopens writer before clients served rest
      → IsServedBook kinds begin updates said kept recorded bytes contents reopens writer0 start first.journal clients served rest
  served_book kinds begin updates said bytes contents reopens writer0 writer before clients served rest begun making at beginning begun_by over books run =
      let d = book_run served.updates (option_map rows_of updates) before run.after (first_served begun making) (said writer) (said served.said) at run.rows_run in
      let shows = d.1.shows in
      let batches = shows.batches in
      let steps = run.steps_of_run in
      record {
        begun = begun;
        beginning = beginning;
        making = making;
        begun_by = begun_by;
        mid = said writer;
        over_said = over;
        after = d.0;
        updates_run = d.2;
        published_books = books d.0 d.2;
        journal_grown = rw run.journal_is shows.journal;
        keep_grown = rw run.rest_is shows.written;
        steps_of_run = record {
          journal = steps.journal;
          recorded = rw batches at steps.recorded;
          counted = rw batches at steps.counted;
          later = IsPrefix-trans d.0.shown.steps run.after.rows.rows.sink.keeping.counted.steps.steps served.steps.steps shows.steps steps.later;
        };
        clients_served = rw batches at run.clients_served;
        status_is = status_iff (HasRefused run.after) (HasRefusals d.0) served.clients.items served.status d.1.refusals run.status_is;
      }
