-- What a run makes of which a compact stream is written.
use Rattle.std.proofs.Common.{◌≡◌, ℕ, suc, ◌-◌, ◌<◌, Bool, false, List, [], ◌∷◌, ◌++◌, length, Option, Some, None, IfSome, IfOk, Result, Ok, Err, inl, inr, refl, sym, ap, subst, ◌∙◌, arith}
use Rattle.std.specs.List.{AllByRecursion}
use Rattle.std.specs.Option.{option_map}
use Rattle.cspf_model.specs.declared.request.Request.{Request}
use Rattle.cspf_model.specs.Best.{Answer, unknown_from, unknown_to, no_route, route}
use Rattle.cspf_rows.specs.Records.{rows_of}
use Rattle.cspf_rows.specs.Steps.{step_of}
use Rattle.cspf_rows.specs.declared.step.Step.{Step}
use Rattle.cspf_rows.specs.declared.step.Step.TheVariants as step
use Rattle.std.proofs.lemmas.Bool.{lt-ltb}
use Rattle.cspf_stream.specs.RowAnswers.{AreAnswered, AreAllAnswered}
use Rattle.cspf_stream.specs.StreamStops.{IsStreamStopped}
use Rattle.cspf_stream.specs.declared.error.StreamStop.{StreamStop}
use Rattle.cspf_stream.specs.declared.error.StreamStop.TheVariants as stream_stop
use Rattle.cspf_book.specs.declared.placement.Placement.{Placement}
use Rattle.cspf_book.specs.BookState.{BookState, IsAnswerPlaced}
use Rattle.cspf_book.specs.PlacedRoutes.{ArePlaced, ConnectsItsEnds}
use Rattle.cspf_book.specs.Placements.{others, placement_of}
use Rattle.cspf_book.specs.LinkFigures.{figures_at}
use Rattle.cspf_book.proofs.MovedBatches.{all_append, all_filter}
use Rattle.cspf_book_run.specs.declared.book_row.BookRow.{BookRow}
use Rattle.cspf_book_run.specs.declared.book_row.BookRow.TheVariants as book_row
use Rattle.cspf_book_run.specs.declared.book_row_error.BookRowError.{BookRowError}
use Rattle.cspf_book_run.specs.declared.compact_run.CompactRows.{CompactRows}
use Rattle.cspf_book_run.specs.declared.compact_stop.CompactStop.{CompactStop}
use Rattle.cspf_book_run.specs.declared.compact_stop.CompactStop.TheVariants as stop
use Rattle.cspf_book_run.specs.declared.keeper.KeepsNothing.{KeepsNothing}
use Rattle.cspf_book_run.specs.Keeping.{nothing_spec}
use Rattle.cspf_book_run.specs.BookRows.{book_row_of}
use Rattle.cspf_book_run.specs.BookScript.{BookRunState, book_start, book_answers, IsBookRowAnswered, IsBookStepAnswered, after_held}
use Rattle.cspf_book_run.specs.BookStates.{KeepsBook, IsReadable}
use Rattle.cspf_book_run.specs.CompactStates.{IsRowTaken, IsCompactFault, IsBookCompact, IsOpenStop, IsReadingStop, compact_stop_of}
use Rattle.cspf_book_run.specs.declared.book_rows.BookRows.{BookRows}
use Rattle.cspf_book_run.specs.Compacts.{AreAllTaken, IsBookRead, IsCompact, IsCompaction, AreUnended, IsCompactStop}
use Rattle.cspf_book_run.specs.HeldRows.{IsPlacementInRange, IsWritable}
use Rattle.cspf_book_run.specs.KeptStates.{IsAnsweredDone}
use Rattle.cspf_book_run.specs.Settled.{IsSettledPart, IsCutSettled, IsTornStop}
use Rattle.cspf_book_run.proofs.BookRowLemmas.{readable_row}
use Rattle.cspf_book_run.proofs.SettledParts.{settled_short}
use Rattle.cspf_book_run.proofs.Looks.{shown_looks, left_looks, look_same}

abbrev Rows : Type 0
Rows = List (List (List ℕ))

-- ---- one row

-- Nothing that is kept fails, so the book answers each row.
unstopped_as : (place : ℕ) (s : BookRunState) (fields : List (List ℕ)) (row : Result BookRow BookRowError) (line : List ℕ) (t : BookRunState) (old new : KeepsNothing)
    → IsAnsweredDone nothing_spec place s fields row line t old new → IsBookRowAnswered place s row line t
unstopped_as place s fields (Err e) line t old new (a, same) = a
unstopped_as place s fields (Ok row) line t old new (inl (_, taken, kept)) = taken
unstopped_as place s fields (Ok row) line t old new (inr (inl f)) = absurd f.cut_off.2
unstopped_as place s fields (Ok row) line t old new (inr (inr (stops, a, same))) = absurd (cc stops)

pub unstopped : (place : ℕ) (s : BookRunState) (fields : List (List ℕ)) (line : List ℕ) (t : BookRunState) (old new : KeepsNothing)
    → IsAnsweredDone nothing_spec place s fields (book_row_of fields) line t old new → book_answers place s fields line t
unstopped place s fields line t old new a = unstopped_as place s fields (book_row_of fields) line t old new a

-- ---- the setup priorities of the placements

-- The setup priority of each placement is 7.
abbrev AreLowest : List Placement → Type 0
AreLowest placements = AllByRecursion (λ p. p.request.setup ≡ 7) placements

lowest_same : (s t : BookState) → t.placements ≡ s.placements → AreLowest s.placements → AreLowest t.placements
lowest_same s t same low = subst AreLowest (sym same) low

lowest_step : (s : BookRunState) (st : Step) (line : List ℕ) (t : BookRunState) → IsBookStepAnswered s st line t → t.book.placements ≡ s.book.placements
lowest_step s (step.Change c) line t (quiet, is) = ap (λ (x : BookRunState). x.book.placements) is
lowest_step s (step.End number count) line t (inl (accepted, lines, is)) = ap (λ (x : BookRunState). x.book.placements) is
lowest_step s (step.End number count) line t (inr (why, unfit, refusal, said, is)) = ap (λ (x : BookRunState). x.book.placements) is
lowest_step s (step.Ask q) line t (answer, best, reply, is) = ap (λ (x : BookRunState). x.book.placements) is

lowest_placed : (s : BookState) (q : Request) (hold : ℕ) (answer : Answer) (t : BookState) → q.setup ≡ 7 → IsAnswerPlaced s q hold answer t → AreLowest s.placements → AreLowest t.placements
lowest_placed s q hold unknown_from t seven same low = lowest_same s t (ap (λ (x : BookState). x.placements) same) low
lowest_placed s q hold unknown_to t seven same low = lowest_same s t (ap (λ (x : BookState). x.placements) same) low
lowest_placed s q hold no_route t seven same low = lowest_same s t (ap (λ (x : BookState). x.placements) same) low
lowest_placed s q hold (route walk) t seven along low =
    let own : along.placement.request.setup ≡ 7 = ap (λ (r : Request). r.setup) along.is_its.request ∙ seven in
    subst AreLowest (sym along.placements)
    (all_append (λ (p : Placement). p.request.setup ≡ 7) (others q.id s.placements) (along.placement ∷ []) (all_filter (λ (p : Placement). p.request.setup ≡ 7) _ s.placements low) (own, tt))

lowest_taken : (place : ℕ) (s : BookRunState) (row : Result BookRow BookRowError) (line : List ℕ) (t : BookRunState) → IfOk row IsReadable → IsBookRowAnswered place s row line t
    → AreLowest s.book.placements → AreLowest t.book.placements
lowest_taken place s (Err e) line t readable (said, is) low = lowest_same s.book t.book (ap (λ (x : BookRunState). x.book.placements) is) low
lowest_taken place s (Ok (book_row.Base row)) line t readable a low = lowest_same s.book t.book (lowest_step s (step_of row) line t a) low
lowest_taken place s (Ok (book_row.Place q hold)) line t (seven, small) (inl (a, is)) low = lowest_placed s.book q hold a.answer t.book seven a.placed low
lowest_taken place s (Ok (book_row.Place q hold)) line t readable (inr (why, refusal, said, is)) low = lowest_same s.book t.book (ap (λ (x : BookRunState). x.book.placements) is) low
lowest_taken place s (Ok (book_row.Release id)) line t readable (inl (room, there, said, is)) low =
    lowest_same (record s.book { placements = others id s.book.placements }) t.book (ap (λ (x : BookRunState). x.book.placements) is) (all_filter (λ (p : Placement). p.request.setup ≡ 7) _ s.book.placements low)
lowest_taken place s (Ok (book_row.Release id)) line t readable (inr (why, refusal, said, is)) low = lowest_same s.book t.book (ap (λ (x : BookRunState). x.book.placements) is) low
lowest_taken place s (Ok (book_row.Held p)) line t (seven, ends) (inl (room, may, said, is)) low =
    lowest_same (after_held s p).book t.book (ap (λ (x : BookRunState). x.book.placements) is) (all_append (λ (r : Placement). r.request.setup ≡ 7) s.book.placements (p ∷ []) low (seven, tt))
lowest_taken place s (Ok (book_row.Held p)) line t readable (inr (why, refusal, said, is)) low = lowest_same s.book t.book (ap (λ (x : BookRunState). x.book.placements) is) low
lowest_taken place s (Ok (book_row.Offer q hold)) line t readable (inl (a, is)) low = lowest_same s.book t.book (ap (λ (x : BookRunState). x.book.placements) is) low
lowest_taken place s (Ok (book_row.Offer q hold)) line t readable (inr (why, refusal, said, is)) low = lowest_same s.book t.book (ap (λ (x : BookRunState). x.book.placements) is) low
lowest_taken place s (Ok (book_row.Show id)) line t readable a low = lowest_same s.book t.book (look_same (λ (x : BookRunState). x.book.placements) s t refl (shown_looks s t id (placement_of id s.book.placements) line a)) low
lowest_taken place s (Ok (book_row.Left from local)) line t readable a low =
    lowest_same s.book t.book (look_same (λ (x : BookRunState). x.book.placements) s t refl (left_looks s t (from, local) (figures_at s.book.base s.book.placements (from, local)) line a)) low

lowest_row : (place : ℕ) (s : BookRunState) (fields : List (List ℕ)) (line : List ℕ) (t : BookRunState) → book_answers place s fields line t → AreLowest s.book.placements → AreLowest t.book.placements
lowest_row place s fields line t a low = lowest_taken place s (book_row_of fields) line t (readable_row fields) a low

-- ---- all rows

-- a run over rows of which none is refused
record IsRunTaken (place : ℕ) (s : BookRunState) (b : CompactRows) (done : Rows) : Type 0 where
  after : BookRunState
  keeps : KeepsBook b.rows.rows after
  none : after.refused ≡ 0
  lines : List ℕ
  answered : AreAnswered book_answers place s done lines after

rows_taken : (place : ℕ) (k b : CompactRows) (s : BookRunState) (done : Rows) (lines : List ℕ) → KeepsBook k.rows.rows s → s.refused ≡ 0
    → AreAnswered IsRowTaken place k done lines b → IsRunTaken place s b done
unfolding AreAnswered
rows_taken place k b s [] lines keeps none (quiet, same) = record {
  after = s;
  keeps = subst (λ (x : CompactRows). KeepsBook x.rows.rows s) (sym same) keeps;
  none = none;
  lines = [];
  answered = (refl, refl);
}
rows_taken place k b s (fields ∷ rows) lines keeps none (line, next, more, a, is, rest) =
    let led = a.lead s keeps in
    let further = rows_taken (suc place) next b led.0 rows more led.1 (sym led.1.refused ∙ a.none) rest in
    record {
      after = further.after;
      keeps = further.keeps;
      none = further.none;
      lines = led.2.0 ++ further.lines;
      answered = (led.2.0, led.0, further.lines, led.2.1, refl, further.answered);
    }

lowest_rows : (place : ℕ) (s t : BookRunState) (rows : Rows) (lines : List ℕ) → AreAnswered book_answers place s rows lines t → AreLowest s.book.placements → AreLowest t.book.placements
unfolding AreAnswered
lowest_rows place s t [] lines (quiet, same) low = lowest_same s.book t.book (ap (λ (x : BookRunState). x.book.placements) same) low
lowest_rows place s t (fields ∷ rows) lines (line, next, more, a, is, rest) low = lowest_rows (suc place) next t rows more rest (lowest_row place s fields line next a low)

some_weaker : {X : Type 0} (o : Option X) (P Q : X → Type 0) → ((x : X) → P x → Q x) → IfSome o P → IfSome o Q
some_weaker None P Q so is = tt
some_weaker (Some x) P Q so is = so x is

none_open : {X : Type 0} (xs : List X) → length xs ≡ 0 → xs ≡ []
none_open [] is = refl
none_open (x ∷ xs) is = absurd (omega (arith, is))

-- the numbers of placements, their setup priorities and their ends
writable : (ps : List Placement) → AllByRecursion IsPlacementInRange ps → AreLowest ps → AllByRecursion ConnectsItsEnds ps → AllByRecursion IsWritable ps
writable [] range low ends = tt
writable (p ∷ ps) range low ends = (record { range = range.0; setup = low.0; ends = ends.0 }, writable ps range.1 low.1 ends.1)

-- All rows were read, and the text is the compact stream of the book.
pub compaction_made : (bytes : Option (List ℕ)) (b : BookRows KeepsNothing) (text : List ℕ) → IsBookRead (option_map rows_of bytes) b → IsBookCompact b text
    → IfSome bytes (λ bytes. IsCompaction (rows_of bytes) text)
compaction_made None b text read c = tt
compaction_made (Some bytes) b text (after, keeps, ended, taken) c =
    let book : b.rows.sink.book ≡ after.book = keeps.book in
    let its : IsCompact after.book.base after.book.placements text = subst (λ (x : BookState). IsCompact x.base x.placements text) book c.compact in
    let in_order : ArePlaced after.book.placements = subst (λ (x : BookState). ArePlaced x.placements) book c.placed in
    let ranges : AllByRecursion IsPlacementInRange after.book.placements = subst (λ (x : BookState). AllByRecursion IsPlacementInRange x.placements) book c.range in
    let low = lowest_rows 1 book_start after (rows_of bytes) taken.0 taken.1 tt in
    record {
      after = after;
      taken = taken;
      ended = ended;
      compact = its;
      same = c.make after.book text in_order (writable after.book.placements ranges low in_order.ends) its;
    }

-- No compact stream is made, since memory is refused.
pub reading_stops : (bytes : Option (List ℕ)) (why : CompactStop) → IsReadingStop why → IfSome bytes (λ bytes. IsCompactStop why (rows_of bytes))
reading_stops None why is = tt
reading_stops (Some bytes) (stop.Stream why) is = tt
reading_stops (Some bytes) (stop.Refused row line) is = absurd is
reading_stops (Some bytes) (stop.Unended line) is = absurd is

module _ (k : CompactRows) (fresh : KeepsBook k.rows.rows book_start) where
  all_taken : (b : CompactRows) (done : Rows) (lines : List ℕ) → AreAnswered IsRowTaken 1 k done lines b → IsRunTaken 1 book_start b done
  all_taken b done lines a = rows_taken 1 k b book_start done lines fresh refl a

  taken_of : (b : CompactRows) (done : Rows) → (r : IsRunTaken 1 book_start b done) → AreAllTaken done r.after
  taken_of b done r = (r.lines, r.answered, r.none)

  -- All rows are taken, and no change is open.
  pub book_read : (all : Option Rows) (b : CompactRows) (old new : Option (List ℕ)) → AreAllAnswered IsRowTaken all k b old new → b.rows.rows.changes.count ≡ 0 → IsBookRead all b.rows
  book_read all b old new a closed =
      let r = all_taken b a.done a.lines a.answered in (
        r.after,
        r.keeps,
        none_open r.after.changes (sym r.keeps.changes.count ∙ closed),
        some_weaker all (λ (rows : Rows). rows ≡ a.done) (λ (rows : Rows). AreAllTaken rows r.after) (λ rows is. subst (λ (xs : Rows). AreAllTaken xs r.after) (sym is) (taken_of b a.done r)) a.whole,
      )

  -- All rows are taken, and no compact stream is made.
  pub book_stops : (all : Option Rows) (b : CompactRows) (why : CompactStop) (old new : Option (List ℕ)) → AreAllAnswered IsRowTaken all k b old new → IsOpenStop b why
      → IfSome all (λ rows. IsCompactStop why rows)
  book_stops None b why old new a c = tt
  book_stops (Some rows) b (stop.Stream why) old new a c = tt
  book_stops (Some rows) b (stop.Refused row line) old new a c = absurd c
  book_stops (Some rows) b (stop.Unended line) old new a (opened, says) =
      let r = all_taken b a.done a.lines a.answered in
      let some : 0 < length r.after.changes = omega (arith, opened, r.keeps.changes.count) in
      subst (λ (xs : Rows). AreUnended xs line.items) (sym a.whole) (record {
        after = r.after;
        taken = taken_of b a.done r;
        some = some;
        said = says r.after r.keeps ∙ rw (lt-ltb 0 (length r.after.changes) some) refl;
      })

  -- The answer to a row stops the run.
  pub row_stops : (all left : Option Rows) (failed : Bool) (ended : StreamStop CompactStop) (b : CompactRows) (old new : Option (List ℕ))
      → IsStreamStopped IsRowTaken IsCompactFault ended all left failed k b old new → IfSome all (λ rows. IsCompactStop (compact_stop_of ended) rows)
  row_stops None left failed ended b old new a = tt
  row_stops (Some rows) left failed (stream_stop.Stream why) b old new a = tt
  row_stops (Some rows) left failed (stream_stop.Answer (stop.Stream why)) b old new a = tt
  row_stops (Some rows) left failed (stream_stop.Answer (stop.Refused row line)) b old new a =
      let fault = a.stops.0 in
      let r = all_taken a.before a.done a.lines a.answered in
      let led = fault.1.lead r.after r.keeps in
      let is : row ≡ suc (length a.done) = fault.0 in
      record {
        done = a.done;
        fields = a.fields;
        rest = a.rest;
        split = a.split.0;
        place = is ∙ omega arith;
        before = r.after;
        taken = taken_of a.before a.done r;
        after = led.0;
        answered = subst (λ (n : ℕ). book_answers n r.after a.fields line.items led.0) (sym is) led.2;
        refused = omega (arith, fault.1.some, led.1.refused);
      }
  row_stops (Some rows) left failed (stream_stop.Answer (stop.Unended line)) b old new a = absurd a.stops.0

-- ---- a settled part

-- What a run over the settled part makes, with the bytes that are left out.
pub torn_stop : (bytes part : List ℕ) (left : ℕ) (why : CompactStop) → IsCutSettled bytes part left → IsCompactStop why (rows_of part) → IsTornStop why bytes left
torn_stop bytes part left (stop.Stream why) cut is = tt
torn_stop bytes part left (stop.Refused row line) cut is = (part, cut, is)
torn_stop bytes part left (stop.Unended line) cut is = (part, cut, is)

pub cut_settled_part : (bytes part : List ℕ) → IsSettledPart bytes part → IsCutSettled bytes part (length bytes - length part)
cut_settled_part bytes part settled = record { settled = settled; left_out = omega (arith, settled_short bytes part settled) }
