-- The texts of the accepted rows of a server's run restore its book, behind the rows of the beginning.
use Rattle.std.proofs.Common.{◌≡◌, ℕ, suc, ◌+◌, ◌-◌, ◌≤◌, ◌⊎◌, true, false, List, [], ◌∷◌, ◌++◌, length, length-append, take, Result, Ok, Err, inl, inr, refl, sym, ap, subst, ◌∙◌, append_assoc, append-nil, eq-eqb, arith}
use Rattle.std.proofs.lemmas.Bool.{false≢true}
use Rattle.cspf_model.specs.Numbered.{NumberedChanges}
use Rattle.cspf_stream.specs.RowAnswers.{AreAnswered}
use Rattle.cspf_book.specs.BookState.{BookState}
use Rattle.cspf_book_run.specs.BookRows.{book_row_of}
use Rattle.cspf_book_run.specs.BookScript.{BookRunState, book_answers, going_on, IsBookRowAnswered}
use Rattle.cspf_book_run.specs.Compacts.{AreAllTaken}
use Rattle.cspf_book_run.specs.Kept.{kept_of, text_of_row}
use Rattle.cspf_book_run.specs.KeptLaws.{RemakesBehind, KeptBehindIsTheBook, kept_or_out_answers}
use Rattle.cspf_book_run.specs.KeptRuns.{by_fault}
use Rattle.cspf_book_run.specs.KeptStates.{IsAnsweredDone, IsAnsweredOrOut, IsRowFailed}
use Rattle.cspf_book_run.specs.OutOfMemory.{IsRefusedByMemory}
use Rattle.cspf_book_run.specs.declared.book_row.BookRow.{BookRow}
use Rattle.cspf_book_run.specs.declared.book_row_error.BookRowError.{BookRowError}
use Rattle.cspf_book_run.specs.declared.write_fault.WriteFault.{WriteFault}
use Rattle.cspf_book_run.specs.declared.write_fault.WriteFault.TheVariants as fault
use Rattle.cspf_book_run.proofs.BookSteps.{another_version}
use Rattle.cspf_book_serve.proofs.SameBooks.{HasSameBook, memory_has_same, same_from, unkept_has_same, stopped_has_same}
use Rattle.cspf_book_serve.specs.ServedBookLaws.{IsEndBy, ServedKeptIsTheBook}
use Rattle.cspf_book_serve.specs.ServedBooks.{ServedBookState, served_book_answers, first_served}
use Rattle.cspf_book_serve.specs.ShownTexts.{ShownState, shown_texts, IsUnshown}

abbrev Rows : Type 0
Rows = List (List (List ℕ))

-- ---- one row

-- No write has failed, and none fails at the row. Its text is written if it is accepted.
record IsRowKept (place : ℕ) (s : ServedBookState) (fields : List (List ℕ)) (t : ServedBookState) : Type 0 where
  after : t.shown.stopped ≡ false
  text : List ℕ
  keeps : kept_or_out_answers place s.run fields text t.run
  whole : t.shown.kept ≡ s.shown.kept ++ text

-- A write fails at the row.
record IsRowCutOff (s : ServedBookState) (fields : List (List ℕ)) (t : ServedBookState) : Type 0 where
  row : BookRow
  read : book_row_of fields ≡ Ok row
  line : List ℕ
  after : BookRunState
  failed : IsRowFailed shown_texts s.run fields row line after s.shown t.shown
  same : HasSameBook s.run t.run

-- If the book has no new version, no text is kept.
nothing_kept : (s t : BookRunState) (fields : List (List ℕ)) → t.book ≡ s.book → kept_of s fields t ≡ []
nothing_kept s t fields same = rw (eq-eqb t.book.version s.book.version (ap (λ (x : BookState). x.version) same)) refl

-- If the book has a new version, the row's text is kept.
text_kept : (s t : BookRunState) (fields : List (List ℕ)) → t.book.version ≡ s.book.version + 1 → kept_of s fields t ≡ text_of_row s fields (book_row_of fields)
text_kept s t fields rises = rw (another_version s.book.version t.book.version rises) refl

unchanged : (s t : ServedBookState) (fields : List (List ℕ)) → t.run.book ≡ s.run.book → t.shown ≡ s.shown → t.shown.kept ≡ s.shown.kept ++ kept_of s.run fields t.run
unchanged s t fields book same =
    ap (λ (x : ShownState). x.kept) same ∙ sym (append-nil s.shown.kept) ∙ ap (λ (x : List ℕ). s.shown.kept ++ x) (sym (nothing_kept s.run t.run fields book))

-- The row is answered as a book answers it, and its text is written if it is accepted.
row_answered : (place : ℕ) (s t : ServedBookState) (fields : List (List ℕ)) (row : Result BookRow BookRowError) (line : List ℕ) → t.shown.stopped ≡ false → book_row_of fields ≡ row
    → IsBookRowAnswered place s.run row line t.run → t.shown.kept ≡ s.shown.kept ++ kept_of s.run fields t.run → IsRowKept place s fields t
row_answered place s t fields row line after read answered whole = record {
  after = after;
  text = kept_of s.run fields t.run;
  keeps = inl (line, subst (λ (r : Result BookRow BookRowError). IsBookRowAnswered place s.run r line t.run) (sym read) answered, refl);
  whole = whole;
}

row_kept : (place : ℕ) (s t : ServedBookState) (fields : List (List ℕ)) (row : Result BookRow BookRowError) (line : List ℕ) → s.shown.stopped ≡ false → book_row_of fields ≡ row
    → IsAnsweredDone shown_texts place s.run fields row line t.run s.shown t.shown → IsRowKept place s fields t ⊎ IsRowCutOff s fields t
row_kept place s t fields (Err e) line going read (a, same) =
    inl (row_answered place s t fields (Err e) line (ap (λ (x : ShownState). x.stopped) same ∙ going) read a (unchanged s t fields (ap (λ (x : BookRunState). x.book) a.1) same))
row_kept place s t fields (Ok row) line going read (inl (_, taken, (inl kept))) =
    inl (row_answered place s t fields (Ok row) line (ap (λ (x : ShownState). x.stopped) kept.1 ∙ going) read taken (unchanged s t fields kept.0 kept.1))
row_kept place s t fields (Ok row) line going read (inl (_, taken, (inr kept))) =
    inl (row_answered place s t fields (Ok row) line (kept.2.going ∙ going) read taken
    (kept.2.kept ∙ ap (λ (x : List ℕ). s.shown.kept ++ x) (sym (text_kept s.run t.run fields kept.1.version ∙ ap (text_of_row s.run fields) read))))
row_kept place s t fields (Ok row) line going read (inr (inl f)) =
    inr (record { row = row; read = read; line = line; after = t.run; failed = f; same = unkept_has_same (by_fault f.why) s.run t.run row line f.refused })
row_kept place s t fields (Ok row) line going read (inr (inr (stopped, a, same))) = absurd (false≢true (sym going ∙ stopped))

-- The row is refused by `memory`, and nothing is written.
row_out : (place : ℕ) (s t : ServedBookState) (fields : List (List ℕ)) (row : Result BookRow BookRowError) (line : List ℕ) → s.shown.stopped ≡ false → book_row_of fields ≡ row
    → IsRefusedByMemory place s.run row line t.run → t.shown ≡ s.shown → IsRowKept place s fields t
row_out place s t fields row line going read out same = record {
  after = ap (λ (x : ShownState). x.stopped) same ∙ going;
  text = [];
  keeps = inr (refl, line, subst (λ (r : Result BookRow BookRowError). IsRefusedByMemory place s.run r line t.run) (sym read) out);
  whole = ap (λ (x : ShownState). x.kept) same ∙ sym (append-nil s.shown.kept);
}

said_kept : (place : ℕ) (s t : ServedBookState) (fields : List (List ℕ)) (row : Result BookRow BookRowError) (line : List ℕ) → s.shown.stopped ≡ false → book_row_of fields ≡ row
    → IsAnsweredOrOut shown_texts place s.run fields row line t.run s.shown t.shown → IsRowKept place s fields t ⊎ IsRowCutOff s fields t
said_kept place s t fields row line going read (inl done) = row_kept place s t fields row line going read done
said_kept place s t fields (Err e) line going read (inr (out, same)) = inl (row_out place s t fields (Err e) line going read out same)
said_kept place s t fields (Ok row) line going read (inr (out, inl same)) = inl (row_out place s t fields (Ok row) line going read out same)
said_kept place s t fields (Ok row) line going read (inr (out, inr (said, after, f))) =
    inr (record { row = row; read = read; line = said; after = after; failed = f; same = memory_has_same place s.run t.run (Ok row) line out })

-- After a write has failed, a row changes neither the book nor what is kept.
record StaysStopped (s t : ServedBookState) : Type 0 where
  stopped : t.shown.stopped ≡ true
  kept : t.shown.kept ≡ s.shown.kept
  book : t.run.book ≡ s.run.book
  batches : t.run.batches ≡ s.run.batches

stays_from : (s t : ServedBookState) → s.shown.stopped ≡ true → t.shown ≡ s.shown → HasSameBook s.run t.run → StaysStopped s t
stays_from s t stopped same book = record {
  stopped = ap (λ (x : ShownState). x.stopped) same ∙ stopped;
  kept = ap (λ (x : ShownState). x.kept) same;
  book = book.book;
  batches = book.batches;
}

row_stays : (place : ℕ) (s t : ServedBookState) (fields : List (List ℕ)) (row : Result BookRow BookRowError) (line : List ℕ) → s.shown.stopped ≡ true
    → IsAnsweredDone shown_texts place s.run fields row line t.run s.shown t.shown → StaysStopped s t
row_stays place s t fields (Err e) line stopped (a, same) = stays_from s t stopped same (same_from s.run t.run _ a.1 refl refl refl refl)
row_stays place s t fields (Ok row) line stopped (inl (going, taken, kept)) = absurd (false≢true (sym going ∙ stopped))
row_stays place s t fields (Ok row) line stopped (inr (inl f)) = absurd (false≢true (sym f.going ∙ stopped))
row_stays place s t fields (Ok row) line stopped (inr (inr (is, a, same))) = stays_from s t stopped same (stopped_has_same s.run t.run row line a)

said_stays : (place : ℕ) (s t : ServedBookState) (fields : List (List ℕ)) (row : Result BookRow BookRowError) (line : List ℕ) → s.shown.stopped ≡ true
    → IsAnsweredOrOut shown_texts place s.run fields row line t.run s.shown t.shown → StaysStopped s t
said_stays place s t fields row line stopped (inl done) = row_stays place s t fields row line stopped done
said_stays place s t fields (Err e) line stopped (inr (out, same)) = stays_from s t stopped same (memory_has_same place s.run t.run (Err e) line out)
said_stays place s t fields (Ok row) line stopped (inr (out, inl same)) = stays_from s t stopped same (memory_has_same place s.run t.run (Ok row) line out)
said_stays place s t fields (Ok row) line stopped (inr (out, inr (said, after, f))) = absurd (false≢true (sym f.going ∙ stopped))

rows_stay : (place : ℕ) (s t : ServedBookState) (rows : Rows) (lines : List ℕ) → s.shown.stopped ≡ true → AreAnswered served_book_answers place s rows lines t → StaysStopped s t
unfolding AreAnswered
rows_stay place s t [] lines stopped (none, same) = subst (StaysStopped s) (sym same) (record { stopped = stopped; kept = refl; book = refl; batches = refl })
rows_stay place s t (fields ∷ rows) lines stopped (line, next, more, a, split, rest) =
    let first = said_stays place s next fields (book_row_of fields) line stopped a in
    let others = rows_stay (suc place) next t rows more first.stopped rest in
    record { stopped = others.stopped; kept = others.kept ∙ first.kept; book = others.book ∙ first.book; batches = others.batches ∙ first.batches }

-- ---- all rows

-- No write has failed, and none fails at these rows. `text` is written.
record AreRowsKept (place : ℕ) (s : ServedBookState) (rows : Rows) (t : ServedBookState) : Type 0 where
  after : t.shown.stopped ≡ false
  text : List ℕ
  keeps : AreAnswered kept_or_out_answers place s.run rows text t.run
  whole : t.shown.kept ≡ s.shown.kept ++ text

-- A write fails at one of these rows. After it the book and what is kept stay as they are.
record StopsAtRow (place : ℕ) (s : ServedBookState) (rows : Rows) (t : ServedBookState) : Type 0 where
  done : Rows
  fields : List (List ℕ)
  rest : Rows
  split : rows ≡ done ++ fields ∷ rest
  before : ServedBookState
  kept : AreRowsKept place s done before
  after : ServedBookState
  cut_off : IsRowCutOff before fields after
  stays : StaysStopped after t

no_rows : (place : ℕ) (s t : ServedBookState) → s.shown.stopped ≡ false → t ≡ s → AreRowsKept place s [] t
unfolding AreAnswered
no_rows place s t going same = record {
  after = ap (λ (x : ServedBookState). x.shown.stopped) same ∙ going;
  text = [];
  keeps = (refl, ap (λ (x : ServedBookState). x.run) same);
  whole = ap (λ (x : ServedBookState). x.shown.kept) same ∙ sym (append-nil s.shown.kept);
}

one_more : (place : ℕ) (s next t : ServedBookState) (fields : List (List ℕ)) (rows : Rows) → IsRowKept place s fields next → AreRowsKept (suc place) next rows t → AreRowsKept place s (fields ∷ rows) t
unfolding AreAnswered
one_more place s next t fields rows first others = record {
  after = others.after;
  text = first.text ++ others.text;
  keeps = (first.text, next.run, others.text, first.keeps, refl, others.keeps);
  whole = others.whole ∙ ap (λ (x : List ℕ). x ++ others.text) first.whole ∙ append_assoc s.shown.kept first.text others.text;
}

rows_kept : (place : ℕ) (s t : ServedBookState) (rows : Rows) (lines : List ℕ) → s.shown.stopped ≡ false → AreAnswered served_book_answers place s rows lines t
    → AreRowsKept place s rows t ⊎ StopsAtRow place s rows t
unfolding AreAnswered
rows_kept place s t [] lines going (none, same) = inl (no_rows place s t going same)
rows_kept place s t (fields ∷ rows) lines going (line, next, more, a, split, rest) = elim (said_kept place s next fields (book_row_of fields) line going refl a) [
  | inl first ↦ elim (rows_kept (suc place) next t rows more first.after rest) [
    | inl others ↦ inl (one_more place s next t fields rows first others)
    | inr stops ↦ inr (record {
      done = fields ∷ stops.done;
      fields = stops.fields;
      rest = stops.rest;
      split = ap (λ (x : Rows). fields ∷ x) stops.split;
      before = stops.before;
      kept = one_more place s next stops.before fields stops.done first stops.kept;
      after = stops.after;
      cut_off = stops.cut_off;
      stays = stops.stays;
    })
  ]
  | inr cut ↦ inr (record {
    done = [];
    fields = fields;
    rest = rows;
    split = refl;
    before = s;
    kept = no_rows place s s going refl;
    after = next;
    cut_off = cut;
    stays = rows_stay (suc place) next t rows more (cut_stops s.shown _ cut.failed.cut_off.0 cut.failed.why next.shown cut.failed.cut_off.2) rest;
  })
]
  where
    cut_stops : (s : ShownState) (text : List ℕ) (b : NumberedChanges) (why : WriteFault) (t : ShownState) → IsUnshown s text b why t → t.stopped ≡ true
    cut_stops s text b (fault.Keep written) t (few, is) = ap (λ (x : ShownState). x.stopped) is
    cut_stops s text b (fault.Journal written) t (few, is) = ap (λ (x : ShownState). x.stopped) is

-- ---- what is in `keep`

-- The text of one more row is kept behind those of other rows.
kept_with : (place at : ℕ) (s m t : BookRunState) (done : Rows) (fields : List (List ℕ)) (text more : List ℕ) → at ≡ place + length done → AreAnswered kept_or_out_answers place s done text m
    → kept_or_out_answers at m fields more t → AreAnswered kept_or_out_answers place s (done ++ fields ∷ []) (text ++ more) t
unfolding AreAnswered
kept_with place at s m t [] fields text more is (none, same) a =
    let here : at ≡ place = omega (arith, is) in
    let answers = subst (λ (x : BookRunState). kept_or_out_answers place x fields more t) same (subst (λ (n : ℕ). kept_or_out_answers n m fields more t) here a) in
    (more, t, [], answers, ap (λ (x : List ℕ). x ++ more) none ∙ sym (append-nil more), (refl, refl))
kept_with place at s m t (row ∷ done) fields text more is (first, next, others, a, split, rest) b =
    let later : at ≡ suc place + length done = omega (arith, is) in
    (first, next, others ++ more, a, ap (λ (x : List ℕ). x ++ more) split ∙ append_assoc first others more, kept_with (suc place) at next m t done fields others more later rest b)

-- What makes the book of one state makes that of a state with the same book.
of_same_book : (earlier : Rows) (text : List ℕ) (n m : ℕ) (t u : BookRunState) → n ≤ m → u.book ≡ t.book → u.batches ≡ t.batches → RemakesBehind earlier text n t → RemakesBehind earlier text m u
of_same_book earlier text n m t u most book batches k = record {
  few = omega (arith, most, k.few);
  lines = k.lines;
  after = k.after;
  answered = k.answered;
  book = k.book ∙ sym book;
  batches = k.batches ∙ sym batches;
  changes = k.changes;
  refused = k.refused;
}

module _ (behind : KeptBehindIsTheBook) (earlier : Rows) (begun : BookRunState) (skipped : ℕ) (taken : AreAllTaken earlier begun) (ended : begun.changes ≡ []) where
  -- What is in `keep` behind the texts of the rows before the one at which a write fails.
  record IsCutEnd (done : Rows) (before : ServedBookState) (fields : List (List ℕ)) (text : List ℕ) (next : BookRunState) (why : WriteFault) (t : ShownState) : Type 0 where
    end : List ℕ
    whole : t.kept ≡ before.shown.kept ++ end
    is : IsEndBy why earlier (suc (length done)) text (kept_of before.run fields next) end next

  cut_end : (done : Rows) (before : ServedBookState) (fields : List (List ℕ)) (text said line : List ℕ) (next : BookRunState) (b : NumberedChanges) (why : WriteFault) (t : ShownState)
      → AreAnswered kept_or_out_answers 1 (going_on begun skipped) done text before.run → book_answers (suc (length done)) before.run fields line next → said ≡ kept_of before.run fields next
      → IsUnshown before.shown said b why t → IsCutEnd done before fields text next why t
  cut_end done before fields text said line next b (fault.Keep written) t kept answered same (part, is) = record {
    end = take written said;
    whole = ap (λ (x : ShownState). x.kept) is;
    is = (omega (arith, part, ap length same), ap (take written) same);
  }
  cut_end done before fields text said line next b (fault.Journal written) t kept answered same (part, is) =
      let all : AreAnswered kept_or_out_answers 1 (going_on begun skipped) (done ++ fields ∷ []) (text ++ said) next =
      kept_with 1 (suc (length done)) (going_on begun skipped) before.run next done fields text said (omega arith) kept (inl (line, answered, same)) in
      let count : length (done ++ fields ∷ []) ≡ suc (length done) = length-append done (fields ∷ []) ∙ omega arith in
      record {
        end = said;
        whole = ap (λ (x : ShownState). x.kept) is;
        is = (same, subst (λ (n : ℕ). RemakesBehind earlier (text ++ said) n next) count (behind earlier (done ++ fields ∷ []) begun skipped (text ++ said) next taken ended all));
      }

pub served_kept : KeptBehindIsTheBook → ServedKeptIsTheBook
served_kept behind earlier rows begun making lines t taken ended a =
    let first : ServedBookState = first_served begun making in
    let skipped : ℕ = begun.book.version - length making in
    elim (rows_kept 1 first t rows lines refl a) [
      | inl k ↦ (
        k.text,
        [],
        k.whole ∙ sym (append-nil k.text),
        behind earlier rows begun skipped k.text t.run taken ended k.keeps,
        inl (k.after, refl),
      )
      | inr k ↦
          let f = k.cut_off.failed in
          let same = k.cut_off.same in
          let answered : book_answers (suc (length k.done)) k.before.run k.fields f.lines f.next =
          subst (λ (r : Result BookRow BookRowError). IsBookRowAnswered (suc (length k.done)) k.before.run r f.lines f.next) (sym k.cut_off.read) f.accepted in
          let said : text_of_row k.before.run k.fields (Ok k.cut_off.row) ≡ kept_of k.before.run k.fields f.next =
          sym (text_kept k.before.run f.next k.fields f.cut_off.1.version ∙ ap (text_of_row k.before.run k.fields) k.cut_off.read) in
          let end = cut_end behind earlier begun skipped taken ended k.done k.before k.fields k.kept.text _ f.lines f.next f.cut_off.0 f.why k.after.shown k.kept.keeps answered said f.cut_off.2 in
          let book = k.stays.book ∙ same.book in (
            k.kept.text,
            end.end,
            k.stays.kept ∙ end.whole ∙ ap (λ (x : List ℕ). x ++ end.end) k.kept.whole,
            of_same_book earlier k.kept.text (length k.done) (length rows) k.before.run t.run (omega (arith, ap length k.split, length-append k.done (k.fields ∷ k.rest))) book (k.stays.batches ∙ same.batches)
                (behind earlier k.done begun skipped k.kept.text k.before.run taken ended k.kept.keeps),
            inr (
              k.stays.stopped,
              record {
                done = k.done;
                fields = k.fields;
                rest = k.rest;
                split = k.split;
                before = k.before.run;
                kept = k.kept.keeps;
                book = book;
                line = f.lines;
                next = f.next;
                accepted = answered;
                why = f.why;
                is = end.is;
              },
            ),
          )
    ]
