-- A run over the compact stream of a book makes its base and its placements.
use Rattle.std.proofs.Common.{◌≡◌, ℕ, suc, ◌+◌, ◌-◌, ◌<◌, ◌≤◌, ◌^◌, List, [], ◌∷◌, ◌++◌, map, length, Result, Ok, inl, refl, sym, ap, subst, ◌∙◌, arith}
use Rattle.std.proofs.lemmas.Grind.{flat_map-append}
use Rattle.std.specs.List.{flat_map, AllByRecursion}
use Rattle.csv.specs.Writing.{default_writer, row_text}
use Rattle.cspf_model.specs.Changes.{after_changes, changes_of, no_links, AreLawfulAfter, Fits}
use Rattle.cspf_model.specs.Database.{Database}
use Rattle.cspf_model.specs.Numbered.{NumberedChanges, AreNumberedFrom}
use Rattle.cspf_model.proofs.Databases.LastChanges.{after_changes-append}
use Rattle.cspf_rows.specs.BatchText.{batch_records, change_fields}
use Rattle.cspf_rows.specs.JournalLaws.{journal_text, AreInRange, IsChangeInRange}
use Rattle.cspf_rows.specs.Records.{rows_of}
use Rattle.cspf_rows.specs.Written.{end_fields}
use Rattle.cspf_rows.proofs.BatchRecords.{AreRowsReadBack}
use Rattle.cspf_stream.specs.RowAnswers.{AreAnswered}
use Rattle.cspf_book.specs.declared.placement.Placement.{Placement}
use Rattle.cspf_book.specs.BookState.{BookState}
use Rattle.cspf_book.specs.Laws.{CompactIsTheBook}
use Rattle.cspf_book.specs.LostRoutes.{AreLost}
use Rattle.cspf_book.specs.Restoring.{AreRestored}
use Rattle.cspf_book_run.specs.declared.book_row.BookRow.{BookRow}
use Rattle.cspf_book_run.specs.declared.book_row.BookRow.TheVariants as book_row
use Rattle.cspf_book_run.specs.declared.book_row_error.BookRowError.{BookRowError}
use Rattle.cspf_book.specs.OverLinks.{over}
use Rattle.cspf_book_run.specs.BookLines.{over_line, base_line}
use Rattle.cspf_book_run.specs.BookScript.{BookRunState, book_start, book_answers, after_base_batch, after_held, held_lines, IsBaseAccepted, AreBaseLines, IsBookRowAnswered}
use Rattle.cspf_book_run.specs.Compacts.{CompactsMakeBooks}
use Rattle.cspf_book_run.specs.HeldRows.{held_fields, held_text, IsWritable, AreHeldRowsReadBack}
use Rattle.cspf_book_run.proofs.HeldRows.{held_starts, texts_of_rows}
use Rattle.cspf_book_run.proofs.KeptBook.{append_answered, changes_taken, end_answered, none_answered, one_answered, plain_append, records_plain}
use Rattle.cspf_book_run.proofs.KeptTexts.{StartsPlain, kept_cut, lines_rows, rows_start}

-- ---- the batches of the snapshot

-- Without placements, a batch takes away no route.
none_lost : (before after : Database) → AreLost before after [] []
none_lost before after = record {
  lost = [];
  members = λ p. (λ c. absurd (omega (arith, c.1)), λ c. absurd (omega (arith, c.0.1)));
  order = λ i j d less within. absurd (omega (arith, within));
  are = refl;
}

-- a state with this base, this many batches and versions, and no placements
abbrev made : Database → ℕ → ℕ → BookRunState
made base batches version = record {
  book = record { base = base; version = version; placements = [] };
  batches = batches;
  restored = 0;
  changes = [];
  answers = 0;
  refused = 0;
  skipped = 0;
}

module _ (laws : AreRowsReadBack) where
  -- One batch is accepted.
  batch_made : (b : NumberedChanges) (base : Database) (n : ℕ) → b.number ≡ n + 1 → n < 5 → Fits base b → AllByRecursion IsChangeInRange b.changes
      → (line : List ℕ) × ((p : ℕ) → AreAnswered book_answers p (made base n n) (batch_records b) line (made (after_changes base b.changes) (n + 1) (n + 1)))
  batch_made b base n number few fits range =
      let from : BookRunState = record (made base n n) { changes = b.changes } in
      let line : List ℕ = flat_map over_line (over [] b.changes) ++ [] ++ base_line b.number (n + 1 - 0) in
      let short : length b.changes < 2 ^ 32 = omega (arith, fits.short) in
      let accepted : IsBaseAccepted from b.number (length b.changes) = record { room = omega (arith, few); next = number; counted = refl; fits = fits } in
      let lines : AreBaseLines from b.number line = ([], none_lost base (after_changes base b.changes), refl) in (
        line,
        λ p. append_answered (map change_fields b.changes) (end_fields b.number (length b.changes) ∷ []) p (made base n n) from (after_base_batch from) [] line
            (changes_taken laws b.changes p (made base n n) range)
            (λ q. one_answered q from (after_base_batch from) (end_fields b.number (length b.changes)) line
            (end_answered laws q from b.number (omega (arith, number, few)) short accepted line lines)),
      )

  batches_made : (bs : List NumberedChanges) (base : Database) (n : ℕ) → AreNumberedFrom (n + 1) bs → n + length bs ≤ 5 → AreLawfulAfter base bs → AreInRange bs
      → (lines : List ℕ) × ((p : ℕ) → AreAnswered book_answers p (made base n n) (flat_map batch_records bs) lines (made (after_changes base (changes_of bs)) (n + length bs) (n + length bs)))
  batches_made [] base n numbers few lawful range = ([], λ p. none_answered p (made base n n) (made base (n + 0) (n + 0)) (ap (λ (k : ℕ). made base k k) (omega arith)))
  batches_made (b ∷ bs) base n numbers few lawful range =
      let first = batch_made b base n numbers.0 (omega (arith, few)) lawful.0 range.0 in
      let rest = batches_made bs (after_changes base b.changes) (n + 1) numbers.1 (omega (arith, few)) lawful.1 range.1 in
      let count : n + 1 + length bs ≡ n + suc (length bs) = omega arith in
      let same : after_changes (after_changes base b.changes) (changes_of bs) ≡ after_changes base (b.changes ++ changes_of bs) = sym (after_changes-append base b.changes (changes_of bs)) in (
        first.0 ++ rest.0,
        λ p. append_answered (batch_records b) (flat_map batch_records bs) p (made base n n) (made (after_changes base b.changes) (n + 1) (n + 1))
            (made (after_changes base (b.changes ++ changes_of bs)) (n + suc (length bs)) (n + suc (length bs))) first.0 rest.0 (first.1 p)
            (λ q. subst (λ (d : Database). AreAnswered book_answers q (made (after_changes base b.changes) (n + 1) (n + 1)) (flat_map batch_records bs) rest.0 (made d (n + suc (length bs)) (n + suc (length bs)))) same
            (subst (λ (k : ℕ). AreAnswered book_answers q (made (after_changes base b.changes) (n + 1) (n + 1)) (flat_map batch_records bs) rest.0 (made (after_changes (after_changes base b.changes) (changes_of bs)) k k)) count (rest.1 q))),
      )

-- ---- the placements

-- What is left of a run over `held` rows: the book, and that nothing is open or refused.
record Restores (s : BookRunState) (t : BookState) (rows : List (List (List ℕ))) : Type 0 where
  lines : List ℕ
  after : BookRunState
  answered : (p : ℕ) → AreAnswered book_answers p s rows lines after
  book : after.book ≡ t
  changes : after.changes ≡ s.changes
  refused : after.refused ≡ s.refused

one_restored : AreHeldRowsReadBack → (p : Placement) (place : ℕ) (s : BookRunState) → IsWritable p → (taken : IsBookRowAnswered place s (Ok (book_row.Held p)) (held_lines s p) (after_held s p))
    → book_answers place s (held_fields p) (held_lines s p) (after_held s p)
one_restored back p place s writable taken =
    subst (λ (r : Result BookRow BookRowError). IsBookRowAnswered place s r (held_lines s p) (after_held s p)) (sym (back p writable)) taken

restored : AreHeldRowsReadBack → (ps : List Placement) (s : BookRunState) (t : BookState) → AllByRecursion IsWritable ps → s.book.version + length ps < 900000 → AreRestored s.book ps t → Restores s t (map held_fields ps)
restored back [] s t writable few same = record { lines = []; after = s; answered = λ p. none_answered p s s refl; book = sym same; changes = refl; refused = refl }
restored back (p ∷ ps) s t writable few (may, more) =
    let rest = restored back ps (after_held s p) t writable.1 (omega (arith, few)) more in
    let room : s.book.version < 900000 = omega (arith, few) in
    let line : List ℕ = held_lines s p in
    record {
      lines = line ++ rest.lines;
      after = rest.after;
      answered = λ place. append_answered (held_fields p ∷ []) (map held_fields ps) place s (after_held s p) rest.after line rest.lines
          (one_answered place s (after_held s p) (held_fields p) line (one_restored back p place s writable.0 (inl (room, may, refl, refl)))) rest.answered;
      book = rest.book;
      changes = rest.changes;
      refused = rest.refused;
    }

-- ---- the whole text

-- The numbers of a snapshot's batches are small.
records_of_batches : AreRowsReadBack → (bs : List NumberedChanges) (n : ℕ) (base : Database) → AreNumberedFrom (n + 1) bs → n + length bs ≤ 5 → AreLawfulAfter base bs → AreInRange bs
    → (journal_text bs ≡ flat_map (row_text default_writer) (flat_map batch_records bs)) × AllByRecursion StartsPlain (flat_map batch_records bs)
records_of_batches laws [] n base numbers few lawful range = (refl, tt)
records_of_batches laws (b ∷ bs) n base numbers few lawful range =
    let short : length b.changes < 2 ^ 32 = omega (arith, lawful.0.short) in
    let all = records_plain laws b.changes b.number (length b.changes) range.0 (omega (arith, numbers.0, few)) short in
    let rest = records_of_batches laws bs (n + 1) (after_changes base b.changes) numbers.1 (omega (arith, few)) lawful.1 range.1 in (
      ap (λ (x : List ℕ). x ++ journal_text bs) (lines_rows (batch_records b) all) ∙ ap (λ (x : List ℕ). flat_map (row_text default_writer) (batch_records b) ++ x) rest.0
          ∙ sym (flat_map-append (row_text default_writer) (batch_records b) (flat_map batch_records bs)),
      plain_append (batch_records b) (flat_map batch_records bs) (rows_start (batch_records b) all) rest.1,
    )

pub compacts_make_books : AreRowsReadBack → AreHeldRowsReadBack → CompactIsTheBook → CompactsMakeBooks
compacts_make_books laws back compact s text placed writable c =
    let few : 0 + length c.making ≤ 5 = omega (arith, c.snapshot.few) in
    let first = records_of_batches laws c.making 0 no_links c.snapshot.numbers few c.snapshot.lawful c.range in
    let records : List (List (List ℕ)) = flat_map batch_records c.making ++ map held_fields s.placements in
    let is : text ≡ flat_map (row_text default_writer) records =
    c.whole ∙ ap (λ (x : List ℕ). x ++ flat_map held_text s.placements) first.0 ∙ ap (λ (x : List ℕ). flat_map (row_text default_writer) (flat_map batch_records c.making) ++ x) (texts_of_rows s.placements)
    ∙ sym (flat_map-append (row_text default_writer) (flat_map batch_records c.making) (map held_fields s.placements)) in
    let cut : rows_of text ≡ records = ap rows_of is ∙ kept_cut records (plain_append (flat_map batch_records c.making) (map held_fields s.placements) first.1 (held_starts s.placements)) in
    let base = batches_made laws c.making no_links 0 c.snapshot.numbers few c.snapshot.lawful c.range in
    let n : ℕ = 0 + length c.making in
    let mid : BookRunState = made s.base n n in
    let begun : (p : ℕ) → AreAnswered book_answers p book_start (flat_map batch_records c.making) base.0 mid =
    λ p. subst (λ (d : Database). AreAnswered book_answers p book_start (flat_map batch_records c.making) base.0 (made d n n)) c.snapshot.database (base.1 p) in
    let more = restored back s.placements mid (record { base = s.base; version = n + length s.placements; placements = s.placements }) writable
    (omega (arith, c.snapshot.few, placed.few)) (compact.restored s n placed) in
    record {
      lines = base.0 ++ more.lines;
      after = more.after;
      answered = rw cut (append_answered (flat_map batch_records c.making) (map held_fields s.placements) 1 book_start mid more.after base.0 more.lines (begun 1) more.answered);
      base = ap (λ (b : BookState). b.base) more.book;
      placements = ap (λ (b : BookState). b.placements) more.book;
      changes = more.changes;
      refused = more.refused;
      version = omega (arith, c.snapshot.few, ap (λ (b : BookState). b.version) more.book);
    }
