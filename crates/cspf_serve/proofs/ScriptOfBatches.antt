-- The rows of a journal, followed by the rows of the requests, are one stream that a single run
-- answers.
use Rattle.std.proofs.Common.{◌≡◌, ℕ, ◌+◌, ◌<◌, ◌≤◌, ◌⊎◌, true, false, Bool, List, [], ◌∷◌, ◌++◌, map, take, length, length-append, Result, Ok, inl, inr, refl, sym, ap, subst, ◌∙◌, append_assoc, append-nil, arith, rules}
use Rattle.std.proofs.lemmas.Bool.{le-ltb}
use Rattle.std.proofs.lemmas.List.{map-append, length-map, take_all}
use Rattle.cspf_rows.specs.Records.{Records}
use Rattle.cspf_model.specs.declared.batch.Change.{Change}
use Rattle.cspf_model.specs.declared.request.Request.{Request}
use Rattle.cspf_model.specs.Numbered.{NumberedChanges, AreNumberedFrom}
use Rattle.cspf_model.specs.Changes.{database_after, after_changes, AreLawfulAfter, Fits}
use Rattle.cspf_model.specs.Laws.{OneMoreBatch}
use Rattle.cspf_rows.specs.declared.journal.Rest.TheVariants as rest
use Rattle.cspf_rows.specs.declared.row.Row.{Row}
use Rattle.cspf_rows.specs.declared.row.Row.TheVariants as row
use Rattle.cspf_rows.specs.declared.row_error.RowError.{RowError}
use Rattle.cspf_rows.specs.Journal.{change_row, batch_rows, journal_rows, IsJournal}
use Rattle.cspf_rows.specs.JournalLaws.{IsOneJournal}
use Rattle.cspf_rows.specs.Requests.{AreRequests}
use Rattle.cspf_rows.specs.Rows.{row_of}
use Rattle.cspf_solve.specs.declared.summary.Summary.{Summary}
use Rattle.cspf_stream.specs.Lines.{version_line}
use Rattle.cspf_solve.specs.Script.{RunState, start, at_next_row, after_change_row, after_batch, after_reply, open_batch, IsAccepted, IsRowAnswered, AreRowsAnswered, IsSolveRun, is_too_many, summary_of}
use Rattle.cspf_serve.specs.BatchRun.{version_lines, AreReplies, AreAccepted}
use Rattle.cspf_serve.specs.BatchLaws.{AreLinesOfAScript}

abbrev ReadRow : Type 0
ReadRow = Result Row RowError

-- each of these rows was read without an error
abbrev read_rows : List Row → List (Result Row RowError)
read_rows rows = map {B = Result Row RowError} Ok rows

-- if the rows `xs` are answered, and then the rows `ys`, the rows of both lists are answered in
-- this order
AreAnswered-append : (s t u : RunState) (xs ys : Records) (l m : List ℕ) → AreRowsAnswered s xs l t → AreRowsAnswered t ys m u → AreRowsAnswered s (xs ++ ys) (l ++ m) u
unfolding AreRowsAnswered
AreAnswered-append s t u [] ys l m before after = rw (before.0, ← before.1) after
AreAnswered-append s t u (fields ∷ xs) ys l m before after = (
  before.0,
  before.1,
  before.2 ++ m,
  before.3,
  ap (λ k. k ++ m) before.4 ∙ append_assoc before.0 before.2 m,
  AreAnswered-append before.1 t u xs ys before.2 m before.5 after,
)

-- The lines answer the rows, starting from the state `s`. In the state after the rows, `accepted`
-- are the accepted batches, and `changes` are the open changes: no `end` row has closed them into a
-- batch yet.
record IsAfter (s : RunState) (rows : Records) (lines : List ℕ) (accepted : List NumberedChanges) (changes : List Change) : Type 0 where
  after : RunState
  answered : AreRowsAnswered s rows lines after
  accepted_are : after.accepted ≡ accepted
  changes_are : after.changes ≡ changes

none_after : (s : RunState) → IsAfter s [] [] s.accepted s.changes
unfolding AreRowsAnswered
none_after s = record { after = s; answered = (refl, refl); accepted_are = refl; changes_are = refl }

-- if the first row is answered, and then the rows after it, all rows are answered
row_after : (s t : RunState) (fields : List (List ℕ)) (rows : Records) (line lines : List ℕ) (accepted : List NumberedChanges) (changes : List Change)
    → IsRowAnswered (at_next_row s) (row_of fields) line t → IsAfter t rows lines accepted changes → IsAfter s (fields ∷ rows) (line ++ lines) accepted changes
unfolding AreRowsAnswered
row_after s t fields rows line lines accepted changes here rest = search rules

-- if the rows `xs` are answered, and then the rows `ys`, the rows of both lists are answered in
-- this order
rows_after : (s : RunState) (xs ys : Records) (l m : List ℕ) (a b : List NumberedChanges) (c d : List Change)
    → (first : IsAfter s xs l a c) → IsAfter first.after ys m b d → IsAfter s (xs ++ ys) (l ++ m) b d
rows_after s xs ys l m a b c d first second = search (rules, AreAnswered-append)

change_answered : (s : RunState) (c : Change) (read : ReadRow) → read ≡ Ok (change_row c) → IsRowAnswered s read [] (after_change_row s c)
change_answered s c read is = search rules

-- The rows of changes have no lines. After these rows the changes are open: they wait for the `end`
-- row of their batch.
changes_after : (s : RunState) (cs : List Change) (xs : Records) → map row_of xs ≡ read_rows (map change_row cs) → IsAfter s xs [] s.accepted (s.changes ++ cs)
changes_after s [] [] are = rw (append-nil s.changes) (none_after s)
changes_after s (c ∷ cs) (x ∷ xs) are =
    let head : row_of x ≡ Ok (change_row c) = cc in
    let rest : map row_of xs ≡ read_rows (map change_row cs) = cc in
    let t = after_change_row (at_next_row s) c in
    row_after s t x xs [] [] s.accepted (s.changes ++ (c ∷ cs)) (change_answered (at_next_row s) c (row_of x) head)
    (rw (← append_assoc s.changes (c ∷ []) cs) (changes_after t cs xs rest))
changes_after s cs xs are = absurd (cc)

-- the records `xs` are split in two: the first part is read as the rows `ys`, and the second part
-- as the rows `zs`
record IsCut (xs : Records) (ys zs : List (Result Row RowError)) : Type 0 where
  front : Records
  back : Records
  whole : xs ≡ front ++ back
  first : map row_of front ≡ ys
  second : map row_of back ≡ zs

records_cut : (xs : Records) (ys zs : List (Result Row RowError)) → map row_of xs ≡ ys ++ zs → IsCut xs ys zs
records_cut xs [] zs are = record { front = []; back = xs; whole = refl; first = refl; second = are }
records_cut [] (y ∷ ys) zs are = absurd (cc)
records_cut (x ∷ xs) (y ∷ ys) zs are =
    let head : row_of x ≡ y = cc in
    let tail : map row_of xs ≡ ys ++ zs = cc in
    let rest = records_cut xs ys zs tail in
    record {
      front = x ∷ rest.front;
      back = rest.back;
      whole = ap (λ us. x ∷ us) rest.whole;
      first = rw (head, rest.first) refl;
      second = rest.second;
    }

-- the `end` row of a batch is answered by the line of the batch's version, and the batch is
-- accepted
end_after : (s : RunState) (number count : ℕ) (xs : Records) → IsAccepted (at_next_row s) number count → map row_of xs ≡ Ok (row.End number count) ∷ []
    → IsAfter s xs (version_line number) (s.accepted ++ (open_batch s number ∷ [])) []
end_after s number count (x ∷ []) accepted are =
    let head : row_of x ≡ Ok (row.End number count) = cc in
    let t = after_batch (at_next_row s) number in
    let here : IsRowAnswered (at_next_row s) (row_of x) (version_line number) t = rw head (inl (accepted, refl, refl)) in
    rw (← append-nil (version_line number)) (row_after s t x [] (version_line number) [] (s.accepted ++ (open_batch s number ∷ [])) [] here (none_after t))
end_after s number count xs accepted are = absurd (cc)

-- a batch is accepted if it has the next number, and fits the database of the accepted batches
accepted_next : (s t : RunState) (b : NumberedChanges) → t.accepted ≡ s.accepted → t.changes ≡ b.changes → length s.accepted < 1000000
    → b.number ≡ length s.accepted + 1 → Fits (database_after s.accepted) b → IsAccepted (at_next_row t) b.number (length b.changes)
accepted_next s t b accepted changes room next fits = search rules

batch_after : (s : RunState) (b : NumberedChanges) (xs : Records) → s.changes ≡ [] → length s.accepted < 1000000 → b.number ≡ length s.accepted + 1
    → Fits (database_after s.accepted) b → map row_of xs ≡ read_rows (batch_rows b) → IsAfter s xs (version_line b.number) (s.accepted ++ (b ∷ [])) []
batch_after s b xs none room next fits are =
    let last = row.End b.number (length b.changes) in
    let cut = records_cut xs (read_rows (map change_row b.changes)) (Ok last ∷ []) (are ∙ map-append {B = ReadRow} Ok (map change_row b.changes) (last ∷ [])) in
    let first = changes_after s b.changes cut.front cut.first in
    let open_ones : first.after.changes ≡ b.changes = first.changes_are ∙ rw none refl in
    let second = end_after first.after b.number (length b.changes) cut.back (accepted_next s first.after b first.accepted_are open_ones room next fits) cut.second in
    let same : first.after.accepted ++ (open_batch first.after b.number ∷ []) ≡ s.accepted ++ (b ∷ []) = rw (first.accepted_are, open_ones) refl in
    rw cut.whole (rows_after s cut.front cut.back [] (version_line b.number) s.accepted (s.accepted ++ (b ∷ [])) (s.changes ++ b.changes) [] first (rw same at second))

-- If batches have the next numbers, and each fits after the batches before it, all of them are
-- accepted. Each is answered by the line of its version.
journal_after : OneMoreBatch → (s : RunState) (bs : List NumberedChanges) (xs : Records) → s.changes ≡ [] → AreNumberedFrom (length s.accepted + 1) bs
    → AreLawfulAfter (database_after s.accepted) bs → length s.accepted + length bs ≤ 1000000 → map row_of xs ≡ read_rows (journal_rows bs)
    → IsAfter s xs (version_lines bs) (s.accepted ++ bs) []
journal_after more s [] [] none numbers lawful few are =
    rw (append-nil s.accepted) (subst (λ cs. IsAfter s [] [] s.accepted cs) none (none_after s))
journal_after more s [] (x ∷ xs) none numbers lawful few are = absurd (cc)
journal_after more s (b ∷ bs) xs none numbers lawful few are =
    let cut = records_cut xs (read_rows (batch_rows b)) (read_rows (journal_rows bs)) (are ∙ map-append {B = ReadRow} Ok (batch_rows b) (journal_rows bs)) in
    let first = batch_after s b cut.front none (omega arith) numbers.0 lawful.0 cut.first in
    let longer : length first.after.accepted ≡ length s.accepted + 1 = ap length first.accepted_are ∙ length-append s.accepted (b ∷ []) in
    let database : after_changes (database_after s.accepted) b.changes ≡ database_after first.after.accepted = rw first.accepted_are (sym (more s.accepted b)) in
    let second = journal_after more first.after bs cut.back first.changes_are (rw longer numbers.1)
    (subst (λ d. AreLawfulAfter d bs) database lawful.1) (omega (arith, longer, few)) cut.second in
    let all : first.after.accepted ++ bs ≡ s.accepted ++ (b ∷ bs) = ap (λ a. a ++ bs) first.accepted_are ∙ append_assoc s.accepted (b ∷ []) bs in
    rw cut.whole (rows_after s cut.front cut.back (version_line b.number) (version_lines bs) (s.accepted ++ (b ∷ [])) (s.accepted ++ (b ∷ bs)) [] [] first (rw all at second))

-- the rows of the requests are answered at the version of the last accepted batch
requests_after : (s : RunState) (qs : List Request) (xs : Records) (lines : List ℕ) → AreRequests xs qs
    → AreReplies (database_after s.accepted) (length s.accepted) qs lines → IsAfter s xs lines s.accepted s.changes
requests_after s [] [] lines are replies = rw replies (none_after s)
requests_after s (q ∷ qs) (x ∷ xs) lines are replies =
    let head : row_of x ≡ Ok (row.Ask q) = cc in
    let rest : AreRequests xs qs = cc in
    let t = after_reply (at_next_row s) in
    let reply = replies.2 in
    let here : IsRowAnswered (at_next_row s) (row_of x) replies.0 t = rw head (reply.0, reply.1, reply.2, refl) in
    rw replies.3 (row_after s t x xs replies.0 replies.1 s.accepted s.changes here (requests_after t qs xs replies.1 rest replies.4))
requests_after s qs xs lines are replies = absurd (cc)

-- there are at most as many batches as rows, since each batch has at least one row
few_batches : (bs : List NumberedChanges) → length bs ≤ length (journal_rows bs)
few_batches [] = omega arith
few_batches (b ∷ bs) =
    let one = few_batches bs in
    let changes = map change_row b.changes in
    omega (arith, one, length-append (batch_rows b) (journal_rows bs), length-append changes (row.End b.number (length b.changes) ∷ []))

-- At most 1,000,000 rows are answered by these lines, and no change is open after them (waiting for
-- its `end` row). Then the rows and the lines are the rows and lines of a whole run.
run_of : (rows : Records) (lines : List ℕ) (accepted : List NumberedChanges) → length rows ≤ 1000000 → IsAfter start rows lines accepted []
    → (summary : Summary) × IsSolveRun rows lines summary
run_of rows lines accepted few after =
    let all : take 1000000 rows ≡ rows = take_all 1000000 rows few in
    let none : is_too_many rows ≡ false = le-ltb 1000000 (length rows) few in (
      summary_of after.after (is_too_many rows),
      record {
        replies = lines;
        after = after.after;
        answered = rw all after.answered;
        whole = rw (none, after.changes_are) (sym (append-nil lines));
        counts = refl;
      },
    )

-- No rows follow the batches of a journal, these batches are accepted, and the requests are
-- answered. Then one run over a single stream answers the rows of both in the same way.
accepted_run : OneMoreBatch → (journal requests : Records) (bs : List NumberedChanges) (qs : List Request) (lines : List ℕ) → IsJournal journal bs rest.Clean
    → AreRequests requests qs → AreAccepted bs qs lines → length (journal ++ requests) ≤ 1000000 → (summary : Summary) × IsSolveRun (journal ++ requests) lines summary
accepted_run more journal requests bs qs lines clean asked accepted few =
    let front = clean.begins.front in
    let whole : journal ≡ front = clean.begins.split ∙ rw clean.is_rest (append-nil front) in
    let are : map row_of journal ≡ read_rows (journal_rows bs) = rw whole clean.begins.rows in
    let count : length journal ≡ length (journal_rows bs) = sym (length-map journal row_of) ∙ ap length are ∙ length-map {B = ReadRow} (journal_rows bs) Ok in
    let most : 0 + length bs ≤ 1000000 = omega (arith, few_batches bs, count, length-append journal requests, few) in
    let first = journal_after more start bs journal refl clean.begins.numbers accepted.lawful most are in
    let second = requests_after first.after qs requests accepted.replies asked (rw first.accepted_are accepted.answered) in
    run_of (journal ++ requests) lines first.after.accepted few
    (rw accepted.whole (rows_after start journal requests (version_lines bs) accepted.replies bs first.after.accepted [] [] first (rw first.changes_are at second)))

-- if no rows follow the batches of a journal, the batches that a run publishes are all batches of
-- the journal
whole_batches : IsOneJournal → (accept_torn : Bool) (journal : Records) (clean_ones bs : List NumberedChanges) → IsJournal journal clean_ones rest.Clean
    → IsJournal journal bs rest.Clean ⊎ (IsJournal journal bs rest.Torn × (accept_torn ≡ true)) → IsJournal journal bs rest.Clean
whole_batches one accept_torn journal clean_ones bs clean h3 = search rules

pub lines_are_a_script : IsOneJournal → OneMoreBatch → AreLinesOfAScript
lines_are_a_script one more accept_torn journal requests lines clean few (inl refused) = absurd (omega (arith, refused.1))
lines_are_a_script one more accept_torn journal requests lines clean few (inr (bs, batches, inl refused)) = absurd (omega (arith, refused.1))
lines_are_a_script one more accept_torn journal requests lines clean few (inr (bs, batches, inr (qs, asked, inr unfit))) = absurd (omega (arith, unfit.1))
lines_are_a_script one more accept_torn journal requests lines clean few (inr (bs, batches, inr (qs, asked, inl accepted))) =
    let same = whole_batches one accept_torn journal clean.0 bs clean.1 batches.journal in
    accepted_run more journal requests bs qs lines same asked.asked accepted.0 few
