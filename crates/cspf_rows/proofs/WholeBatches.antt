-- Lemmas on the prefixes of a list of rows that consist of whole batches.
use Rattle.std.proofs.Common.{◌≡◌, ◌≢◌, ℕ, ◌+◌, ◌≤◌, List, [], ◌∷◌, ◌++◌, map, length, Result, Ok, refl, sym, ap, subst, ◌∙◌, append_assoc, arith}
use Rattle.std.proofs.lemmas.List.{map-append, length-append, length-map}
use Rattle.cspf_model.specs.declared.batch.Change.{Change}
use Rattle.cspf_model.specs.Numbered.{NumberedChanges, AreNumberedFrom}
use Rattle.cspf_rows.specs.declared.row.Row.{Row}
use Rattle.cspf_rows.specs.declared.row.Row.TheVariants as row
use Rattle.cspf_rows.specs.declared.row_error.RowError.{RowError}
use Rattle.cspf_rows.specs.Journal.{change_row, batch_rows, journal_rows}
use Rattle.cspf_rows.specs.JournalReading.{IsNoPart, EndsBatches, AreBehind}
use Rattle.cspf_rows.specs.Steps.{step_of}
use Rattle.cspf_rows.proofs.RowsOfSteps.{change_step}

abbrev ReadRow : Type 0
ReadRow = Result Row RowError

-- the results of reading records that say these rows: each result is a row, and none is an error
abbrev pub read_rows : List Row → List (Result Row RowError)
read_rows rows = map {B = Result Row RowError} Ok rows

-- If two batches are both at the start of the same list of rows, they have the same changes and the
-- same number. The rows after them are also the same.
pub same_batch : (cs ds : List Change) (m k n l : ℕ) (xs ys : List (Result Row RowError))
    → read_rows (map change_row cs ++ (row.End m k ∷ [])) ++ xs ≡ read_rows (map change_row ds ++ (row.End n l ∷ [])) ++ ys
    → (cs ≡ ds) × (m ≡ n) × (xs ≡ ys)
same_batch [] [] m k n l xs ys e = (refl, cc, cc)
same_batch [] (d ∷ ds) m k n l xs ys e =
    let head : row.End m k ≡ change_row d = cc in
    absurd (cc (ap step_of head ∙ change_step d))
same_batch (c ∷ cs) [] m k n l xs ys e =
    let head : row.End n l ≡ change_row c = cc in
    absurd (cc (ap step_of head ∙ change_step c))
same_batch (c ∷ cs) (d ∷ ds) m k n l xs ys e =
    let more = same_batch cs ds m k n l xs ys (cc) in
    let head : change_row c ≡ change_row d = cc in
    let same : c ≡ d = cc (sym (change_step c) ∙ ap step_of head ∙ change_step d) in
    (rw (same, more.0) refl, more.1, more.2)

-- the rows of a list of batches are the rows of the first batch, followed by the rows of the other
-- batches
split_first : (b : NumberedChanges) (bs : List NumberedChanges) (xs : List ReadRow)
    → read_rows (journal_rows (b ∷ bs)) ++ xs ≡ read_rows (batch_rows b) ++ (read_rows (journal_rows bs) ++ xs)
split_first b bs xs = rw (map-append {B = ReadRow} Ok (batch_rows b) (journal_rows bs), append_assoc (read_rows (batch_rows b)) (read_rows (journal_rows bs)) xs) refl

-- If two lists of batches have the same rows, their first batches have the same changes and number.
-- The rows after the first batches are also the same.
first_two : (b o : NumberedChanges) (bs os : List NumberedChanges) (xs ys : List ReadRow)
    → read_rows (journal_rows (b ∷ bs)) ++ xs ≡ read_rows (journal_rows (o ∷ os)) ++ ys
    → (b.changes ≡ o.changes) × (b.number ≡ o.number) × (read_rows (journal_rows bs) ++ xs ≡ read_rows (journal_rows os) ++ ys)
first_two b o bs os xs ys e =
    same_batch b.changes o.changes b.number (length b.changes) o.number (length o.changes) _ _ (sym (split_first b bs xs) ∙ e ∙ split_first o os ys)

-- the rows don't begin with a whole batch of this number
abbrev pub HasNoBatch : ℕ → List (Result Row RowError) → Type 0
HasNoBatch number xs = (batch : NumberedChanges) (rest : List (Result Row RowError)) → batch.number ≡ number → xs ≢ read_rows (batch_rows batch) ++ rest

-- Let the rows of the batches `bs` followed by `xs` be the same list as the rows of the batches
-- `os` followed by `ys`. If `xs` doesn't begin with a whole batch of the next number, `xs` has at
-- most as many rows as `ys`.
pub longest_prefix : (first : ℕ) (bs os : List NumberedChanges) (xs ys : List (Result Row RowError)) → AreNumberedFrom first bs → AreNumberedFrom first os
    → read_rows (journal_rows bs) ++ xs ≡ read_rows (journal_rows os) ++ ys → HasNoBatch (first + length bs) xs → length xs ≤ length ys
longest_prefix first [] [] xs ys numbers others e none = omega (arith, ap length e)
longest_prefix first [] (o ∷ os) xs ys numbers others e none =
    absurd (none o (read_rows (journal_rows os) ++ ys) (omega (arith, others.0)) (e ∙ split_first o os ys))
longest_prefix first (b ∷ bs) [] xs ys numbers others e none = omega (arith, simp length-append at (ap length e))
longest_prefix first (b ∷ bs) (o ∷ os) xs ys numbers others e none =
    let count : first + length (b ∷ bs) ≡ (first + 1) + length bs = omega arith in
    longest_prefix (first + 1) bs os xs ys numbers.1 others.1 (first_two b o bs os xs ys e).2 (rw count at none)

equal_batches : (b o : NumberedChanges) → b.number ≡ o.number → b.changes ≡ o.changes → b ≡ o
equal_batches b o number changes =
    ap (λ n. let x : NumberedChanges = record { number = n; changes = b.changes } in x) number
    ∙ ap (λ cs. let x : NumberedChanges = record { number = o.number; changes = cs } in x) changes

-- Let the rows of two lists of batches both be at the start of one list of rows. If the same number
-- of rows follows each, the two lists of batches are the same.
pub same_prefix : (bs os : List NumberedChanges) (xs ys : List (Result Row RowError))
    → read_rows (journal_rows bs) ++ xs ≡ read_rows (journal_rows os) ++ ys → length xs ≡ length ys → bs ≡ os
same_prefix [] [] xs ys e count = refl
same_prefix [] (o ∷ os) xs ys e count = absurd (omega (arith, simp (length-append, length-map) at (ap length e)))
same_prefix (b ∷ bs) [] xs ys e count = absurd (omega (arith, simp (length-append, length-map) at (ap length e)))
same_prefix (b ∷ bs) (o ∷ os) xs ys e count =
    let two = first_two b o bs os xs ys e in
    rw (equal_batches b o two.1 two.0, same_prefix bs os xs ys two.2 count) refl

-- Let rows begin with open changes. If no row follows these changes, the rows don't begin with a
-- whole batch. The same holds if the next row is neither a change nor the `end` row of these
-- changes.
no_batch : (opens cs : List Change) (done n k number count : ℕ) (xs rest : List ReadRow)
    → AreBehind n k xs → done + length opens ≡ k → done + length cs ≡ count → number ≡ n
    → read_rows (map change_row opens) ++ xs ≡ read_rows (map change_row cs ++ (row.End number count ∷ [])) ++ rest → ⊥
no_batch [] [] done n k number count [] rest behind opened counted same e = cc
no_batch [] [] done n k number count (x ∷ xs) rest behind opened counted same e =
    let head : x ≡ Ok (row.End number count) = cc in
    let last : EndsBatches n k (Ok (row.End number count)) = rw head at behind in
    last (same, omega arith)
no_batch [] (c ∷ cs) done n k number count [] rest behind opened counted same e = cc
no_batch [] (c ∷ cs) done n k number count (x ∷ xs) rest behind opened counted same e =
    let head : x ≡ Ok (change_row c) = cc in
    let part : EndsBatches n k (Ok (change_row c)) = rw head at behind in
    subst (IsNoPart n k) (change_step c) part
no_batch (c ∷ opens) [] done n k number count xs rest behind opened counted same e =
    let head : change_row c ≡ row.End number count = cc in
    cc (sym (change_step c) ∙ ap step_of head)
no_batch (a ∷ opens) (c ∷ cs) done n k number count xs rest behind opened counted same e =
    no_batch opens cs (done + 1) n k number count xs rest behind (omega arith) (omega arith) same (cc)

pub open_no_batch : (opens : List Change) (n : ℕ) (xs : List (Result Row RowError))
    → AreBehind n (length opens) xs → HasNoBatch n (read_rows (map change_row opens) ++ xs)
open_no_batch opens n xs behind batch rest number e =
    no_batch opens batch.changes 0 n (length opens) batch.number (length batch.changes) xs rest behind (omega arith) (omega arith) number e
