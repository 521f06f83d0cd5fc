-- How one more record changes the three parts of a journal: the whole batches, the open changes,
-- and the records after the open changes. An open change is a change whose `end` row hasn't come.
use Rattle.std.proofs.Common.{◌≡◌, ◌≢◌, ℕ, ◌+◌, ◌≤◌, Bool, true, false, List, [], ◌∷◌, ◌++◌, map, length, Result, Ok, refl, sym, ap, ◌∙◌, append_assoc, append-nil, arith}
use Rattle.std.proofs.lemmas.Grind.{flat_map-append}
use Rattle.std.proofs.lemmas.List.{map-append, length-append, length-map}
use Rattle.cspf_model.specs.declared.batch.Change.{Change}
use Rattle.cspf_model.specs.Numbered.{NumberedChanges, AreNumberedFrom}
use Rattle.cspf_rows.specs.declared.row.Row.{Row}
use Rattle.cspf_rows.specs.declared.row.Row.TheVariants as row
use Rattle.cspf_rows.specs.declared.row_error.RowError.{RowError}
use Rattle.cspf_rows.specs.declared.journal.Rest.{Rest}
use Rattle.cspf_rows.specs.declared.journal.Rest.TheVariants as rest
use Rattle.cspf_rows.specs.Rows.{row_of}
use Rattle.cspf_rows.specs.Journal.{change_row, journal_rows, BeginsWithBatches, IsRest, IsJournal}
use Rattle.cspf_rows.specs.JournalReading.{EndsBatches, AreBehind, AreJournalParts}
use Rattle.cspf_rows.proofs.WholeBatches.{read_rows, longest_prefix, open_no_batch, same_prefix}

abbrev Records : Type 0
Records = List (List (List ℕ))

pub parts_none : AreJournalParts [] [] false []
parts_none = record {
  numbers = tt;
  whole = [];
  open_ones = [];
  behind = [];
  split = refl;
  whole_rows = refl;
  open_rows = refl;
  ends = tt;
  ended = refl;
}

one_more : (whole opens behind : Records) (fields : List (List ℕ)) → behind ≡ [] → (whole ++ (opens ++ behind)) ++ (fields ∷ []) ≡ whole ++ (opens ++ (fields ∷ []))
one_more whole opens behind fields none = rw none (simp (append-nil, append_assoc))

module _ (bs : List NumberedChanges) (cs : List Change) (seen : List (List (List ℕ))) (fields : List (List ℕ)) (h : AreJournalParts bs cs false seen) where
  seen_more : seen ++ (fields ∷ []) ≡ h.whole ++ (h.open_ones ++ (fields ∷ []))
  seen_more = ap (λ (s : Records). s ++ (fields ∷ [])) h.split ∙ one_more h.whole h.open_ones h.behind fields h.ended

  -- if the next record is a change, there is one more open change
  pub parts_change : (change : Change) → row_of fields ≡ Ok (change_row change) → AreJournalParts bs (cs ++ (change ∷ [])) false (seen ++ (fields ∷ []))
  parts_change change row = record {
    numbers = h.numbers;
    whole = h.whole;
    open_ones = h.open_ones ++ (fields ∷ []);
    behind = [];
    split = seen_more ∙ ap (λ (s : Records). h.whole ++ s) (sym (append-nil (h.open_ones ++ (fields ∷ []))));
    whole_rows = h.whole_rows;
    open_rows = rw (map-append row_of h.open_ones (fields ∷ []), h.open_rows, row) (simp map-append);
    ends = tt;
    ended = refl;
  }

  numbered-push : (first : ℕ) (xs : List NumberedChanges) (b : NumberedChanges) → AreNumberedFrom first xs → b.number ≡ first + length xs → AreNumberedFrom first (xs ++ (b ∷ []))
  numbered-push first [] b numbers next = (omega (arith, next), tt)
  numbered-push first (x ∷ xs) b numbers next = (numbers.0, numbered-push (first + 1) xs b numbers.1 (omega (arith, next)))

  -- if the next record is the `end` row of the open changes, these changes become a whole batch,
  -- and no change stays open
  pub parts_batch : (batch : NumberedChanges) → batch.number ≡ 1 + length bs → batch.changes ≡ cs
      → row_of fields ≡ Ok (row.End batch.number (length batch.changes)) → AreJournalParts (bs ++ (batch ∷ [])) [] false (seen ++ (fields ∷ []))
  parts_batch batch number same row = record {
    numbers = numbered-push 1 bs batch h.numbers number;
    whole = h.whole ++ (h.open_ones ++ (fields ∷ []));
    open_ones = [];
    behind = [];
    split = seen_more ∙ sym (append-nil _);
    whole_rows =
        let opens : map row_of h.open_ones ≡ read_rows (map change_row batch.changes) = rw same h.open_rows in
        rw (map-append row_of h.whole (h.open_ones ++ (fields ∷ [])), map-append row_of h.open_ones (fields ∷ []), h.whole_rows, opens, row)
        (simp (flat_map-append, map-append, append-nil));
    open_rows = refl;
    ends = tt;
    ended = refl;
  }

  some_one : (fields ∷ []) ≢ []
  some_one e = cc

  -- if the next record is neither a change nor the `end` row of the open changes, it is the first
  -- record after the open changes
  pub parts_end : EndsBatches (1 + length bs) (length cs) (row_of fields) → AreJournalParts bs cs true (seen ++ (fields ∷ []))
  parts_end last = record {
    numbers = h.numbers;
    whole = h.whole;
    open_ones = h.open_ones;
    behind = fields ∷ [];
    split = seen_more;
    whole_rows = h.whole_rows;
    open_rows = h.open_rows;
    ends = last;
    ended = some_one;
  }

behind_more : (n k : ℕ) (more : Records) (fields : List (List ℕ)) → more ≢ [] → AreBehind n k (map row_of more) → AreBehind n k (map row_of (more ++ (fields ∷ [])))
behind_more n k [] fields some h = absurd (some refl)
behind_more n k (r ∷ more) fields some h = h

some_more : (more : Records) (fields : List (List ℕ)) → more ++ (fields ∷ []) ≢ []
some_more [] fields e = cc
some_more (r ∷ more) fields e = cc

-- once a record has followed the open changes, the next record follows them too, and is in no batch
pub parts_behind : (bs : List NumberedChanges) (cs : List Change) (seen : List (List (List ℕ))) (fields : List (List ℕ)) → AreJournalParts bs cs true seen
    → AreJournalParts bs cs true (seen ++ (fields ∷ []))
parts_behind bs cs seen fields h = record {
  numbers = h.numbers;
  whole = h.whole;
  open_ones = h.open_ones;
  behind = h.behind ++ (fields ∷ []);
  split = ap (λ (s : Records). s ++ (fields ∷ [])) h.split ∙ simp append_assoc;
  whole_rows = h.whole_rows;
  open_rows = h.open_rows;
  ends = behind_more _ _ h.behind fields h.ended h.ends;
  ended = some_more h.behind fields;
}

-- Let `seen` be the records `whole` followed by the records `left`. If `whole` is read as `rows`,
-- `seen` is read as `rows` followed by the results of reading `left`.
said : (whole left seen : Records) (rows : List Row) → seen ≡ whole ++ left → map row_of whole ≡ read_rows rows → map row_of seen ≡ read_rows rows ++ map row_of left
said whole left seen rows split read = rw (split, map-append row_of whole left, read) refl

module _ (bs : List NumberedChanges) (cs : List Change) (ended : Bool) (seen : List (List (List ℕ))) (h : AreJournalParts bs cs ended seen) where
  parts_longest : (others : List NumberedChanges) (more : Records) → BeginsWithBatches seen others more → length (h.open_ones ++ h.behind) ≤ length more
  parts_longest others more begins =
      let opens : map row_of (h.open_ones ++ h.behind) ≡ read_rows (map change_row cs) ++ map row_of h.behind =
      rw (map-append row_of h.open_ones h.behind, h.open_rows) refl in
      let one = said h.whole (h.open_ones ++ h.behind) seen (journal_rows bs) h.split h.whole_rows in
      let two = said begins.front more seen (journal_rows others) begins.split begins.rows in
      let less = longest_prefix 1 bs others _ (map row_of more) h.numbers begins.numbers (sym (rw opens at one) ∙ two)
      (open_no_batch cs (1 + length bs) (map row_of h.behind) h.ends) in
      omega (arith, less, length-map more row_of, length-map (h.open_ones ++ h.behind) row_of, ap length opens)

  -- If no more records come, the records that were read are a journal of these batches. `rest` says
  -- whether records follow these batches.
  journal_of_parts : (rest : Rest) → IsRest (h.open_ones ++ h.behind) rest → IsJournal seen bs rest
  journal_of_parts rest is_rest = record {
    left = h.open_ones ++ h.behind;
    begins = record { numbers = h.numbers; front = h.whole; split = h.split; rows = h.whole_rows };
    longest = parts_longest;
    is_rest = is_rest;
  }

no_records : (records : Records) → map row_of records ≡ [] → records ≡ []
no_records [] e = refl
no_records (r ∷ rs) e = absurd (cc)

some_behind : (opens behind : Records) → behind ≢ [] → opens ++ behind ≢ []
some_behind [] behind some e = some e
some_behind (o ∷ opens) behind some e = cc

some_open : (opens behind : Records) (cs : List Change) → map row_of opens ≡ read_rows (map change_row cs) → cs ≢ [] → opens ++ behind ≢ []
some_open [] behind [] rows some e = some refl
some_open [] behind (c ∷ cs) rows some e = cc
some_open (o ∷ opens) behind cs rows some e = cc

-- a journal is clean if it has no open changes, and no record after them
pub journal_clean : (bs : List NumberedChanges) (seen : List (List (List ℕ))) → AreJournalParts bs [] false seen → IsJournal seen bs rest.Clean
journal_clean bs seen h = journal_of_parts bs [] false seen h rest.Clean (rw (h.ended, no_records h.open_ones h.open_rows) refl)

-- a journal that ends with open changes is torn, because these changes follow its last whole batch
pub journal_open : (bs : List NumberedChanges) (cs : List Change) (seen : List (List (List ℕ))) → AreJournalParts bs cs false seen → cs ≢ [] → IsJournal seen bs rest.Torn
journal_open bs cs seen h some = journal_of_parts bs cs false seen h rest.Torn (some_open h.open_ones h.behind cs h.open_rows some)

-- a journal with a record after its open changes is torn, because this record follows the last
-- whole batch
pub journal_behind : (bs : List NumberedChanges) (cs : List Change) (seen : List (List (List ℕ))) → AreJournalParts bs cs true seen → IsJournal seen bs rest.Torn
journal_behind bs cs seen h = journal_of_parts bs cs true seen h rest.Torn (some_behind h.open_ones h.behind h.ended)

same_rest : (left more : Records) (one two : Rest) → length left ≡ length more → IsRest left one → IsRest more two → one ≡ two
same_rest left more rest.Clean rest.Clean count a b = refl
same_rest left more rest.Torn rest.Torn count a b = refl
same_rest [] [] rest.Clean rest.Torn count a b = absurd (b refl)
same_rest [] [] rest.Torn rest.Clean count a b = absurd (a refl)
same_rest [] (m ∷ more) one two count a b = absurd (omega arith)
same_rest (l ∷ left) [] one two count a b = absurd (omega arith)
same_rest (l ∷ left) (m ∷ more) rest.Clean rest.Torn count a b = absurd (cc)
same_rest (l ∷ left) (m ∷ more) rest.Torn rest.Clean count a b = absurd (cc)

-- A journal has only one reading: if the same records are read as two lists of batches, the two
-- lists are the same. Both readings are clean, or both are torn.
pub one_journal : (records : List (List (List ℕ))) (batches others : List NumberedChanges) (rest other : Rest)
    → IsJournal records batches rest → IsJournal records others other → (batches ≡ others) × (rest ≡ other)
one_journal records batches others rest other a b =
    let less = a.longest others b.left b.begins in
    let more = b.longest batches a.left a.begins in
    let count : length a.left ≡ length b.left = omega arith in
    let one = said a.begins.front a.left records (journal_rows batches) a.begins.split a.begins.rows in
    let two = said b.begins.front b.left records (journal_rows others) b.begins.split b.begins.rows in (
      same_prefix batches others (map row_of a.left) (map row_of b.left) (sym one ∙ two) (omega (arith, length-map a.left row_of, length-map b.left row_of)),
      same_rest a.left b.left rest other count a.is_rest b.is_rest,
    )

rows_enough : (batches : List NumberedChanges) → length batches ≤ length (journal_rows batches)
rows_enough [] = omega arith
rows_enough (b ∷ bs) = simp length-append (omega (arith, rows_enough bs))

-- the number of whole batches in a journal is at most the number of its records
pub few_batches : (bs : List NumberedChanges) (cs : List Change) (ended : Bool) (seen : List (List (List ℕ))) → AreJournalParts bs cs ended seen → length bs ≤ length seen
few_batches bs cs ended seen h =
    let whole : length h.whole ≡ length (journal_rows bs) =
    sym (length-map h.whole row_of) ∙ ap length h.whole_rows ∙ length-map {B = Result Row RowError} (journal_rows bs) Ok in
    omega (arith, whole, rows_enough bs, ap length h.split, length-append h.whole (h.open_ones ++ h.behind))
