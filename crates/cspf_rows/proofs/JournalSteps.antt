-- How one more row changes which whole batches and which open changes a reader of a journal has
-- read.
use Rattle.std.proofs.Common.{◌≡◌, ◌≢◌, ℕ, ◌+◌, ◌<◌, ◌≤◌, Bool, true, false, List, [], ◌∷◌, ◌++◌, length, length-append, Option, Some, None, IfSome, IfOk, OnOk, Result, Ok, Err, refl, sym, ◌∙◌, arith}
use Rattle.std.specs.Option.{option_map}
use Rattle.cspf_model.specs.declared.batch.Change.{Change}
use Rattle.cspf_model.specs.Numbered.{NumberedChanges}
use Rattle.cspf_rows.specs.declared.journal.Rest.{Rest}
use Rattle.cspf_rows.specs.declared.journal.Rest.TheVariants as rest
use Rattle.cspf_rows.specs.declared.journal.Journal.{Journal}
use Rattle.cspf_rows.specs.declared.journal.JournalStep.{JournalStep}
use Rattle.cspf_rows.specs.declared.journal.JournalStep.TheVariants as step
use Rattle.cspf_rows.specs.declared.journal.reader.JournalReader.{JournalReader}
use Rattle.cspf_rows.specs.declared.journal.taken_row.Taken.TheVariants as taken
use Rattle.cspf_rows.specs.declared.read_error.ReadError.{ReadError}
use Rattle.cspf_rows.specs.Rows.{row_of}
use Rattle.cspf_rows.specs.Records.{rows_of, rows_left, Takes}
use Rattle.cspf_rows.specs.Journal.{IsJournal}
use Rattle.cspf_rows.specs.JournalReading.{IsTaken, AreJournalParts, HasRead, ComesTo}
use Rattle.cspf_rows.specs.GivenBatches.{HasGiven}
use Rattle.cspf_rows.proofs.ProgressLemmas.{sees_none, sees_next, sees_all, sees_more, if_some_more}
use Rattle.cspf_rows.proofs.JournalParts.{parts_none, parts_change, parts_batch, parts_end, parts_behind, journal_clean, journal_open, journal_behind, few_batches}

-- if a reader has read whole batches and no record after them, it has returned these batches
pub given : {R : Type 0} (rem : R → Option (List ℕ)) (all : Option (List (List (List ℕ)))) (reader : JournalReader R) (bs : List NumberedChanges)
    → HasRead rem all reader bs [] false → HasGiven rem all reader bs
given rem all reader bs h =
    let few = few_batches bs [] false h.seen.seen h.seen.holds in
    let counted = h.seen.counted in
    record {
      numbers = h.seen.holds.numbers;
      few = omega arith;
      read = h;
    }

-- if a reader has read no row, it has returned no batches
pub given_none : {R : Type 0} (rem : R → Option (List ℕ)) (all : Option (List (List (List ℕ)))) (reader : JournalReader R)
    → reader.rows ≡ 0 → reader.count ≡ 0 → rows_left rem reader.records ≡ all → HasGiven rem all reader []
given_none rem all reader rows count left =
    given rem all reader [] (record { count = count; seen = rw (rows, left) (sees_none (AreJournalParts [] [] false) all parts_none) })

-- the new reader is the old reader after it has read one more record, and this record has the
-- fields `fields`
pub record ReadsOne {R : Type 0} (rem : R → Option (List ℕ)) (old new : JournalReader R) (fields : List (List ℕ)) : Type 0 where
  pub takes : Takes (rows_left rem old.records) (rows_left rem new.records) true fields
  pub rows : new.rows ≡ old.rows + 1

module _ {R : Type 0} (rem : R → Option (List ℕ)) (all : Option (List (List (List ℕ)))) (old new : JournalReader R) (fields : List (List ℕ)) (bs : List NumberedChanges) where
  read_next : (cs ds : List Change) (ended ends : Bool) (os : List NumberedChanges) → ReadsOne rem old new fields → HasRead rem all old bs cs ended → new.count ≡ length os
      → ((seen : List (List (List ℕ))) → AreJournalParts bs cs ended seen → AreJournalParts os ds ends (seen ++ (fields ∷ []))) → HasRead rem all new os ds ends
  read_next cs ds ended ends os one h count more = record {
    count = count;
    seen =
        rw one.rows
        (sees_next (AreJournalParts bs cs ended) all (rows_left rem old.records) (rows_left rem new.records) old.rows fields h.seen (AreJournalParts os ds ends) one.takes
        (λ seen counted parts. more seen parts));
  }

  -- if the row is a change, the reader `new`, after this row, has read one more open change
  pub read_change : (next : ℕ) (b c : NumberedChanges) → ReadsOne rem old new fields → HasRead rem all old bs b.changes false → new.count ≡ old.count
      → IsTaken (row_of fields) next b c taken.Change → HasRead rem all new bs c.changes false
  read_change next b c one h same is =
      rw is.2 (read_next b.changes (b.changes ++ (is.0 ∷ [])) false false bs one h (same ∙ h.count) (λ seen parts. parts_change bs b.changes seen fields parts is.0 is.1))

  -- Let the row be the `end` row of the open changes. Then the reader `new`, after this row, has
  -- read one more whole batch and no open change.
  pub read_batch : (b c : NumberedChanges) → ReadsOne rem old new fields → HasRead rem all old bs b.changes false → new.count ≡ old.count + 1
      → IsTaken (row_of fields) new.count b c taken.Batch → HasRead rem all new (bs ++ (c ∷ [])) [] false
  read_batch b c one h more is =
      let count = h.count in
      let number : c.number ≡ 1 + length bs = is.1 ∙ omega arith in
      read_next b.changes [] false false (bs ++ (c ∷ [])) one h (omega (arith, length-append bs (c ∷ [])))
      (λ seen parts. parts_batch bs b.changes seen fields parts c number is.2 (rw (is.2, is.1) is.0))

  -- Let the row be neither a change nor the `end` row of the open changes. Then the reader `new`,
  -- after this row, has read a row that is in no batch.
  pub read_end : (b c : NumberedChanges) → ReadsOne rem old new fields → HasRead rem all old bs b.changes false → new.count ≡ old.count
      → IsTaken (row_of fields) (new.count + 1) b c taken.Behind → HasRead rem all new bs b.changes true
  read_end b c one h same is =
      let count = h.count in
      let next : new.count + 1 ≡ 1 + length bs = omega arith in
      read_next b.changes b.changes false true bs one h (same ∙ h.count) (λ seen parts. parts_end bs b.changes seen fields parts (rw next at is.0))

  -- Let the reader `old` have read a row that is in no batch. Then one more row changes neither the
  -- whole batches nor the open changes.
  pub read_behind : (cs : List Change) → ReadsOne rem old new fields → HasRead rem all old bs cs true → new.count ≡ old.count → HasRead rem all new bs cs true
  read_behind cs one h same = read_next cs cs true true bs one h (same ∙ h.count) (λ seen parts. parts_behind bs cs seen fields parts)

  -- if the reader has read 1,000,000 rows, and there is one more row, the journal has too many rows
  pub read_too_many : (cs : List Change) (ended : Bool) → HasRead rem all old bs cs ended → old.rows ≡ 1000000
      → Takes (rows_left rem old.records) (rows_left rem new.records) true fields → IfSome all (λ rows. 1000000 < length rows)
  read_too_many cs ended h most takes =
      rw most at (sees_more (AreJournalParts bs cs ended) all (rows_left rem old.records) (rows_left rem new.records) old.rows fields h.seen takes)

  -- if no row is left, the journal of the records that were read is the journal of the whole stream
  read_all : (cs : List Change) (ended : Bool) (rest : Rest) → HasRead rem all old bs cs ended → old.rows ≤ 1000000
      → Takes (rows_left rem old.records) (rows_left rem new.records) false fields
      → ((seen : List (List (List ℕ))) → AreJournalParts bs cs ended seen → IsJournal seen bs rest) → IfSome all (λ rows. IsJournal rows bs rest × (length rows ≤ 1000000))
  read_all cs ended rest h few takes journal =
      if_some_more all (λ rows whole. (journal rows whole.0, rw (sym whole.1) at few))
      (sees_all (AreJournalParts bs cs ended) all (rows_left rem old.records) (rows_left rem new.records) old.rows fields h.seen takes)

  read_clean : (cs : List Change) → cs ≡ [] → HasRead rem all old bs cs false → old.rows ≤ 1000000
      → Takes (rows_left rem old.records) (rows_left rem new.records) false fields → IfSome all (λ rows. IsJournal rows bs rest.Clean × (length rows ≤ 1000000))
  read_clean cs none h few takes = read_all [] false rest.Clean (rw none at h) few takes (journal_clean bs)

  read_open : (cs : List Change) → cs ≢ [] → HasRead rem all old bs cs false → old.rows ≤ 1000000
      → Takes (rows_left rem old.records) (rows_left rem new.records) false fields → IfSome all (λ rows. IsJournal rows bs rest.Torn × (length rows ≤ 1000000))
  read_open cs some h few takes = read_all cs false rest.Torn h few takes (λ seen parts. journal_open bs cs seen parts some)

  -- If no row is left after the open changes, the stream is a journal of the whole batches. The
  -- journal is clean if no change is open, and torn otherwise.
  pub read_rest : (cs : List Change) (left : Rest) → (left ≡ rest.Clean → cs ≡ []) → (left ≡ rest.Torn → cs ≢ []) → HasRead rem all old bs cs false → old.rows ≤ 1000000
      → Takes (rows_left rem old.records) (rows_left rem new.records) false fields → IfSome all (λ rows. IsJournal rows bs left × (length rows ≤ 1000000))
  read_rest cs rest.Clean clean torn h few takes = read_clean cs (clean refl) h few takes
  read_rest cs rest.Torn clean torn h few takes = read_open cs (torn refl) h few takes

  -- Let the reader have read a row that is in no batch. If no row is left, the stream is a torn
  -- journal of the whole batches.
  pub read_torn : (cs : List Change) → HasRead rem all old bs cs true → old.rows ≤ 1000000
      → Takes (rows_left rem old.records) (rows_left rem new.records) false fields → IfSome all (λ rows. IsJournal rows bs rest.Torn × (length rows ≤ 1000000))
  read_torn cs h few takes = read_all cs true rest.Torn h few takes (journal_behind bs cs)

module _ {R : Type 0} (rem : R → Option (List ℕ)) (all : Option (List (List (List ℕ)))) (reader : JournalReader R) (bs : List NumberedChanges) (b : NumberedChanges) where
  pub came_batch : (come : JournalStep) → come ≡ step.Batch → ComesTo rem all reader bs b come → HasRead rem all reader (bs ++ (b ∷ [])) [] false
  came_batch step.Batch e came = came
  came_batch (step.End left) e came = absurd (cc)

  pub came_end : (come : JournalStep) (left : Rest) → come ≡ step.End left → ComesTo rem all reader bs b come → IfSome all (λ rows. IsJournal rows bs left × (length rows ≤ 1000000))
  came_end come left e came = rw e at came

-- if a function passes on the error of a call, the function and the call have the same error
pub same_fault : {A B : Type 0} (r : Result A ReadError) (s : Result B ReadError) (e f k : ReadError) → r ≡ Err k → r ≡ Err f → f ≡ e → s ≡ Err e → s ≡ Err k
same_fault r s e f k is ends same was = cc

-- if the bytes of the stream are known, the journal that is read is the journal of the records of
-- these bytes
pub whole_read : {R : Type 0} (rem : R → Option (List ℕ)) (reader : JournalReader R) (bytes : Option (List ℕ)) (r : Result Journal ReadError)
    → HasGiven rem (option_map rows_of bytes) reader []
    → IfOk r (λ read. (all : Option (List (List (List ℕ)))) → HasGiven rem all reader [] → IfSome all (λ rows. IsJournal rows read.batches.items read.rest × (length rows ≤ 1000000)))
    → IfOk r (λ read. IfSome bytes (λ text. IsJournal (rows_of text) read.batches.items read.rest)) × OnOk r (IfSome bytes (λ text. length (rows_of text) ≤ 1000000))
whole_read rem reader bytes (Err e) none read = (tt, tt)
whole_read rem reader None (Ok journal) none read = (tt, tt)
whole_read rem reader (Some text) (Ok journal) none read = read (Some (rows_of text)) none

pub many_read : (bytes : Option (List ℕ)) → IfSome (option_map rows_of bytes) (λ rows. 1000000 < length rows) → IfSome bytes (λ text. 1000000 < length (rows_of text))
many_read None many = tt
many_read (Some text) many = many
