-- The records that are written for batches are read as the rows of these batches.
use Rattle.std.proofs.Common.{◌≡◌, ℕ, ◌+◌, ◌^◌, ◌<◌, ◌≤◌, List, [], ◌∷◌, ◌++◌, map, length, Result, Ok, Bool, true, false, refl, sym, ap, append-nil, arith}
use Rattle.std.proofs.lemmas.Grind.{flat_map-append}
use Rattle.std.proofs.lemmas.List.{map-append, length-append, length-map}
use Rattle.std.specs.Fmt.{decimal}
use Rattle.std.specs.List.{flat_map, AllByRecursion}
use Rattle.csv.specs.Reading.{strip_bom, is_bom}
use Rattle.cspf_addr.specs.MaskText.{SpellsMask, mask_text, AreMasksRead, AreMasksReadBack}
use Rattle.cspf_model.specs.declared.batch.Change.{Change}
use Rattle.cspf_model.specs.declared.batch.Change.TheVariants as change
use Rattle.cspf_model.specs.Numbered.{NumberedChanges, AreNumberedFrom}
use Rattle.cspf_rows.specs.declared.row.Row.{Row}
use Rattle.cspf_rows.specs.declared.row.Row.TheVariants as row
use Rattle.cspf_rows.specs.declared.journal.Rest.TheVariants as rest
use Rattle.cspf_rows.specs.declared.row_error.RowError.{RowError}
use Rattle.cspf_rows.specs.Written.{end_fields, ArePutsReadBack, AreDropsReadBack, AreNodesReadBack, AreEndsReadBack}
use Rattle.cspf_rows.specs.FieldValues.{flag_number}
use Rattle.cspf_rows.specs.Rows.{row_of}
use Rattle.cspf_rows.specs.Records.{rows_of}
use Rattle.cspf_rows.specs.BatchText.{record_line, change_fields, batch_records, batch_text}
use Rattle.cspf_rows.specs.Journal.{change_row, batch_rows, journal_rows, IsJournal}
use Rattle.cspf_rows.specs.JournalLaws.{IsChangeInRange, AreInRange, journal_text, AreWritable}
use Rattle.cspf_rows.proofs.Lines.{line_text-cons}
use Rattle.cspf_rows.proofs.PlainFields.{IsUnquoted, decimal_unquoted, decimals_unquoted, address_unquoted, mask_unquoted}
use Rattle.cspf_rows.proofs.CutLines.{IsUnquotedRecord, AreUnquotedRecords, rows_of-lines}

-- The records that are written for changes and for `end` rows are read as the same rows. Batches
-- have no other rows.
pub record AreRowsReadBack : Type 0 where
  pub puts : ArePutsReadBack
  pub drops : AreDropsReadBack
  pub nodes : AreNodesReadBack
  pub ends : AreEndsReadBack
  pub masks : AreMasksRead
  pub back : AreMasksReadBack

pub read_back : ArePutsReadBack → AreDropsReadBack → AreNodesReadBack → AreEndsReadBack → AreMasksRead → AreMasksReadBack → AreRowsReadBack
read_back puts drops nodes ends masks back = record { puts = puts; drops = drops; nodes = nodes; ends = ends; masks = masks; back = back }

-- no field of the records needs quotes, and the records are read as `rows`
pub record AreRead (records : List (List (List ℕ))) (rows : List Row) : Type 0 where
  pub plain : AreUnquotedRecords records
  pub read : map row_of records ≡ map Ok rows

AreRead-append : (rs ss : List (List (List ℕ))) (xs ys : List Row) → AreRead rs xs → AreRead ss ys → AreRead (rs ++ ss) (xs ++ ys)
AreRead-append rs ss xs ys a b = record {
  plain = plain_append rs ss a.plain b.plain;
  read = rw (map-append row_of rs ss, map-append {B = Result Row RowError} Ok xs ys, a.read, b.read) refl;
}
  where
    plain_append : (rs ss : List (List (List ℕ))) → AreUnquotedRecords rs → AreUnquotedRecords ss → AreUnquotedRecords (rs ++ ss)
    plain_append [] ss a b = b
    plain_append (r ∷ rs) ss a b = (a.0, plain_append rs ss a.1 b)

-- the text of a flag needs no quotes
flag_unquoted : (flag : Bool) → IsUnquoted (decimal (flag_number flag))
flag_unquoted true = decimal_unquoted 1 (omega arith)
flag_unquoted false = decimal_unquoted 0 (omega arith)

pub end_unquoted : (number count : ℕ) → number < 2 ^ 32 → count < 2 ^ 32 → IsUnquotedRecord (end_fields number count)
end_unquoted number count small few = (refl, (decimal_unquoted number (omega arith), (decimal_unquoted count (omega arith), tt)))

module _ (laws : AreRowsReadBack) where
  spelled : (bits : ℕ) → bits < 2 ^ 32 → SpellsMask (mask_text bits) bits
  spelled bits small = (laws.masks (mask_text bits) bits).0 (laws.back bits small)

  -- no field of the record of a change needs quotes
  pub change_unquoted : (c : Change) → IsChangeInRange c → IsUnquotedRecord (change_fields c)
  change_unquoted (change.Put link) range = (
    refl,
    (
      address_unquoted link.from,
      (
        address_unquoted link.local,
        (
          address_unquoted link.to,
          (
            address_unquoted link.remote,
            (decimal_unquoted link.metric (omega (arith, range.0.metric)), (mask_unquoted _ _ (spelled link.group range.1), decimals_unquoted link.free (λ priority within. range.0.free priority (omega (arith, link.eight))))),
          ),
        ),
      ),
    ),
  )
  change_unquoted (change.Remove from local) range = (refl, (address_unquoted from, (address_unquoted local, tt)))
  change_unquoted (change.Node router transit) range = (refl, (address_unquoted router, (flag_unquoted transit, tt)))

  -- the record of a change is read as the row of this change
  pub change_row_of : (c : Change) → IsChangeInRange c → row_of (change_fields c) ≡ Ok (change_row c)
  change_row_of (change.Put link) range = laws.puts link (mask_text link.group) range.0 (spelled link.group range.1)
  change_row_of (change.Remove from local) range = laws.drops from local range.0 range.1
  change_row_of (change.Node router transit) range = laws.nodes router transit range

  change_read : (c : Change) → IsChangeInRange c → AreRead (change_fields c ∷ []) (change_row c ∷ [])
  change_read c range = record { plain = (change_unquoted c range, tt); read = rw (change_row_of c range) refl }

  changes_read : (cs : List Change) → AllByRecursion IsChangeInRange cs → AreRead (map change_fields cs) (map change_row cs)
  changes_read [] range = record { plain = tt; read = refl }
  changes_read (c ∷ cs) range = AreRead-append (change_fields c ∷ []) (map change_fields cs) (change_row c ∷ []) (map change_row cs) (change_read c range.0) (changes_read cs range.1)

  end_read : (number count : ℕ) → number < 2 ^ 32 → count < 2 ^ 32 → AreRead (end_fields number count ∷ []) (row.End number count ∷ [])
  end_read number count small few = record {
    plain = (end_unquoted number count small few, tt);
    read = rw (laws.ends number count small few) refl;
  }

  batches_read : (first : ℕ) (batches : List NumberedChanges) → AreInRange batches → AreNumberedFrom first batches
      → first + length (journal_rows batches) ≤ 1000001 → AreRead (flat_map batch_records batches) (journal_rows batches)
  batches_read first [] range numbers few = record { plain = tt; read = refl }
  batches_read first (b ∷ bs) range numbers few =
      let rows = journal_rows bs in
      let count : length (journal_rows (b ∷ bs)) ≡ length b.changes + 1 + length rows = simp (length-append, length-map) in
      AreRead-append (batch_records b) (flat_map batch_records bs) (batch_rows b) rows
      (AreRead-append (map change_fields b.changes) _ (map change_row b.changes) _ (changes_read b.changes range.0)
      (end_read b.number (length b.changes) (omega (arith, numbers.0)) (omega arith)))
      (batches_read (first + 1) bs range.1 numbers.1 (omega arith))

  pub written_read : (batches : List NumberedChanges) → AreWritable batches → AreRead (flat_map batch_records batches) (journal_rows batches)
  written_read batches h = batches_read 1 batches h.in_range h.numbers (omega (arith, h.few))

-- the text of a list of batches has one line for each record of these batches
journal_text-lines : (batches : List NumberedChanges) → journal_text batches ≡ flat_map record_line (flat_map batch_records batches)
journal_text-lines [] = refl
journal_text-lines (b ∷ bs) = rw (flat_map-append record_line (batch_records b) (flat_map batch_records bs)) (ap (λ more. batch_text b ++ more) (journal_text-lines bs))

-- Let the first three bytes of a line not be a byte order mark. Then no byte is skipped at the
-- start of a text that begins with this line.
no_mark_line : (a b c : ℕ) (x : List ℕ) (xs : List (List ℕ)) (tail : List ℕ) → is_bom a b c ≡ false
    → strip_bom (record_line ((a ∷ b ∷ c ∷ x) ∷ xs) ++ tail) ≡ record_line ((a ∷ b ∷ c ∷ x) ∷ xs) ++ tail
unfolding strip_bom
no_mark_line a b c x xs tail other = rw (line_text-cons (a ∷ b ∷ c ∷ x) xs) (rw other refl)

no_mark_batch : (cs : List Change) (number count : ℕ) (more : List (List (List ℕ)))
    → let text : List ℕ = flat_map record_line ((map change_fields cs ++ (end_fields number count ∷ [])) ++ more) in strip_bom text ≡ text
no_mark_batch [] number count more = no_mark_line _ _ _ _ _ _ refl
no_mark_batch (change.Put link ∷ cs) number count more = no_mark_line _ _ _ _ _ _ refl
no_mark_batch (other ∷ cs) number count more = no_mark_line _ _ _ _ _ _ refl

no_mark : (batches : List NumberedChanges) → strip_bom (flat_map record_line (flat_map batch_records batches)) ≡ flat_map record_line (flat_map batch_records batches)
unfolding strip_bom
no_mark [] = refl
no_mark (b ∷ bs) = no_mark_batch b.changes b.number (length b.changes) (flat_map batch_records bs)

pub texts_cut : AreRowsReadBack → (batches : List NumberedChanges) → AreWritable batches → rows_of (journal_text batches) ≡ flat_map batch_records batches
texts_cut laws batches h =
    rw (journal_text-lines batches) (rows_of-lines (flat_map batch_records batches) (written_read laws batches h).plain (no_mark batches))

pub journals_read_back : AreRowsReadBack → (batches : List NumberedChanges) → AreWritable batches → IsJournal (rows_of (journal_text batches)) batches rest.Clean
journals_read_back laws batches h = rw (texts_cut laws batches h) (record {
  left = [];
  begins = record {
    numbers = h.numbers;
    front = flat_map batch_records batches;
    split = sym (append-nil (flat_map batch_records batches));
    rows = (written_read laws batches h).read;
  };
  longest = λ others more begins. omega arith;
  is_rest = refl;
})
