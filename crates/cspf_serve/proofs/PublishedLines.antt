-- The batches of a journal that are published, one after the other, and the lines of their
-- versions.
use Rattle.std.proofs.Common.{◌≡◌, ℕ, zero, suc, ◌+◌, ◌<◌, ◌≤◌, Bool, true, false, Option, IfSome, List, [], ◌∷◌, ◌++◌, take, get_or, length, refl, sym, ◌∙◌, subst, append-nil, add-one, arith, Result, Ok, Err, IfOk, IfErr, rules}
use Rattle.std.proofs.lemmas.Grind.{flat_map-append, common_steps}
use Rattle.std.proofs.Math.Seq.{take-suc}
use Rattle.std.specs.Option.{option_map}
use Rattle.cspf_model.specs.declared.refusal.Refusal.{Refusal}
use Rattle.cspf_model.specs.Numbered.{NumberedChanges, AreNumberedFrom}
use Rattle.cspf_model.specs.Changes.{database_after}
use Rattle.cspf_model.specs.Refusals.{IsRefusal}
use Rattle.cspf_publish.specs.ApplyErrors.{IsApplyError}
use Rattle.cspf_publish.specs.PublisherStates.{PublisherState}
use Rattle.cspf_publish.specs.declared.errors.ApplyError.{ApplyError}
use Rattle.cspf_rows.specs.declared.journal.Rest.{Rest}
use Rattle.cspf_rows.specs.declared.journal.Rest.TheVariants as rest
use Rattle.cspf_rows.specs.declared.journal.reader.JournalReader.{JournalReader}
use Rattle.cspf_rows.specs.declared.read_error.ReadError.{ReadError}
use Rattle.cspf_rows.specs.declared.read_error.ReadError.TheVariants as read_error
use Rattle.cspf_rows.specs.GivenBatches.{HasGiven}
use Rattle.cspf_rows.specs.Journal.{IsJournal}
use Rattle.cspf_rows.specs.Records.{rows_of, Records}
use Rattle.cspf_stream.specs.declared.batch_refusal.BatchRefusal.TheVariants as refusal
use Rattle.cspf_judge.specs.declared.line.JudgeLine.{JudgeLine}
use Rattle.cspf_judge.specs.declared.early_end.EarlyEnd.{EarlyEnd}
use Rattle.cspf_judge.specs.declared.early_end.EarlyEnd.TheVariants as early_end
use Rattle.cspf_stream.specs.Lines.{version_line, refused_batch_line}
use Rattle.cspf_judge.specs.LineTexts.{judge_line_text}
use Rattle.cspf_judge.specs.Inputs.{torn_line, AreBatchesOf, IsJournalRefused}
use Rattle.cspf_serve.specs.BatchRun.{version_lines}
use Rattle.std.specs.Io.KnownBytes.{Appends}
use Rattle.cspf_judge.proofs.Fronts.{front_in_list}
use Rattle.cspf_judge.specs.EarlyEnds.{IfRefused, IsJournalLine, WritesFront}
use Rattle.cspf_serve.specs.EarlyEnds.{IsOwnFaultLine}
use Rattle.cspf_serve.specs.PublishedBatches.{IsUnfitBehind, ArePublishedOrRefused}

-- the batch at index `i` has the number `first + i`
pub number_at : (first : ℕ) (bs : List NumberedChanges) (i : ℕ) (d : NumberedChanges) → AreNumberedFrom first bs → i < length bs
    → (get_or bs i d).number ≡ first + i
number_at first [] i d numbered within = absurd (omega arith)
number_at first (b ∷ bs) zero d numbered within = let is = numbered.0 in omega arith
number_at first (b ∷ bs) (suc i) d numbered within = let is = number_at (first + 1) bs i d numbered.1 (omega arith) in omega arith

-- the lines of the first `made` versions, followed by the line of the next version, are the lines
-- of the first `made + 1` versions
pub version_more : (bs : List NumberedChanges) (made : ℕ) → AreNumberedFrom 1 bs → made < length bs
    → version_lines (take made bs) ++ version_line (made + 1) ≡ version_lines (take (made + 1) bs)
version_more bs made numbered within =
    let none : NumberedChanges = record { number = 0; changes = [] } in
    let number : (get_or bs made none).number ≡ made + 1 = number_at 1 bs made none numbered within ∙ omega arith in
    rw (add-one made, take-suc bs made none within, ← add-one made) (simp flat_map-append (rw (number, append-nil (version_line (made + 1))) refl))

-- The lines of the first `made` versions are written, and then a prefix of the next version's line.
-- This output is a prefix of the lines of all versions.
pub version_front : (bs : List NumberedChanges) (made : ℕ) (old mid new : Option (List ℕ)) → AreNumberedFrom 1 bs → made < length bs
    → Appends old mid (version_lines (take made bs)) → WritesFront mid new (version_line (made + 1)) → WritesFront old new (version_lines bs)
version_front bs made old mid new numbered within before begun =
    let none : NumberedChanges = record { number = 0; changes = [] } in
    let number : (get_or bs made none).number ≡ made + 1 = number_at 1 bs made none numbered within ∙ omega arith in
    front_in_list (λ (b : NumberedChanges). version_line b.number) bs made (get_or bs made none) none old mid new within refl before
    (subst (λ (n : ℕ). WritesFront mid new (version_line n)) (sym number) begun)

-- the last batch has the number `first` plus the count of the batches before it
last_number : (first : ℕ) (bs : List NumberedChanges) (b : NumberedChanges) → AreNumberedFrom first (bs ++ (b ∷ [])) → b.number ≡ first + length bs
last_number first [] b numbered = let is = numbered.0 in omega arith
last_number first (x ∷ bs) b numbered = let is = last_number (first + 1) bs b numbered.1 in omega arith

-- if a batch with the next number is refused by a line, this batch doesn't fit
shown_unfit : {W : Type 0} (contents : W → Option (List ℕ)) (p after : PublisherState W) (b : NumberedChanges) (e : ApplyError) (line : List ℕ)
    → b.number ≡ length p.batches + 1 → length p.batches + 1 ≤ 1000000 → IsApplyError contents p after b e → IsOwnFaultLine e b.number line
    → (why : Refusal) × IsRefusal (database_after p.batches) b why × (line ≡ refused_batch_line b.number (refusal.Unfit why))
shown_unfit contents p after b e line number room is shown = search rules

-- if the batch after the published batches is refused by a line, it doesn't fit
pub unfit_here : {W : Type 0} (contents : W → Option (List ℕ)) (p after : PublisherState W) (given : List NumberedChanges) (b : NumberedChanges) (e : ApplyError) (line : List ℕ)
    → AreNumberedFrom 1 (given ++ (b ∷ [])) → length given + 1 ≤ 1000000 → p.batches ≡ given → after.batches ≡ p.batches
    → IsApplyError contents p after b e → IsOwnFaultLine e b.number line → IsUnfitBehind (given ++ (b ∷ [])) after.batches line
unfit_here contents p after given b e line numbered room published same is shown = search (rules, last_number, shown_unfit)

-- ---- the whole journal is read

module _ (accept_torn : Bool) (given published : List NumberedChanges) (unfit : Option JudgeLine) (is : ArePublishedOrRefused given published unfit) where
  accepted : (rows : Records) (left : Rest) → (left ≡ rest.Torn → accept_torn ≡ true) → IsJournal rows given left → length rows ≤ 1000000 → AreBatchesOf accept_torn rows given
  accepted rows left torn journal few = grind (arith, common_steps)

  -- The journal that was read has the batches `given`. All of them are published, or only the
  -- batches before the first batch that doesn't fit.
  pub journal_read : (all : Option (List (List (List ℕ)))) (left : Rest) → (left ≡ rest.Torn → accept_torn ≡ true)
      → IfSome all (λ rows. IsJournal rows given left × (length rows ≤ 1000000))
      → IfSome all (λ rows. (batches : List NumberedChanges) × AreBatchesOf accept_torn rows batches × ArePublishedOrRefused batches published unfit)
  journal_read all left torn journal = search rules

-- if rows follow the last batch of a journal and `accept_torn` is false, the journal is refused
pub journal_torn : (accept_torn : Bool) (given : List NumberedChanges) (count : ℕ) (all : Option (List (List (List ℕ)))) (left : Rest) (line : List ℕ)
    → length given ≡ count → IfSome all (λ rows. IsJournal rows given left × (length rows ≤ 1000000))
    → (left ≡ rest.Torn) × (accept_torn ≡ false) × (line ≡ torn_line count) → IfSome all (λ rows. IsJournalRefused accept_torn rows line)
journal_torn accept_torn given count all left line counted journal is = search rules

-- if a journal has too many rows, this line refuses the journal; other faults of reading have no
-- line
pub journal_unread : (accept_torn : Bool) (all : Option (List (List (List ℕ)))) (why : ReadError) (line : List ℕ)
    → (why ≡ read_error.TooManyRows → IfSome all (λ rows. 1000000 < length rows)) → IsJournalLine why line → IfSome all (λ rows. IsJournalRefused accept_torn rows line)
journal_unread accept_torn all why line many is = search rules

-- ---- the bytes of a journal

of_bytes : (bytes : Option (List ℕ)) (Holds : Records → Type 0) → IfSome (option_map rows_of bytes) Holds → IfSome bytes (λ text. Holds (rows_of text))
of_bytes bytes Holds is = search rules

module _ {R : Type 0} (accept_torn : Bool) (rem : R → Option (List ℕ)) (reader : JournalReader R) (bytes : Option (List ℕ)) where
  -- If the published batches are right for any records that the journal's reader may have read,
  -- they are right for the records in the journal's bytes. Nothing is stated if these bytes aren't
  -- known.
  pub read_of_bytes : (published : List NumberedChanges) (r : Result (Option JudgeLine) EarlyEnd) → HasGiven rem (option_map rows_of bytes) reader []
      → IfOk r (λ unfit. (all : Option (List (List (List ℕ)))) → HasGiven rem all reader []
      → IfSome all (λ rows. (batches : List NumberedChanges) × AreBatchesOf accept_torn rows batches × ArePublishedOrRefused batches published unfit))
      → IfOk r (λ unfit. IfSome bytes (λ text. (batches : List NumberedChanges) × AreBatchesOf accept_torn (rows_of text) batches × ArePublishedOrRefused batches published unfit))
  read_of_bytes published (Err end) none is = tt
  read_of_bytes published (Ok unfit) none is =
      of_bytes bytes (λ rows. (batches : List NumberedChanges) × AreBatchesOf accept_torn rows batches × ArePublishedOrRefused batches published unfit)
      (is (option_map rows_of bytes) none)

  pub refused_of_bytes : (r : Result (Option JudgeLine) EarlyEnd) → HasGiven rem (option_map rows_of bytes) reader []
      → IfErr r (λ end. IfRefused end (λ line. (all : Option (List (List (List ℕ)))) → HasGiven rem all reader []
      → IfSome all (λ rows. IsJournalRefused accept_torn rows line)))
      → IfErr r (λ end. IfRefused end (λ line. IfSome bytes (λ text. IsJournalRefused accept_torn (rows_of text) line)))
  refused_of_bytes (Err (early_end.Refused line)) none is =
      of_bytes bytes (λ rows. IsJournalRefused accept_torn rows (judge_line_text line)) (is (option_map rows_of bytes) none)
  refused_of_bytes r none is = tt
