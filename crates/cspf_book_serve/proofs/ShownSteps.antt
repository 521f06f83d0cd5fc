-- What is written to the journal if the text of a row is kept and its batch isn't published.
use Rattle.std.proofs.Common.{◌≡◌, ℕ, ◌<◌, List, [], ◌∷◌, ◌++◌, take, length, Option, length-append, sym, subst, arith}
use Rattle.std.specs.Io.KnownBytes.{Appends}
use Rattle.std.specs.List.{flat_map, join_with_byte}
use Rattle.std.proofs.KnownBytes.{Appends-nil}
use Rattle.cspf_model.specs.Numbered.{NumberedChanges}
use Rattle.cspf_publish.specs.ApplyErrors.{IsApplyError}
use Rattle.cspf_publish.specs.PublisherStates.{PublisherState}
use Rattle.cspf_publish.specs.declared.errors.ApplyError.{ApplyError}
use Rattle.cspf_publish.specs.declared.errors.ApplyError.TheVariants as error
use Rattle.cspf_rows.specs.BatchText.{batch_text, record_line}
use Rattle.cspf_book_serve.specs.ShownStates.{written_of}

some_line : (fields : List (List ℕ)) → 0 < length (record_line fields)
unfolding record_line
some_line fields = omega (arith, length-append (join_with_byte 44 fields) (10 ∷ []))

some_lines : (rows : List (List (List ℕ))) (fields : List (List ℕ)) → 0 < length (flat_map record_line (rows ++ fields ∷ []))
some_lines [] fields = omega (arith, some_line fields, length-append (record_line fields) [])
some_lines (row ∷ rows) fields = omega (arith, some_line row, length-append (record_line row) (flat_map record_line (rows ++ fields ∷ [])))

-- The text of a batch has at least its `end` row.
pub some_text : (b : NumberedChanges) → 0 < length (batch_text b)
some_text b = some_lines _ _

-- If a publisher is unchanged, nothing is written to its journal.
nothing_written : {J : Type 0} (recorded : J → Option (List ℕ)) (p p' : PublisherState J) → p' ≡ p → Appends (recorded p.journal) (recorded p'.journal) []
nothing_written {J} recorded p p' same = subst (λ (x : PublisherState J). Appends (recorded p.journal) (recorded x.journal) []) (sym same) (Appends-nil (recorded p.journal))

-- The front of the batch's text is written to the journal, and never the whole text.
pub journal_cut : {J : Type 0} (recorded : J → Option (List ℕ)) (p p' : PublisherState J) (b : NumberedChanges) (e : ApplyError) → IsApplyError recorded p p' b e
    → (written_of e < length (batch_text b)) × Appends (recorded p.journal) (recorded p'.journal) (take (written_of e) (batch_text b))
journal_cut recorded p p' b error.Stopped is = (some_text b, nothing_written recorded p p' is.1)
journal_cut recorded p p' b error.Exhausted is = (some_text b, nothing_written recorded p p' is.2)
journal_cut recorded p p' b (error.WrongNumber expected) is = (some_text b, nothing_written recorded p p' is.3)
journal_cut recorded p p' b (error.Refused refusal) is = (some_text b, nothing_written recorded p p' is.3)
journal_cut recorded p p' b error.Memory is = (some_text b, nothing_written recorded p p' is.1)
journal_cut recorded p p' b (error.Journal written) is = (is.2, is.3)
