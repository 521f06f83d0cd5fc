-- If no field needs quotes, the lines that are written for records are cut into these records.
use Rattle.std.proofs.Common.{◌≡◌, ℕ, zero, suc, ◌≤◌, List, [], ◌∷◌, ◌++◌, length, refl, sym, ap, ◌∙◌, append_assoc, arith}
use Rattle.std.proofs.lemmas.List.{length-append}
use Rattle.std.specs.List.{flat_map}
use Rattle.csv.specs.Machine.{next_record}
use Rattle.csv.specs.Reading.{default_config, records_from, strip_bom}
use Rattle.csv.specs.Writing.{default_writer, fields_text, row_text, is_blank}
use Rattle.csv.specs.declared.parser.State.TheVariants as st
use Rattle.csv.proofs.RoundTrip.{read-write-many}
use Rattle.cspf_rows.specs.BatchText.{record_line, fields_after}
use Rattle.cspf_rows.specs.Records.{rows_of}
use Rattle.cspf_rows.proofs.Lines.{line_text-cons}
use Rattle.cspf_rows.proofs.PlainFields.{AreUnquoted}

-- a record of at least two fields, where no field needs quotes
abbrev pub IsUnquotedRecord : List (List ℕ) → Type 0
IsUnquotedRecord [] = ⊥
IsUnquotedRecord (x ∷ []) = ⊥
IsUnquotedRecord (x ∷ y ∷ ys) = AreUnquoted (x ∷ y ∷ ys)

abbrev pub AreUnquotedRecords : List (List (List ℕ)) → Type 0
AreUnquotedRecords [] = Unit {0}
AreUnquotedRecords (r ∷ rs) = IsUnquotedRecord r × AreUnquotedRecords rs

fields_text-unquoted : (xs : List (List ℕ)) → AreUnquoted xs → fields_text default_writer xs ≡ fields_after xs
unfolding fields_text
fields_text-unquoted [] h = refl
fields_text-unquoted (x ∷ xs) h = rw h.0 (ap (λ rest. 44 ∷ (x ++ rest)) (fields_text-unquoted xs h.1))

-- if no field of a record needs quotes, `record_line` gives the text that `csv` writes for this
-- record
pub line_text-row_text : (x y : List ℕ) (ys : List (List ℕ)) → AreUnquoted (x ∷ y ∷ ys) → record_line (x ∷ y ∷ ys) ≡ row_text default_writer (x ∷ y ∷ ys)
unfolding is_blank
line_text-row_text x y ys h =
    line_text-cons x (y ∷ ys)
    ∙ rw (h.0, fields_text-unquoted (y ∷ ys) h.1) (sym (append_assoc x (fields_after (y ∷ ys)) (10 ∷ [])))

-- a stream with no bytes left has no records left
pub none_left : (n : ℕ) → records_from default_config n st.StartRecord [] ≡ []
unfolding records_from next_record
none_left zero = refl
none_left (suc n) = refl

next_line : (n : ℕ) (r : List (List ℕ)) (tail : List ℕ) → IsUnquotedRecord r
    → records_from default_config (suc n) st.StartRecord (record_line r ++ tail) ≡ r ∷ records_from default_config n st.StartRecord tail
unfolding records_from
next_line n [] tail h = absurd h
next_line n (x ∷ []) tail h = absurd h
next_line n (x ∷ y ∷ ys) tail h = rw (line_text-row_text x y ys h, read-write-many x y ys tail) refl

cut_lines : (n : ℕ) (rs : List (List (List ℕ))) → length rs ≤ n → AreUnquotedRecords rs → records_from default_config n st.StartRecord (flat_map record_line rs) ≡ rs
cut_lines n [] few h = none_left n
cut_lines zero (r ∷ rs) few h = absurd (omega arith)
cut_lines (suc n) (r ∷ rs) few h = next_line n r (flat_map record_line rs) h.0 ∙ ap (λ more. r ∷ more) (cut_lines n rs (omega arith) h.1)

-- a line followed by a text has at least one byte more than this text alone
line_text-some : (r : List (List ℕ)) (tail : List ℕ) → suc (length tail) ≤ length (record_line r ++ tail)
unfolding record_line
line_text-some r tail = simp length-append (omega arith)

lines_enough : (rs : List (List (List ℕ))) → length rs ≤ length (flat_map record_line rs)
lines_enough [] = omega arith
lines_enough (r ∷ rs) = omega (arith, line_text-some r (flat_map record_line rs), lines_enough rs)

-- Let no field of the records need quotes. If the text of their lines doesn't begin with a byte
-- order mark, it is cut into these records.
pub rows_of-lines : (rs : List (List (List ℕ))) → AreUnquotedRecords rs → strip_bom (flat_map record_line rs) ≡ flat_map record_line rs → rows_of (flat_map record_line rs) ≡ rs
unfolding rows_of
rows_of-lines rs h no_mark = rw no_mark (cut_lines _ rs (omega (arith, lines_enough rs)) h)
