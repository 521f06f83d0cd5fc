-- If records are written as text for `keep`, the writer of accepted rows, this text is read as the
-- same records.
use Rattle.std.proofs.Common.{◌≡◌, ℕ, zero, suc, ◌≤◌, ◌<◌, ◌^◌, false, List, [], ◌∷◌, ◌++◌, length, refl, sym, ap, subst, ◌∙◌, arith}
use Rattle.std.proofs.lemmas.List.{length-append}
use Rattle.std.specs.List.{flat_map, AllByRecursion}
use Rattle.csv.specs.Reading.{default_config, records_from, strip_bom, is_bom}
use Rattle.csv.specs.Writing.{default_writer, field_text, row_text}
use Rattle.csv.specs.declared.parser.State.TheVariants as st
use Rattle.csv.proofs.RoundTrip.{read-write-many}
use Rattle.cspf_model.specs.declared.batch.Change.{Change}
use Rattle.cspf_model.specs.declared.batch.Change.TheVariants as change
use Rattle.cspf_rows.specs.BatchText.{record_line, change_fields}
use Rattle.cspf_rows.specs.JournalLaws.{IsChangeInRange}
use Rattle.cspf_rows.specs.Records.{rows_of}
use Rattle.cspf_rows.specs.Written.{end_fields}
use Rattle.cspf_rows.proofs.BatchRecords.{AreRowsReadBack, change_unquoted, end_unquoted}
use Rattle.cspf_rows.proofs.CutLines.{line_text-row_text, none_left}

-- A record of at least two fields. The first field needs no quotes, and its first three bytes
-- aren't a byte order mark.
pub record StartsPlain (fields : List (List ℕ)) : Type 0 where
  pub a : ℕ
  pub b : ℕ
  pub c : ℕ
  pub word : List ℕ
  pub second : List ℕ
  pub others : List (List ℕ)
  pub is : fields ≡ (a ∷ b ∷ c ∷ word) ∷ second ∷ others
  pub no_mark : is_bom a b c ≡ false
  pub plain : field_text default_writer (a ∷ b ∷ c ∷ word) ≡ a ∷ b ∷ c ∷ word

next_row : (n : ℕ) (x y : List ℕ) (ys : List (List ℕ)) (tail : List ℕ)
    → records_from default_config (suc n) st.StartRecord (row_text default_writer (x ∷ y ∷ ys) ++ tail) ≡ (x ∷ y ∷ ys) ∷ records_from default_config n st.StartRecord tail
unfolding records_from
next_row n x y ys tail = rw (read-write-many x y ys tail) refl

next_plain : (n : ℕ) (r : List (List ℕ)) (tail : List ℕ) → StartsPlain r
    → records_from default_config (suc n) st.StartRecord (row_text default_writer r ++ tail) ≡ r ∷ records_from default_config n st.StartRecord tail
next_plain n r tail h =
    subst (λ (x : List (List ℕ)). records_from default_config (suc n) st.StartRecord (row_text default_writer x ++ tail) ≡ x ∷ records_from default_config n st.StartRecord tail) (sym h.is)
    (next_row n (h.a ∷ h.b ∷ h.c ∷ h.word) h.second h.others tail)

cut_rows : (n : ℕ) (rs : List (List (List ℕ))) → length rs ≤ n → AllByRecursion StartsPlain rs → records_from default_config n st.StartRecord (flat_map (row_text default_writer) rs) ≡ rs
cut_rows n [] few h = none_left n
cut_rows zero (r ∷ rs) few h = absurd (omega arith)
cut_rows (suc n) (r ∷ rs) few h = next_plain n r (flat_map (row_text default_writer) rs) h.0 ∙ ap (λ more. r ∷ more) (cut_rows n rs (omega arith) h.1)

-- The text of a row has at least one byte.
some_bytes : (r : List (List ℕ)) (tail : List ℕ) → suc (length tail) ≤ length (row_text default_writer r ++ tail)
some_bytes r tail = simp length-append (omega arith)

enough_bytes : (rs : List (List (List ℕ))) → length rs ≤ length (flat_map (row_text default_writer) rs)
enough_bytes [] = omega arith
enough_bytes (r ∷ rs) = omega (arith, some_bytes r (flat_map (row_text default_writer) rs), enough_bytes rs)

-- Let the first three bytes of a row not be a byte order mark. Then a text that begins with this
-- row has no byte order mark at its start.
no_mark_text : (a b c : ℕ) (word second : List ℕ) (others : List (List ℕ)) (tail : List ℕ) → is_bom a b c ≡ false
    → field_text default_writer (a ∷ b ∷ c ∷ word) ≡ a ∷ b ∷ c ∷ word
    → strip_bom (row_text default_writer ((a ∷ b ∷ c ∷ word) ∷ second ∷ others) ++ tail) ≡ row_text default_writer ((a ∷ b ∷ c ∷ word) ∷ second ∷ others) ++ tail
unfolding strip_bom
no_mark_text a b c word second others tail other plain = rw plain (rw other refl)

no_mark_row : (r : List (List ℕ)) (tail : List ℕ) → StartsPlain r → strip_bom (row_text default_writer r ++ tail) ≡ row_text default_writer r ++ tail
no_mark_row r tail h =
    subst (λ (x : List (List ℕ)). strip_bom (row_text default_writer x ++ tail) ≡ row_text default_writer x ++ tail) (sym h.is)
    (no_mark_text h.a h.b h.c h.word h.second h.others tail h.no_mark h.plain)

no_mark_rows : (rs : List (List (List ℕ))) → AllByRecursion StartsPlain rs → strip_bom (flat_map (row_text default_writer) rs) ≡ flat_map (row_text default_writer) rs
unfolding strip_bom
no_mark_rows [] h = refl
no_mark_rows (r ∷ rs) h = no_mark_row r (flat_map (row_text default_writer) rs) h.0

-- If `StartsPlain` holds for each record, the text of these records is read as the same records.
pub kept_cut : (rs : List (List (List ℕ))) → AllByRecursion StartsPlain rs → rows_of (flat_map (row_text default_writer) rs) ≡ rs
unfolding rows_of
kept_cut rs h = rw (no_mark_rows rs h) (cut_rows _ rs (omega (arith, enough_bytes rs)) h)

-- ---- the records of a batch

-- `StartsPlain` holds for the record, and `record_line` gives the text that `csv` writes for it
pub record IsPlainRecord (fields : List (List ℕ)) : Type 0 where
  pub starts : StartsPlain fields
  pub line : record_line fields ≡ row_text default_writer fields

pub change_plain : AreRowsReadBack → (c : Change) → IsChangeInRange c → IsPlainRecord (change_fields c)
change_plain laws (change.Put link) range = record {
  starts = record { a = 112; b = 117; c = 116; word = []; second = _; others = _; is = refl; no_mark = refl; plain = refl };
  line = line_text-row_text _ _ _ (change_unquoted laws (change.Put link) range);
}
change_plain laws (change.Remove from local) range = record {
  starts = record { a = 100; b = 114; c = 111; word = 112 ∷ []; second = _; others = _; is = refl; no_mark = refl; plain = refl };
  line = line_text-row_text _ _ _ (change_unquoted laws (change.Remove from local) range);
}
change_plain laws (change.Node router transit) range = record {
  starts = record { a = 110; b = 111; c = 100; word = 101 ∷ []; second = _; others = _; is = refl; no_mark = refl; plain = refl };
  line = line_text-row_text _ _ _ (change_unquoted laws (change.Node router transit) range);
}

pub end_plain : (number count : ℕ) → number < 2 ^ 32 → count < 2 ^ 32 → IsPlainRecord (end_fields number count)
end_plain number count small few = record {
  starts = record { a = 101; b = 110; c = 100; word = []; second = _; others = _; is = refl; no_mark = refl; plain = refl };
  line = line_text-row_text _ _ _ (end_unquoted number count small few);
}

pub lines_rows : (rs : List (List (List ℕ))) → AllByRecursion IsPlainRecord rs → flat_map record_line rs ≡ flat_map (row_text default_writer) rs
lines_rows [] h = refl
lines_rows (r ∷ rs) h = rw (h.0.line, lines_rows rs h.1) refl

pub rows_start : (rs : List (List (List ℕ))) → AllByRecursion IsPlainRecord rs → AllByRecursion StartsPlain rs
rows_start [] h = tt
rows_start (r ∷ rs) h = (h.0.starts, rows_start rs h.1)
