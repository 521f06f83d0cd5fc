-- What a run of a book has written if an error stops it: the lines, and the texts of accepted rows.
use Rattle.std.specs.Prelude.{◌≡◌, ℕ, suc, ◌<◌, ◌≤◌, ◌⊎◌, List, ◌∷◌, ◌++◌, [], take, length}
use Rattle.cspf_rows.specs.declared.limits.TheConstants.{MOST_ROWS}
use Rattle.cspf_stream.specs.Lines.{too_many_line, end_line}
use Rattle.cspf_solve.specs.declared.error.SolveError.{SolveError}
use Rattle.cspf_solve.specs.declared.error.SolveError.TheVariants as error
use Rattle.cspf_book_run.specs.KeptRuns.{KeptRunState, AreKeptRowsAnswered, IsRowCutOff, kept_run_answers}

-- The rows `done` are a prefix of `rows`, and are answered with these lines. They are at most
-- 1,000,000 rows.
pub record AreFirstBookRows (rows done rest : List (List (List ℕ))) (lines : List ℕ) (after : KeptRunState) : Type 0 where
  pub split : rows ≡ done ++ rest
  pub few : length done ≤ MOST_ROWS
  pub answered : AreKeptRowsAnswered done lines after

-- `out` has all lines that answer a prefix of the rows. `kept` has what was written to `keep`, the
-- writer of accepted rows, for this prefix.
pub record IsBookBegun (rows : List (List (List ℕ))) (out kept : List ℕ) : Type 0 where
  pub done : List (List (List ℕ))
  pub rest : List (List (List ℕ))
  pub after : KeptRunState
  pub first : AreFirstBookRows rows done rest out after
  pub whole_kept : kept ≡ after.kept

-- `text` is the text that is written next: the lines of the next row, or the last line of the run.
-- `after` is the state after it. What is written to `keep` for a row is written before its lines.
abbrev pub IsNextBookText : List (List (List ℕ)) → KeptRunState → List (List (List ℕ)) → List ℕ → KeptRunState → Type 0
IsNextBookText done s [] text after = (text ≡ end_line s.run.changes) × (after ≡ s)
IsNextBookText done s (fields ∷ rest) text after =
    ((length done < MOST_ROWS) × kept_run_answers (suc (length done)) s fields text after)
    ⊎ ((length done ≡ MOST_ROWS) × (text ≡ too_many_line) × (after ≡ s))

-- `out` has the lines that answer a prefix of the rows, and then a part of the next text, which is
-- cut off. `kept` has what was written to `keep` for this prefix, and for the row whose lines are
-- cut off.
pub record IsBookCutOff (rows : List (List (List ℕ))) (out kept : List ℕ) : Type 0 where
  pub done : List (List (List ℕ))
  pub rest : List (List (List ℕ))
  pub lines : List ℕ
  pub before : KeptRunState
  pub first : AreFirstBookRows rows done rest lines before
  pub text : List ℕ
  pub after : KeptRunState
  pub next : IsNextBookText done before rest text after
  pub size : ℕ
  pub part : size < length text
  pub whole : out ≡ lines ++ take size text
  pub whole_kept : kept ≡ after.kept

-- `out` has all lines that answer a prefix of the rows. A write to `keep` failed at the next row,
-- and this row is refused, but the line that refuses it is missing.
pub record IsRefusalUnsaid (rows : List (List (List ℕ))) (out kept : List ℕ) : Type 0 where
  pub done : List (List (List ℕ))
  pub fields : List (List ℕ)
  pub rest : List (List (List ℕ))
  pub before : KeptRunState
  pub first : AreFirstBookRows rows done (fields ∷ rest) out before
  pub few : length done < MOST_ROWS
  pub line : List ℕ
  pub after : KeptRunState
  pub cut_off : IsRowCutOff (suc (length done)) before fields line after
  pub whole_kept : kept ≡ after.kept

-- If memory is refused or a read fails, the output is all lines of a prefix of the rows. If memory
-- is refused for the line of a row at which a write to `keep` failed, the first bytes of this row's
-- text are at the end of `kept`. If a write of lines fails, the output may stop in the middle of a
-- row's lines, or of the last line. The error then has the number of bytes that were written.
abbrev pub IsBookOutputAtError : SolveError → List (List (List ℕ)) → List ℕ → List ℕ → Type 0
IsBookOutputAtError error.Memory rows out kept = IsBookBegun rows out kept ⊎ IsRefusalUnsaid rows out kept
IsBookOutputAtError error.Read rows out kept = IsBookBegun rows out kept
IsBookOutputAtError (error.Write written) rows out kept = IsBookCutOff rows out kept × (length out ≡ written)
