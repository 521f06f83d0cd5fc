-- The output of a run that stops before its end.
use Rattle.std.specs.Prelude.{◌≡◌, ℕ, ◌<◌, ◌≤◌, ◌⊎◌, List, [], ◌∷◌, ◌++◌, take, length}
use Rattle.std.specs.declared.alloc.AllocError.{AllocError}
use Rattle.cspf_rows.specs.declared.limits.TheConstants.{MOST_ROWS}
use Rattle.cspf_rows.specs.Rows.{row_of}
use Rattle.cspf_stream.specs.Lines.{too_many_line, end_line}
use Rattle.cspf_stream.specs.declared.error.RunStop.{RunStop}
use Rattle.cspf_stream.specs.declared.error.RunStop.TheVariants as run_stop
use Rattle.cspf_solve.specs.Script.{RunState, start, at_next_row, IsRowAnswered, AreRowsAnswered}
use Rattle.cspf_solve.specs.declared.error.SolveError.{SolveError}
use Rattle.cspf_solve.specs.declared.error.SolveError.TheVariants as error

-- The rows `done` are the first rows of a stream, and a run answers them with the lines `lines`.
-- They are at most 1,000,000 rows.
pub record AreFirstAnswered (rows done rest : List (List (List ℕ))) (lines : List ℕ) (after : RunState) : Type 0 where
  pub split : rows ≡ done ++ rest
  pub few : length done ≤ MOST_ROWS
  pub answered : AreRowsAnswered start done lines after

-- the output is exactly the lines that answer a prefix of the rows
pub record IsBegunByRows (rows : List (List (List ℕ))) (out : List ℕ) : Type 0 where
  pub done : List (List (List ℕ))
  pub rest : List (List (List ℕ))
  pub after : RunState
  pub first : AreFirstAnswered rows done rest out after

-- `text` is the text that a run writes after the lines of the rows `done`: the line of the next
-- row, or the last line of the run
abbrev pub IsNextText : List (List (List ℕ)) → RunState → List (List (List ℕ)) → List ℕ → Type 0
IsNextText done s [] text = text ≡ end_line s.changes
IsNextText done s (fields ∷ rest) text =
    ((length done < MOST_ROWS) × (after : RunState) × IsRowAnswered (at_next_row s) (row_of fields) text after)
    ⊎ ((length done ≡ MOST_ROWS) × (text ≡ too_many_line))

-- The output is the lines of a prefix of the rows, followed by a part of the next text. This text
-- is cut off: at least its last byte is missing.
pub record IsCutOff (rows : List (List (List ℕ))) (out : List ℕ) : Type 0 where
  pub done : List (List (List ℕ))
  pub rest : List (List (List ℕ))
  pub lines : List ℕ
  pub after : RunState
  pub first : AreFirstAnswered rows done rest lines after
  pub text : List ℕ
  pub next : IsNextText done after rest text
  pub size : ℕ
  pub part : size < length text
  pub whole : out ≡ lines ++ take size text

-- After the errors `Memory` and `Read`, the output has only whole lines. After the error `Write`,
-- the output may be cut off within a line, and it has `written` bytes.
abbrev pub IsOutputAtError : SolveError → List (List (List ℕ)) → List ℕ → Type 0
IsOutputAtError error.Memory rows out = IsBegunByRows rows out
IsOutputAtError error.Read rows out = IsBegunByRows rows out
IsOutputAtError (error.Write written) rows out = IsCutOff rows out × (length out ≡ written)

-- Private: the error of a run that stops. The answer to a row fails only if memory is refused.
abbrev pub solve_error_of : RunStop AllocError → SolveError
solve_error_of run_stop.Memory = error.Memory
solve_error_of run_stop.Read = error.Read
solve_error_of (run_stop.Write written) = error.Write written
solve_error_of (run_stop.Answer refused) = error.Memory
