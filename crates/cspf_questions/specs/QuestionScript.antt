-- Defines the lines and the summary of a run over the rows of a stream that also ask questions, and
-- the output of a run that stops before its end.
use Rattle.std.specs.Prelude.{◌≡◌, ℕ, ◌+◌, ◌<◌, ◌≤◌, ◌⊎◌, List, [], ◌∷◌, ◌++◌, take, length}
use Rattle.cspf_rows.specs.declared.limits.TheConstants.{MOST_ROWS}
use Rattle.cspf_rows.specs.Records.{rows_of}
use Rattle.cspf_stream.specs.Lines.{last_line, too_many_line, end_line}
use Rattle.cspf_stream.specs.RowAnswers.{AnswersOf, AreAnswered}
use Rattle.cspf_questions.specs.QuestionRows.{read_fields}
use Rattle.cspf_questions.specs.QuestionLines.{IsQuestionReply, refused_question_line}
use Rattle.cspf_questions.specs.declared.kinds.QuestionKinds.{QuestionKinds}
use Rattle.cspf_questions.specs.declared.reading.ReadFields.{ReadFields}
use Rattle.cspf_questions.specs.declared.reading.ReadFields.TheVariants as reading
use Rattle.cspf_solve.specs.Script.{RunState, start, at_next_row, after_refused_row, after_reply, current_database, current_version, IsRowAnswered, is_too_many, summary_of}
use Rattle.cspf_solve.specs.declared.summary.Summary.{Summary}
use Rattle.cspf_solve.specs.declared.error.SolveError.TheVariants as error
use Rattle.cspf_questions.specs.declared.run_error.QuestionRunError.{QuestionRunError}
use Rattle.cspf_questions.specs.declared.run_error.QuestionRunError.TheVariants as run_error

-- Row `s.rows`, counted from 1, is answered with this line, and leads to the state `after`. A row of
-- a database is answered as in a run of `solve`. A question is answered in the database of the
-- accepted batches, and counts as an answer.
abbrev pub IsRunRowAnswered : RunState → ReadFields → List ℕ → RunState → Type 0
IsRunRowAnswered s (reading.Row r) line after = IsRowAnswered s r line after
IsRunRowAnswered s (reading.Question question) line after =
    IsQuestionReply (current_database s) (current_version s) question line × (after ≡ after_reply s)
IsRunRowAnswered s (reading.Refused why) line after =
    (line ≡ refused_question_line s.rows why) × (after ≡ after_refused_row s)

-- the row with these fields is answered with this line, if questions of these kinds are answered
abbrev pub IsFieldsAnswered : QuestionKinds → AnswersOf RunState
IsFieldsAnswered kinds place s fields line after = IsRunRowAnswered (at_next_row s) (read_fields kinds fields) line after

-- A run over rows in which questions of these kinds are answered: the first 1,000,000 rows are
-- answered one after the other, and the last line follows.
pub record IsQuestionRun (kinds : QuestionKinds) (rows : List (List (List ℕ))) (lines : List ℕ) (summary : Summary) : Type 0 where
  pub replies : List ℕ
  pub after : RunState
  pub answered : AreAnswered (IsFieldsAnswered kinds) 1 start (take MOST_ROWS rows) replies after
  pub whole : lines ≡ replies ++ last_line (is_too_many rows) after.changes
  pub counts : summary ≡ summary_of after (is_too_many rows)

-- the run over the rows of a stream of bytes has these lines and this summary
abbrev pub IsQuestionScript : QuestionKinds → List ℕ → List ℕ → Summary → Type 0
IsQuestionScript kinds bytes lines summary = IsQuestionRun kinds (rows_of bytes) lines summary

-- The rows `done` are the first rows of a stream, and a run answers them with the lines `lines`.
-- They are at most 1,000,000 rows.
pub record AreFirstWithQuestions (kinds : QuestionKinds) (rows done rest : List (List (List ℕ))) (lines : List ℕ) (after : RunState) : Type 0 where
  pub split : rows ≡ done ++ rest
  pub few : length done ≤ MOST_ROWS
  pub answered : AreAnswered (IsFieldsAnswered kinds) 1 start done lines after

-- the output is exactly the lines that answer a prefix of the rows
pub record IsBegunWithQuestions (kinds : QuestionKinds) (rows : List (List (List ℕ))) (out : List ℕ) : Type 0 where
  pub done : List (List (List ℕ))
  pub rest : List (List (List ℕ))
  pub after : RunState
  pub first : AreFirstWithQuestions kinds rows done rest out after

-- `text` is the text that a run writes after the lines of the rows `done`: the line of the next
-- row, or the last line of the run
abbrev pub IsNextWithQuestions : QuestionKinds → List (List (List ℕ)) → RunState → List (List (List ℕ)) → List ℕ → Type 0
IsNextWithQuestions kinds done s [] text = text ≡ end_line s.changes
IsNextWithQuestions kinds done s (fields ∷ rest) text =
    ((length done < MOST_ROWS) × (after : RunState) × IsFieldsAnswered kinds (1 + length done) s fields text after)
    ⊎ ((length done ≡ MOST_ROWS) × (text ≡ too_many_line))

-- The output is the lines of a prefix of the rows, followed by a part of the next text. This text
-- is cut off: at least its last byte is missing.
pub record IsCutOffWithQuestions (kinds : QuestionKinds) (rows : List (List (List ℕ))) (out : List ℕ) : Type 0 where
  pub done : List (List (List ℕ))
  pub rest : List (List (List ℕ))
  pub lines : List ℕ
  pub after : RunState
  pub first : AreFirstWithQuestions kinds rows done rest lines after
  pub text : List ℕ
  pub next : IsNextWithQuestions kinds done after rest text
  pub size : ℕ
  pub part : size < length text
  pub whole : out ≡ lines ++ take size text

-- After the errors `Memory`, `Read` and `Undecided`, the output has only whole lines. After the error
-- `Write`, the output may be cut off within a line, and it has `written` bytes.
abbrev pub IsQuestionOutputAtError : QuestionKinds → QuestionRunError → List (List (List ℕ)) → List ℕ → Type 0
IsQuestionOutputAtError kinds (run_error.Solve error.Memory) rows out = IsBegunWithQuestions kinds rows out
IsQuestionOutputAtError kinds (run_error.Solve error.Read) rows out = IsBegunWithQuestions kinds rows out
IsQuestionOutputAtError kinds (run_error.Solve (error.Write written)) rows out =
    IsCutOffWithQuestions kinds rows out × (length out ≡ written)
IsQuestionOutputAtError kinds run_error.Undecided rows out = IsBegunWithQuestions kinds rows out
